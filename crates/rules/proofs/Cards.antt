-- What a card that is granted says of its numbers.
use Rattle.std.proofs.Common.{◌≡◌, ℕ, ◌≤◌, Ok, arith}
use Rattle.std.proofs.lemmas.Bool.Decides.{nat_tests}
use Rattle.rules.specs.declared.card.Card.{Card}
use Rattle.rules.specs.Cards.{card_judged}

pub record Ranged (card : Card) : Type 0 where
  pub nr_least : 1 ≤ card.nr
  pub nr_most : card.nr ≤ 32
  pub tc_least : 1 ≤ card.tc
  pub tc_most : card.tc ≤ 60000
  pub ts_least : 1 ≤ card.ts
  pub tj_least : 1 ≤ card.tj
  pub tj_most : card.tj ≤ 60000
  pub nw_most : card.nw ≤ 15

pub ranged : (card : Card) (channel : ℕ) → card_judged card channel ≡ Ok tt → Ranged card
ranged card channel granted = record {
  nr_least = grind (arith, nat_tests);
  nr_most = grind (arith, nat_tests);
  tc_least = grind (arith, nat_tests);
  tc_most = grind (arith, nat_tests);
  ts_least = grind (arith, nat_tests);
  tj_least = grind (arith, nat_tests);
  tj_most = grind (arith, nat_tests);
  nw_most = grind (arith, nat_tests);
}
