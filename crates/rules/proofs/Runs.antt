-- The run law, by what holds of a set beside its history from call to call.
use Rattle.std.proofs.Common.{◌≡◌, ℕ, List, [], ◌∷◌, refl, arith}
use Rattle.rules.specs.declared.card.Card.{Card}
use Rattle.rules.specs.declared.request.Condition.{Condition}
use Rattle.rules.specs.Histories.{Event, channel_in}
use Rattle.rules.specs.Law.{AtEvery, Moment, Run, made, tunes, begins, takes, sends, holds, cancels, hears, RunLaw}
use Rattle.rules.specs.Meanings.{Meaning, Lawful}
use Rattle.rules.proofs.Cards.{Ranged}
use Rattle.rules.proofs.Hearing.{slot_next}
use Rattle.rules.proofs.Answering.{tune_next, begin_next, take_next, sent_next, held_next, cancel_next}
use Rattle.rules.proofs.Tallies.{tally, Holds, Next, moment}

module _ {D S : Type 0} (m : Meaning D S) (lawful : Lawful m) (card : Card) (range : Ranged card) (start : ℕ) (source : D) where
  -- what every run keeps
  record Keeps (past : List (Event S)) (c : Condition D S) : Type 0 where
    held : Holds m card range (tally m card range past) c
    channel : c.station.channel ≡ channel_in m.accepts card start past
    moments : AtEvery (Moment m card) past

  step : (e : Event S) (past : List (Event S)) (c c' : Condition D S) → Keeps past c → Next m card range start e past c' → Keeps (e ∷ past) c'
  step e past c c' k n = record { held = n.holds; channel = n.channel; moments = (moment m card range (e ∷ past) c' n.holds n.lawful n.true_answer, k.moments) }

  keeps : {past : List (Event S)} {c : Condition D S} → Run m card start source past c → Keeps past c
  keeps made =
      let none : Holds m card range (tally m card range []) _ = record { place = tt; job = refl; out = refl; permits = refl; requests = refl; most = omega arith; soon = omega arith } in
      record { held = none; channel = refl; moments = moment m card range [] _ none tt tt }
  keeps (tunes {past = p} {c = c} run ch) = let k = keeps run in step _ p c _ k (tune_next m lawful card range start p c k.held k.channel ch)
  keeps (begins {past = p} {c = c} run v) = let k = keeps run in step _ p c _ k (begin_next m lawful card range start p c k.held k.channel v)
  keeps (takes {past = p} {c = c} run) = let k = keeps run in step _ p c _ k (take_next m lawful card range start p c k.held k.channel)
  keeps (sends {past = p} {c = c} run permit) = let k = keeps run in step _ p c _ k (sent_next m lawful card range start p c k.held k.channel permit)
  keeps (holds {past = p} {c = c} run permit) = let k = keeps run in step _ p c _ k (held_next m lawful card range start p c k.held k.channel permit)
  keeps (cancels {past = p} {c = c} run) = let k = keeps run in step _ p c _ k (cancel_next m lawful card range start p c k.held k.channel)
  keeps (hears {past = p} {c = c} run h) = let k = keeps run in step _ p c _ k (slot_next m lawful card range start p c k.held k.channel h)

  pub run_law : RunLaw m card start source
  run_law h c run = let k = keeps run in record { moments = k.moments; tuned_to = k.channel }
