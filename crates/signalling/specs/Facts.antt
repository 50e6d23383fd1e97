-- Worked facts about the definitions, for a reader to check by hand.
use Rattle.std.specs.Prelude.{◌≡◌, ℕ, true, false}
use Rattle.signalling.specs.declared.content.Content.TheVariants.{Data, Reply}
use Rattle.signalling.specs.declared.content.FirstIdent.{FirstIdent}
use Rattle.signalling.specs.declared.content.ReplyKind.{ReplyKind}
use Rattle.signalling.specs.Tables.{four_bit_length, two_bit_length, wait_of}
use Rattle.signalling.specs.Division.{division, applicable, admits}
use Rattle.signalling.specs.Reading.{leaves_free}

pub record WorkedFacts : Type 0 where
  -- Aloha number 11 marks a frame of 12 slots, and 2 in Go To Channel one of 3
  pub eleven : four_bit_length 11 ≡ 12
  pub two : two_bit_length 2 ≡ 3
  -- WT 6 is a delay of 10 slots
  pub six : wait_of 6 ≡ 10
  -- the own address 5 is in the division M 2 address 9, and not in M 3 address 9
  pub inside : applicable (division 2 9) 5 ≡ true
  pub outside : applicable (division 3 9) 5 ≡ false
  -- an emergency is admitted under M 3 all the same, and not under M 20
  pub emergency : admits true (division 3 9) 5 ≡ true
  pub demanded : admits true (division 20 9) 5 ≡ false
  -- a reply leaves the next return slot free where its Aloha number is 0, to whomever it is
  pub reply : (kind : ReplyKind) (qual : ℕ) (first : FirstIdent) (to own : ℕ) → leaves_free (Reply kind qual 0 first to) own ≡ true
  -- data with RSA 0 withdraws it, whoever the message is for
  pub reserved : (mine own : ℕ) → leaves_free (Data 0 mine) own ≡ false
