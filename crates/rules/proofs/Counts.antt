-- Small facts about counts, delays and frame lengths.
use Rattle.std.proofs.Common.{◌≡◌, ℕ, ◌+◌, ◌<◌, ◌≤◌, List, [], ◌∷◌, unwrap_or, arith}
use Rattle.std.proofs.lemmas.Bool.Decides.{nat_tests}
use Rattle.signalling.specs.declared.content.Content.{Content}
use Rattle.signalling.specs.declared.content.Heard.{Heard}
use Rattle.signalling.specs.declared.content.Noted.{Noted}
use Rattle.signalling.specs.Reading.{marked, noted}
use Rattle.signalling.specs.Tables.{four_bit_length, two_bit_length, wait_of}
use Rattle.rules.specs.Histories.{noted_in}
use Rattle.rules.specs.Jobs.{raised}

-- a count far from its largest is raised by one
pub raised-one : (n : ℕ) → n < 4294967295 → raised n ≡ n + 1
raised-one n h = omega arith

four_bit_most : (n : ℕ) → four_bit_length n ≤ 32
four_bit_most n = grind (arith, nat_tests)

two_bit_most : (n : ℕ) → two_bit_length n ≤ 32
two_bit_most n = grind (arith, nat_tests)

-- no content marks a frame of more than 32 slots
pub marked_most : (content : Content) → marked content ≤ 32
marked_most content = grind (arith, four_bit_most, two_bit_most)

wait_most : (wt : ℕ) → wait_of wt ≤ 15
wait_most wt = grind (arith, nat_tests)

-- a delay that is noted, or else one of at most 15 slots, is at most 15 slots
noted-wait : (content : Content) (n : Noted) → n.wait ≤ 15 → (unwrap_or (noted content) n).wait ≤ 15
noted-wait content n h = grind (arith, wait_most)

-- the WAIT noted in a stay is at most 15 slots
pub wait-small : (nw : ℕ) → nw ≤ 15 → (hs : List Heard) → (noted_in nw hs).wait ≤ 15
wait-small nw h [] = h
wait-small nw h (r ∷ rs) = noted-wait r.content (noted_in nw rs) (wait-small nw h rs)
