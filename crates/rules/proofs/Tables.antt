-- The table of frames beside the slots of the stay.
use Rattle.std.proofs.Common.{◌≡◌, ℕ, zero, suc, ◌+◌, ◌-◌, ◌%◌, ◌<◌, ◌≤◌, Bool, true, false, ◌||◌, ◌≢◌, List, [], ◌∷◌, length, get_or, drop, set, refl, ap, ◌∙◌, subst, arith, length-set, get_or-set_other, get_or-set_same, eqb, cond, Some, None, Option, ltb-true}
use Rattle.std.proofs.lemmas.Bool.{and_parts}
use Rattle.std.proofs.lemmas.List.{get_or-replicate}
use borrow.Author.Tests.{clash}
use Rattle.signalling.specs.declared.content.Function.{Function}
use Rattle.signalling.specs.declared.content.Heard.{Heard}
use Rattle.signalling.specs.Reading.{marked}
use Rattle.rules.specs.declared.station.Frames.{Frames}
use Rattle.rules.specs.declared.station.Mark.{Mark}
use Rattle.rules.specs.Frames.{mark_of, no_frames, next_place, marking, slots_back, covers, covered_from, covered}
use Rattle.rules.specs.Histories.{noted_in, marked_back}

-- the index of the record of the slot so many back
abbrev pub index_back : ℕ → ℕ → ℕ
index_back place back = (place % 32 + 32 - back) % 32

-- the record of the slot so many back is what was marked there, under the function noted there
pub record FramesAre (nw : ℕ) (fs : Frames) (hs : List Heard) : Type 0 where
  pub whole : length fs.marks ≡ 32
  pub at : (back : ℕ) → back < 32 → get_or fs.marks (index_back fs.place back) None ≡ mark_of (noted_in nw (drop back hs)).function (marked_back hs back)

-- a stay begins with no frames
pub none_yet : (nw : ℕ) → FramesAre nw no_frames []
none_yet nw = record { whole = refl; at = λ back lt. get_or-replicate 32 (index_back 0 back) None None (omega arith) }

-- the new record is the newest slot's, and each older one is a slot further back
module _ (nw : ℕ) (fs : Frames) (hs : List Heard) (are : FramesAre nw fs hs) (h : Heard) (fn : Function) (is : fn ≡ (noted_in nw (h ∷ hs)).function) where
  abbrev new_marks : List (Option Mark)
  new_marks = set fs.marks (next_place fs.place) (mark_of fn (marked h.content))

  marked-at : (back : ℕ) → back < 32 → get_or new_marks (index_back (next_place fs.place) back) None ≡ mark_of (noted_in nw (drop back (h ∷ hs))).function (marked_back (h ∷ hs) back)
  marked-at zero lt =
      let here : index_back (next_place fs.place) 0 ≡ next_place fs.place = omega arith in
      let inside : next_place fs.place < length fs.marks = omega (arith, are.whole) in
      ap (λ i. get_or new_marks i None) here ∙ get_or-set_same fs.marks (next_place fs.place) (mark_of fn (marked h.content)) None inside ∙ ap (λ f. mark_of f (marked h.content)) is
  marked-at (suc b) lt =
      let there : index_back (next_place fs.place) (suc b) ≡ index_back fs.place b = omega arith in
      let other : index_back fs.place b ≢ next_place fs.place = omega arith in
      let same : get_or new_marks (index_back fs.place b) None ≡ get_or fs.marks (index_back fs.place b) None = rw get_or-set_other in
      ap (λ i. get_or new_marks i None) there ∙ same ∙ are.at b (omega arith)

  pub one_more : FramesAre nw (marking fs (mark_of fn (marked h.content))) (h ∷ hs)
  one_more = record { whole = length-set _ _ _ ∙ are.whole; at = marked-at }

-- some record of a list is of a frame that covers the next return slot under an inviting function
record Covering (invites : Function → Bool) (place index : ℕ) (ms : List (Option Mark)) : Type 0 where
  which : ℕ
  inside : which < length ms
  covering : covers invites (slots_back place (index + which)) (get_or ms which None) ≡ true

module _ (invites : Function → Bool) (place : ℕ) where
  either : (index : ℕ) (k : Option Mark) (ms : List (Option Mark)) (here rest : Bool) → covers invites (slots_back place index) k ≡ here → (rest ≡ true → Covering invites place (index + 1) ms) → (here || rest) ≡ true → Covering invites place index (k ∷ ms)
  either index k ms true rest p more e = record { which = 0; inside = omega arith; covering = subst (λ i. covers invites (slots_back place i) k ≡ true) (omega arith) p }
  either index k ms false rest p more e =
      let c = more e in
      record { which = suc c.which; inside = omega (arith, c.inside); covering = subst (λ i. covers invites (slots_back place i) (get_or ms c.which None) ≡ true) (omega arith) c.covering }

  found_from : (index : ℕ) (ms : List (Option Mark)) → covered_from invites place index ms ≡ true → Covering invites place index ms
  unfolding covered_from
  found_from index [] e = absurd (clash e)
  found_from index (k ∷ ms) e = either index k ms _ _ refl (λ more. found_from (index + 1) ms more) e

-- a mark that covers the next return slot is of a frame longer than so many slots, under an inviting function
covers-mark : (invites : Function → Bool) (back : ℕ) (f : Function) (n : ℕ) → covers invites back (mark_of f n) ≡ true → (invites f ≡ true) × (back < n)
covers-mark invites back f n e = go _ refl e
  where
    go : (b : Bool) → eqb n 0 ≡ b → covers invites back (cond b None (Some (record { function = f; slots = n }))) ≡ true → (invites f ≡ true) × (back < n)
    go true is e = absurd (clash e)
    go false is e = let both = and_parts _ _ e in (both.0, ltb-true _ _ both.1)

-- where an inviting frame covers the next return slot, it was marked so many slots back
pub record Back (nw : ℕ) (invites : Function → Bool) (hs : List Heard) : Type 0 where
  pub marker : ℕ
  pub covers : marker + 1 ≤ marked_back hs marker
  pub inviting : invites (noted_in nw (drop marker hs)).function ≡ true

pub covered-back : (nw : ℕ) (fs : Frames) (hs : List Heard) → FramesAre nw fs hs → (invites : Function → Bool) → covered invites fs ≡ true → Back nw invites hs
covered-back nw fs hs are invites e =
    let c = found_from invites fs.place 0 fs.marks e in
    let inside : c.which < 32 = omega (arith, c.inside, are.whole) in
    let marker = slots_back fs.place (0 + c.which) in
    let same : index_back fs.place marker ≡ c.which = omega arith in
    let is = subst (λ i. get_or fs.marks i None ≡ mark_of (noted_in nw (drop marker hs)).function (marked_back hs marker)) same (are.at marker (omega arith)) in
    let found = covers-mark invites marker _ _ (subst (λ k. covers invites marker k ≡ true) is c.covering) in
    record { marker = marker; covers = omega (arith, found.1); inviting = found.0 }
