-- The station that a set keeps agrees with the stay and the channel that its history gives.
use Rattle.std.proofs.Common.{◌≡◌, ℕ, ◌+◌, ◌-◌, ◌≤◌, Bool, true, false, cond, not, leb, List, [], ◌∷◌, is_some, Some, None, Option, unwrap_or, refl, ap, arith, leb-false, leb-true}
use Rattle.signalling.specs.declared.content.Heard.{Heard}
use Rattle.signalling.specs.declared.content.Noted.{Noted}
use Rattle.signalling.specs.Reading.{moved, noted}
use Rattle.rules.specs.declared.card.Card.{Card}
use Rattle.rules.specs.declared.station.Stay.{Stay}
use Rattle.rules.specs.declared.station.Station.{Station}
use Rattle.rules.specs.Histories.{Presence, away, present, slots_of, silent, holds, hear, noted_in}
use Rattle.rules.specs.Stations.{new_stay, patient, kept, heeding, acted, followed}
use Rattle.rules.proofs.Tables.{FramesAre, none_yet, one_more}

-- a stay is that of the slots heard in it, with so many of the newest without a code: what is left of TS and these make TS; what is noted and the frames are theirs
pub record StillIs (card : Card) (st : Stay) (hs : List Heard) (n : ℕ) : Type 0 where
  pub sum : st.patience + n ≡ card.ts
  pub left : 1 ≤ st.patience
  pub notes : st.noted ≡ noted_in card.nw hs
  pub frames : FramesAre card.nw st.frames hs

abbrev pub StayIs : Card → Stay → List Heard → Type 0
StayIs card st hs = StillIs card st hs (silent hs)

abbrev pub PlaceIs : Card → Option Stay → Presence → Type 0
PlaceIs card None away = Unit {0}
PlaceIs card None (present hs) = ⊥
PlaceIs card (Some st) away = ⊥
PlaceIs card (Some st) (present hs) = StayIs card st hs

-- what is kept after a slot's code or its absence, beside what the history says of it; n counts the slots without a code
abbrev KeptAs : Card → Option Stay → Bool → List Heard → ℕ → Type 0
KeptAs card None false hs n = Unit {0}
KeptAs card None true hs n = ⊥
KeptAs card (Some st) false hs n = ⊥
KeptAs card (Some st) true hs n = StillIs card st hs n

module _ (accepts : ℕ → Bool) (card : Card) (some : 1 ≤ card.ts) where
  by-first-code : (b : Bool) → KeptAs card (cond b (Some (new_stay card)) None) b [] 0
  by-first-code true = record { sum = omega arith; left = some; notes = refl; frames = none_yet card.nw }
  by-first-code false = tt

  by_code : (st : Stay) (hs : List Heard) → StayIs card st hs → (b : Bool) → KeptAs card (cond b (Some (patient st card.ts)) None) b hs 0
  by_code st hs is true = record { sum = omega arith; left = some; notes = is.notes; frames = is.frames }
  by_code st hs is false = tt

  -- the TS-th slot in a row without a code is where no patience is left
  by_silence : (st : Stay) (hs : List Heard) → StayIs card st hs → (b c : Bool) → leb st.patience 1 ≡ b → leb card.ts (silent hs + 1) ≡ c → KeptAs card (cond b None (Some (patient st (st.patience - 1)))) (not c) hs (silent hs + 1)
  by_silence st hs is true true p q = tt
  by_silence st hs is true false p q = absurd (omega (arith, is.sum, is.left, leb-true _ _ p, leb-false _ _ q))
  by_silence st hs is false true p q = absurd (omega (arith, is.sum, leb-false _ _ p, leb-true _ _ q))
  by_silence st hs is false false p q = record { sum = omega (arith, is.sum, leb-false _ _ p); left = omega (arith, leb-false _ _ p); notes = is.notes; frames = is.frames }

  keeps_as : (st : Option Stay) (p : Presence) (code : Option ℕ) → PlaceIs card st p → KeptAs card (kept accepts card st code) (holds accepts card.ts p code) (slots_of p) (cond (is_some code) 0 (silent (slots_of p) + 1))
  keeps_as None away None a = tt
  keeps_as None away (Some code) a = by-first-code (accepts code)
  keeps_as None (present hs) None a = absurd a
  keeps_as None (present hs) (Some code) a = absurd a
  keeps_as (Some st) away None a = absurd a
  keeps_as (Some st) away (Some code) a = absurd a
  keeps_as (Some st) (present hs) None a = by_silence st hs a _ _ refl refl
  keeps_as (Some st) (present hs) (Some code) a = by_code st hs a (accepts code)

-- a stay that goes on with a slot is that of the slots with this one
heeds : (card : Card) (st : Stay) (h : Heard) (hs : List Heard) → StillIs card st hs (silent (h ∷ hs)) → StayIs card (heeding st h.content) (h ∷ hs)
heeds card st h hs is =
    let notes : unwrap_or (noted h.content) st.noted ≡ noted_in card.nw (h ∷ hs) = ap (unwrap_or (noted h.content)) is.notes in
    record { sum = is.sum; left = is.left; notes = notes; frames = one_more card.nw st.frames hs is.frames h _ (ap (λ (n : Noted). n.function) notes) }

-- the station after a slot, beside the stay and the channel that the history gives
pub record Stepped (card : Card) (after : Station) (p : Presence) (ch : ℕ) : Type 0 where
  pub place : PlaceIs card after.stay p
  pub tuned_to : after.channel ≡ ch

acts_as : (card : Card) (k : Option Stay) (b : Bool) (order : Option ℕ) (h : Heard) (hs : List Heard) (ch : ℕ) → KeptAs card k b hs (silent (h ∷ hs)) → Stepped card (acted k ch order h.content) (cond b (cond (is_some order) away (present (h ∷ hs))) away) (cond b (unwrap_or order ch) ch)
acts_as card None false order h hs ch a = record { place = tt; tuned_to = refl }
acts_as card None true order h hs ch a = absurd a
acts_as card (Some st) false order h hs ch a = absurd a
acts_as card (Some st) true None h hs ch a = record { place = heeds card st h hs a; tuned_to = refl }
acts_as card (Some st) true (Some new) h hs ch a = record { place = tt; tuned_to = refl }

pub follows_as : (accepts : ℕ → Bool) (card : Card) → 1 ≤ card.ts → (s : Station) (p : Presence) (h : Heard) → PlaceIs card s.stay p → Stepped card (followed accepts card s h) (hear accepts card h p) (cond (holds accepts card.ts p h.code) (unwrap_or (moved h.content card.address) s.channel) s.channel)
follows_as accepts card some s p h a =
    acts_as card _ _ (moved h.content card.address) h (slots_of p) s.channel (keeps_as accepts card some s.stay p h.code a)
