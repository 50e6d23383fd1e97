-- The run law: what holds of every history of a set, whatever is called of it.
use Rattle.std.specs.Prelude.{◌≡◌, ℕ, ◌+◌, ◌<◌, ◌≤◌, Bool, true, false, cond, ◌⊎◌, List, [], ◌∷◌, drop, is_some, Some, None, Ok, Err, Option}
use Rattle.signalling.specs.declared.content.Function.{Function}
use Rattle.signalling.specs.declared.content.Function.TheVariants.{Alhe}
use Rattle.signalling.specs.declared.content.Heard.{Heard}
use Rattle.signalling.specs.Division.{admits}
use Rattle.rules.specs.declared.card.Card.{Card}
use Rattle.rules.specs.declared.request.Condition.{Condition}
use Rattle.rules.specs.declared.request.Job.TheVariants.{Free}
use Rattle.rules.specs.declared.station.State.{State}
use Rattle.rules.specs.Calls.{tune_answer, tuned, begin_answer, begun, take_answer, taken, back_answer, sent_back, held_back, cancel_answer, cancelled, slot_answer, slotted}
use Rattle.rules.specs.Histories.{Event, tune, begin, take, sent, held, cancel, slot, begun_by, ended_by, hands_over, transmits, holds_back, count, open_in, slots_heard, transmissions, slots_since, permit_out, Presence, away, present, slots_of, presence, noted_in, marked_back, free_next, wait_noted, channel_in}
use Rattle.rules.specs.Meanings.{Meaning}
use Rattle.rules.specs.Stations.{seeking_on}

-- the return slot so many ahead lies in a frame that lets a request in: marked by the slot f back, under a function that invites it, and with a division, heard c back and after begin, that admits it
pub record Reached (own nw : ℕ) (invites : Function → Bool) (emergency : Bool) (stay : List Heard) (age sends since ahead : ℕ) : Type 0 where
  pub marker : ℕ
  pub division : ℕ
  -- the division was noted with the marker or later, and since begin
  pub later : division ≤ marker
  pub since_begin : division < age
  -- the frame covers the slot, and its function invites
  pub covers : marker + ahead ≤ marked_back stay marker
  pub inviting : invites (noted_in nw (drop marker stay)).function ≡ true
  -- the division noted there lets the request in (7.3.1)
  pub admitted : admits emergency (noted_in nw (drop division stay)).division own ≡ true
  -- for a second or later transmission, the marker came after the one before
  pub fresh : 0 < sends → marker < since

-- some frame that covers the next return slot was marked under another function than ALHE
pub record NotOnlyAlhe (nw : ℕ) (stay : List Heard) : Type 0 where
  pub marker : ℕ
  pub covers : marker + 1 ≤ marked_back stay marker
  pub otherwise : (noted_in nw (drop marker stay)).function ≡ Alhe → ⊥

-- a state fits the stay and the request of a history
abbrev pub Fits : {S : Type 0} → State → Presence → Option S → Type 0
Fits state away request = state ≡ State.Seeking
Fits state (present hs) None = state ≡ State.Idle
Fits state (present hs) (Some s) = (state ≡ State.Trying) ⊎ (state ≡ State.Waiting)

-- something holds at every moment of a history
abbrev pub AtEvery : {S : Type 0} → (List (Event S) → Type 0) → List (Event S) → Type 0
AtEvery P [] = P []
AtEvery P (e ∷ past) = P (e ∷ past) × AtEvery P past

module _ {D S : Type 0} (m : Meaning D S) (card : Card) where
  -- the next return slot is open to the request of a history
  pub record Open (h : List (Event S)) : Type 0 where
    pub service : S
    pub requested : open_in h ≡ Some service
    pub reached : Reached card.address card.nw (m.invites service) (m.emergency service) (slots_of (presence m.accepts card h)) (slots_heard h) (transmissions h) (slots_since h) 1
    pub free : free_next card.address (slots_of (presence m.accepts card h)) ≡ true

  -- what holds where a transmission is made
  pub record Transmitted (h : List (Event S)) : Type 0 where
    -- no transmission outside a slot that is open to its request
    pub in_open_slot : Open h
    -- no ordinary transmission in a slot that only ALHE frames cover
    pub ordinary : (s : S) → open_in h ≡ Some s → m.emergency s ≡ false → NotOnlyAlhe card.nw (slots_of (presence m.accepts card h))
    -- every transmission but a request's first comes at least WAIT + 2 slots after the one before, by the WAIT noted at that one
    pub spaced : 0 < transmissions h → wait_noted m.accepts card h + 2 ≤ slots_since h

  -- the newest event of a history, if it was a transmission, was made where it may be
  abbrev pub NewestLawful : List (Event S) → Type 0
  NewestLawful [] = Unit {0}
  NewestLawful (e ∷ past) = transmits e ≡ true → Transmitted past

  -- the newest event of a history, if it was a granted slot call, told the state that fits it
  abbrev pub NewestTrue : List (Event S) → Type 0
  NewestTrue [] = Unit {0}
  NewestTrue (tune ch r ∷ past) = Unit {0}
  NewestTrue (begin s r ∷ past) = Unit {0}
  NewestTrue (take p ∷ past) = Unit {0}
  NewestTrue (sent p r ∷ past) = Unit {0}
  NewestTrue (held p r ∷ past) = Unit {0}
  NewestTrue (cancel r ∷ past) = Unit {0}
  NewestTrue (slot h (Ok t) ∷ past) = Fits t.state (presence m.accepts card (slot h (Ok t) ∷ past)) (open_in (slot h (Ok t) ∷ past))
  NewestTrue (slot h (Err e) ∷ past) = Unit {0}

  -- what holds at one moment of a history
  pub record Moment (h : List (Event S)) : Type 0 where
    pub transmission : NewestLawful h
    pub answer : NewestTrue h
    -- permits handed over are those sent, those held, and the one that is out
    pub permits : count hands_over h ≡ count transmits h + count holds_back h + cond (permit_out h) 1 0
    -- requests begun are those ended and the one that is open
    pub requests : count (λ e. is_some (begun_by e)) h ≡ count (λ e. is_some (ended_by e)) h + cond (is_some (open_in h)) 1 0
    -- at most NR transmissions of a request, within TC + TJ slots of its begin
    pub most : transmissions h ≤ card.nr
    pub soon : slots_heard h ≤ card.tc + card.tj

-- the histories of a set made on a channel with a source, with its condition after each: any calls in any order, each answered as the rules have it
pub data Run {D S : Type 0} (m : Meaning D S) (card : Card) (start : ℕ) (source : D) : List (Event S) → Condition D S → Type 0 where
  made : Run m card start source [] (record { station = seeking_on start; job = Free; source = source })
  tunes : {past : List (Event S)} {c : Condition D S} → Run m card start source past c → (ch : ℕ) → Run m card start source (tune ch (tune_answer c ch) ∷ past) (tuned c ch)
  begins : {past : List (Event S)} {c : Condition D S} → Run m card start source past c → (s : S) → Run m card start source (begin s (begin_answer c) ∷ past) (begun c s)
  takes : {past : List (Event S)} {c : Condition D S} → Run m card start source past c → Run m card start source (take (take_answer card c) ∷ past) (taken c)
  sends : {past : List (Event S)} {c : Condition D S} → Run m card start source past c → (permit : Option ℕ) → Run m card start source (sent permit (back_answer card c permit) ∷ past) (sent_back card c permit)
  holds : {past : List (Event S)} {c : Condition D S} → Run m card start source past c → (permit : Option ℕ) → Run m card start source (held permit (back_answer card c permit) ∷ past) (held_back card c permit)
  cancels : {past : List (Event S)} {c : Condition D S} → Run m card start source past c → Run m card start source (cancel (cancel_answer c) ∷ past) (cancelled c)
  hears : {past : List (Event S)} {c : Condition D S} → Run m card start source past c → (h : Heard) → Run m card start source (slot h (slot_answer m card c h) ∷ past) (slotted m card c h)

-- the run law of a set: at every moment of every history each transmission was lawful, permits and requests balance and the bounds hold; and the set is tuned to the channel that the history names
pub record Kept {D S : Type 0} (m : Meaning D S) (card : Card) (start : ℕ) (h : List (Event S)) (c : Condition D S) : Type 0 where
  pub moments : AtEvery (Moment m card) h
  pub tuned_to : c.station.channel ≡ channel_in m.accepts card start h

abbrev pub RunLaw : {D S : Type 0} → Meaning D S → Card → ℕ → D → Type 0
RunLaw {D} {S} m card start source = (h : List (Event S)) (c : Condition D S) → Run m card start source h c → Kept m card start h c
