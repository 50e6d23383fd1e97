-- Histories: what was called and answered since a set was made, the newest first, and what they say in the subject's words.
use Rattle.std.specs.Prelude.{ℕ, zero, suc, ◌+◌, Bool, true, false, cond, not, ◌&&◌, List, [], ◌∷◌, is_some, is_ok, Some, None, Ok, Err, Option, Result, nat_le}
use Rattle.std.specs.Option.{unwrap_or}
use Rattle.std.specs.Result.{result_ok}
use Rattle.signalling.specs.declared.content.Heard.{Heard}
use Rattle.signalling.specs.declared.content.Noted.{Noted}
use Rattle.signalling.specs.declared.refusal.Refusal.{Refusal}
use Rattle.signalling.specs.Reading.{marked, moved, noted, leaves_free}
use Rattle.rules.specs.declared.card.Card.{Card}
use Rattle.rules.specs.declared.request.End.{End}
use Rattle.rules.specs.declared.request.Told.{Told}
use Rattle.rules.specs.Stations.{first_noted}

-- a call together with its whole answer; sent and held come with the address of the permit brought, if it has one
pub data Event (S : Type 0) : Type 0 where
  tune : ℕ → Result (Option End) Refusal → Event S
  begin : S → Result (Unit {0}) Refusal → Event S
  take : Option ℕ → Event S
  sent : Option ℕ → Result (Unit {0}) Refusal → Event S
  held : Option ℕ → Result (Unit {0}) Refusal → Event S
  cancel : Result End Refusal → Event S
  slot : Heard → Result Told Refusal → Event S

-- the end that an answer of slot tells
abbrev pub end_told : Result Told Refusal → Option End
end_told (Ok t) = t.end
end_told (Err e) = None

-- something of a call that was granted
abbrev pub granted : {A B : Type 0} → Result B Refusal → A → Option A
granted (Ok y) x = Some x
granted (Err e) x = None

-- the end that an answer of tune tells
abbrev pub end_if_any : Result (Option End) Refusal → Option End
end_if_any (Ok e) = e
end_if_any (Err r) = None

module _ {S : Type 0} where
  -- the service of a granted begin
  abbrev pub begun_by : Event S → Option S
  begun_by (tune ch r) = None
  begun_by (begin s r) = granted r s
  begun_by (take p) = None
  begun_by (sent p r) = None
  begun_by (held p r) = None
  begun_by (cancel r) = None
  begun_by (slot h r) = None

  -- the end that an answer has
  abbrev pub ended_by : Event S → Option End
  ended_by (tune ch r) = end_if_any r
  ended_by (begin s r) = None
  ended_by (take p) = None
  ended_by (sent p r) = None
  ended_by (held p r) = None
  ended_by (cancel r) = result_ok r
  ended_by (slot h r) = end_told r

  -- the slot of a granted slot call
  abbrev pub heard_in : Event S → Option Heard
  heard_in (tune ch r) = None
  heard_in (begin s r) = None
  heard_in (take p) = None
  heard_in (sent p r) = None
  heard_in (held p r) = None
  heard_in (cancel r) = None
  heard_in (slot h r) = granted r h

  -- whether a tune was granted
  abbrev pub tunes_away : Event S → Bool
  tunes_away (tune ch r) = is_ok r
  tunes_away (begin s r) = false
  tunes_away (take p) = false
  tunes_away (sent p r) = false
  tunes_away (held p r) = false
  tunes_away (cancel r) = false
  tunes_away (slot h r) = false

  -- whether a permit was handed over
  abbrev pub hands_over : Event S → Bool
  hands_over (tune ch r) = false
  hands_over (begin s r) = false
  hands_over (take p) = is_some p
  hands_over (sent p r) = false
  hands_over (held p r) = false
  hands_over (cancel r) = false
  hands_over (slot h r) = false

  -- whether a sending was granted: a transmission
  abbrev pub transmits : Event S → Bool
  transmits (tune ch r) = false
  transmits (begin s r) = false
  transmits (take p) = false
  transmits (sent p r) = is_ok r
  transmits (held p r) = false
  transmits (cancel r) = false
  transmits (slot h r) = false

  -- whether a permit was granted to come back unused
  abbrev pub holds_back : Event S → Bool
  holds_back (tune ch r) = false
  holds_back (begin s r) = false
  holds_back (take p) = false
  holds_back (sent p r) = false
  holds_back (held p r) = is_ok r
  holds_back (cancel r) = false
  holds_back (slot h r) = false

  -- how many events of a history are of a kind
  abbrev pub count : (Event S → Bool) → List (Event S) → ℕ
  count kind [] = 0
  count kind (e ∷ past) = cond (kind e) (count kind past + 1) (count kind past)

  -- the service of the open request: open from a granted begin until an answer has an end
  abbrev pub open_in : List (Event S) → Option S
  open_in [] = None
  open_in (e ∷ past) = cond (is_some (begun_by e)) (begun_by e) (cond (is_some (ended_by e)) None (open_in past))

  -- the slots heard since the last granted begin, up to the slot that answers the end
  abbrev pub slots_heard : List (Event S) → ℕ
  slots_heard [] = 0
  slots_heard (e ∷ past) = cond (is_some (begun_by e)) 0 (cond (is_some (heard_in e) && is_some (open_in past)) (slots_heard past + 1) (slots_heard past))

  -- the transmissions since the last granted begin
  abbrev pub transmissions : List (Event S) → ℕ
  transmissions [] = 0
  transmissions (e ∷ past) = cond (is_some (begun_by e)) 0 (cond (transmits e) (transmissions past + 1) (transmissions past))

  -- the slots heard since the last transmission of the request, or since its begin
  abbrev pub slots_since : List (Event S) → ℕ
  slots_since [] = 0
  slots_since (e ∷ past) = cond (is_some (begun_by e)) 0 (cond (transmits e) 0 (cond (is_some (heard_in e) && is_some (open_in past)) (slots_since past + 1) (slots_since past)))

  -- whether a permit is out: handed over, and not come back
  abbrev pub permit_out : List (Event S) → Bool
  permit_out [] = false
  permit_out (e ∷ past) = cond (hands_over e) true (cond (transmits e) false (cond (holds_back e) false (permit_out past)))

-- the slots heard in the present stay, the newest first; or no stay
pub data Presence : Type 0 where
  away : Presence
  present : List Heard → Presence

abbrev pub slots_of : Presence → List Heard
slots_of away = []
slots_of (present hs) = hs

-- how many of the newest slots came in a row without a system code
abbrev pub silent : List Heard → ℕ
silent [] = 0
silent (h ∷ hs) = cond (is_some h.code) 0 (silent hs + 1)

-- whether a slot's system code leaves the set active: an accepted code does; in a stay its absence does too, but for the TS-th in a row (6.2.1)
abbrev pub holds : (ℕ → Bool) → ℕ → Presence → Option ℕ → Bool
holds accepts ts away None = false
holds accepts ts away (Some code) = accepts code
holds accepts ts (present hs) None = not (nat_le ts (silent hs + 1))
holds accepts ts (present hs) (Some code) = accepts code

-- the stay after one more heard slot, which belongs to it; a move that applies to the set ends it (7.4.2)
abbrev pub hear : (ℕ → Bool) → Card → Heard → Presence → Presence
hear accepts card h p =
    cond (holds accepts card.ts p h.code) (cond (is_some (moved h.content card.address)) away (present (h ∷ slots_of p))) away

abbrev pub hear_if_any : (ℕ → Bool) → Card → Option Heard → Presence → Presence
hear_if_any accepts card None p = p
hear_if_any accepts card (Some h) p = hear accepts card h p

-- the present stay of a history: a granted tune ends it
abbrev pub presence : {S : Type 0} → (ℕ → Bool) → Card → List (Event S) → Presence
presence accepts card [] = away
presence accepts card (e ∷ past) = cond (tunes_away e) away (hear_if_any accepts card (heard_in e) (presence accepts card past))

-- what is noted after the slots of a stay: what the newest Aloha message says, else what a set takes at first (7.3.1, 7.3.2, 7.3.7)
abbrev pub noted_in : ℕ → List Heard → Noted
noted_in nw [] = first_noted nw
noted_in nw (h ∷ hs) = unwrap_or (noted h.content) (noted_in nw hs)

-- the length of the frame marked so many slots back in the stay, 0 for none
abbrev pub marked_back : List Heard → ℕ → ℕ
marked_back [] i = 0
marked_back (h ∷ hs) zero = marked h.content
marked_back (h ∷ hs) (suc i) = marked_back hs i

-- whether the newest slot of the stay leaves the next return slot free for the set (7.3.6)
abbrev pub free_next : ℕ → List Heard → Bool
free_next own [] = false
free_next own (h ∷ hs) = leaves_free h.content own

-- the WAIT noted at the last transmission (7.3.7)
abbrev pub wait_noted : {S : Type 0} → (ℕ → Bool) → Card → List (Event S) → ℕ
wait_noted accepts card [] = 0
wait_noted accepts card (e ∷ past) = cond (transmits e) (noted_in card.nw (slots_of (presence accepts card past))).wait (wait_noted accepts card past)

-- the channel of a history that began on a given one: that of the last granted tune, or of the last move that an active set obeyed
abbrev pub channel_by : {S : Type 0} → (ℕ → Bool) → Card → Event S → Presence → ℕ → ℕ
channel_by accepts card (tune ch r) p before = cond (is_ok r) ch before
channel_by accepts card (begin s r) p before = before
channel_by accepts card (take permit) p before = before
channel_by accepts card (sent permit r) p before = before
channel_by accepts card (held permit r) p before = before
channel_by accepts card (cancel r) p before = before
channel_by accepts card (slot h r) p before = cond (is_ok r && holds accepts card.ts p h.code) (unwrap_or (moved h.content card.address) before) before

abbrev pub channel_in : {S : Type 0} → (ℕ → Bool) → Card → ℕ → List (Event S) → ℕ
channel_in accepts card start [] = start
channel_in accepts card start (e ∷ past) = channel_by accepts card e (presence accepts card past) (channel_in accepts card start past)
