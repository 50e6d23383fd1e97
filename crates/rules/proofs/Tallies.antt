-- What a history says in numbers, what holds of a set beside it, and what one more call keeps.
use Rattle.std.proofs.Common.{◌≡◌, ℕ, ◌+◌, ◌<◌, ◌≤◌, Bool, cond, List, ◌∷◌, is_some, Some, None, Option, arith}
use Rattle.rules.specs.declared.card.Card.{Card}
use Rattle.rules.specs.declared.request.Condition.{Condition}
use Rattle.rules.specs.declared.request.Job.{Job}
use Rattle.rules.specs.declared.request.Job.TheVariants.{Free, Trying, Waiting}
use Rattle.rules.specs.declared.request.Live.{Live}
use Rattle.rules.specs.Histories.{Event, begun_by, ended_by, hands_over, transmits, holds_back, count, open_in, slots_heard, transmissions, slots_since, permit_out, Presence, slots_of, presence, wait_noted, channel_in}
use Rattle.rules.specs.Law.{NewestLawful, NewestTrue, Moment}
use Rattle.rules.specs.Meanings.{Meaning}
use Rattle.rules.specs.Slots.{is_out}
use Rattle.rules.proofs.Cards.{Ranged}
use Rattle.rules.proofs.Stays.{PlaceIs}
use Rattle.rules.proofs.Tries.{TryIs, WaitIs}

-- a history in numbers
pub record Tally (S : Type 0) : Type 0 where
  pub request : Option S
  pub age : ℕ
  pub sends : ℕ
  pub since : ℕ
  pub wait : ℕ
  pub stay : Presence
  pub out : Bool
  pub handed : ℕ
  pub sent_back : ℕ
  pub held_back : ℕ
  pub begun : ℕ
  pub ended : ℕ

-- the request kept is that of the history
pub record LiveIs {S : Type 0} (l : Live S) (request : Option S) (heard transmitted since-then : ℕ) : Type 0 where
  pub service : request ≡ Some l.service
  pub age : l.age ≡ heard
  pub sends : l.sends ≡ transmitted
  pub since : l.since ≡ since-then
  pub within : l.since ≤ l.age

abbrev pub LiveBy : {S : Type 0} → Live S → Tally S → Type 0
LiveBy l t = LiveIs l t.request t.age t.sends t.since

module _ {D S : Type 0} (m : Meaning D S) (card : Card) (range : Ranged card) where
  abbrev pub tally : List (Event S) → Tally S
  tally h = record {
    request = open_in h;
    age = slots_heard h;
    sends = transmissions h;
    since = slots_since h;
    wait = wait_noted m.accepts card h;
    stay = presence m.accepts card h;
    out = permit_out h;
    handed = count hands_over h;
    sent_back = count transmits h;
    held_back = count holds_back h;
    begun = count (λ e. is_some (begun_by e)) h;
    ended = count (λ e. is_some (ended_by e)) h;
  }

  -- what the set is about is the request of the history, if one is open
  abbrev pub JobIs : Job S → Tally S → Type 0
  JobIs Free t = t.request ≡ None
  JobIs (Trying l window c) t = LiveBy l t × TryIs m card range l window c (slots_of t.stay) t.wait
  JobIs (Waiting l) t = LiveBy l t × WaitIs m card range l

  -- what holds of a set beside its history
  pub record Holds (t : Tally S) (c : Condition D S) : Type 0 where
    pub place : PlaceIs card c.station.stay t.stay
    pub job : JobIs c.job t
    pub out : t.out ≡ is_out c.job
    pub permits : t.handed ≡ t.sent_back + t.held_back + cond t.out 1 0
    pub requests : t.begun ≡ t.ended + cond (is_some t.request) 1 0
    pub most : t.sends ≤ card.nr
    pub soon : t.age ≤ card.tc + card.tj

  -- what one more call keeps
  pub record Next (start : ℕ) (e : Event S) (past : List (Event S)) (c : Condition D S) : Type 0 where
    pub holds : Holds (tally (e ∷ past)) c
    pub channel : c.station.channel ≡ channel_in m.accepts card start (e ∷ past)
    pub lawful : NewestLawful m card (e ∷ past)
    pub true_answer : NewestTrue m card (e ∷ past)

  -- a moment of a history
  pub moment : (h : List (Event S)) (c : Condition D S) → Holds (tally h) c → NewestLawful m card h → NewestTrue m card h → Moment m card h
  moment h c k lawful answer = record { transmission = lawful; answer = answer; permits = k.permits; requests = k.requests; most = k.most; soon = k.soon }

  -- an open request is younger than TC + TJ, so that it may age once more
  pub young_enough : (l : Live S) (t : Tally S) → LiveBy l t → l.age < card.tc + card.tj → t.age + 1 ≤ card.tc + card.tj
  young_enough l t is young = omega (arith, is.age)

  pub try_young : (l : Live S) (t : Tally S) (window : ℕ) (c : _) → TryIs m card range l window c (slots_of t.stay) t.wait → l.age < card.tc + card.tj
  try_young l t window c is = omega (arith, is.young)

  pub wait-young : (l : Live S) → WaitIs m card range l → l.age < card.tc + card.tj
  wait-young l is = omega (arith, is.old, is.soon)

  -- one is open, or none
  pub one-open : (t : Tally S) (s : S) → t.request ≡ Some s → ◌≡◌ {A = ℕ} (cond (is_some t.request) 1 0) 1
  one-open t s e = grind (arith, e)

  pub none_open : (t : Tally S) → t.request ≡ None → ◌≡◌ {A = ℕ} (cond (is_some t.request) 1 0) 0
  none_open t e = grind (arith, e)
