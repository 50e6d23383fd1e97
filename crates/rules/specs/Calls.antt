-- What each call answers, and the condition of the set after it. A refused call leaves everything as it was.
use Rattle.std.specs.Prelude.{ℕ, cond, is_some, Some, None, Ok, Err, Option, Result, ◌==◌}
use Rattle.signalling.specs.declared.content.Heard.{Heard}
use Rattle.signalling.specs.declared.refusal.Refusal.{Refusal}
use Rattle.signalling.specs.Range.{channel_in_range, heard_in_range}
use Rattle.parts.specs.declared.verdict.EndWord.TheVariants.{Withdrawn}
use Rattle.rules.specs.declared.card.Card.{Card}
use Rattle.rules.specs.declared.request.Choice.{Choice}
use Rattle.rules.specs.declared.request.Choice.TheVariants.{Unchosen, Ahead, Ready, Out}
use Rattle.rules.specs.declared.request.Condition.{Condition}
use Rattle.rules.specs.declared.request.End.{End}
use Rattle.rules.specs.declared.request.Job.{Job}
use Rattle.rules.specs.declared.request.Job.TheVariants.{Free, Trying, Waiting}
use Rattle.rules.specs.declared.request.Live.{Live}
use Rattle.rules.specs.declared.request.Told.{Told}
use Rattle.rules.specs.declared.station.Stay.{Stay}
use Rattle.rules.specs.Jobs.{raised, opened, end_of, lost}
use Rattle.rules.specs.Meanings.{Meaning}
use Rattle.rules.specs.Slots.{end_in, is_ready, is_out, is_free, heard_by, told_by}
use Rattle.rules.specs.Stations.{seeking_on}

-- the answer to a call that was judged so: what it tells, or the refusal
abbrev pub if_answered : {A : Type 0} → Result (Unit {0}) Refusal → A → Result A Refusal
if_answered (Ok x) tells = Ok tells
if_answered (Err e) tells = Err e

-- what there is after a call that was judged so: something new, or what there was
abbrev pub if_granted : {A : Type 0} → Result (Unit {0}) Refusal → A → A → A
if_granted (Ok x) new old = new
if_granted (Err e) new old = old

-- the set with another job
abbrev pub working : {D S : Type 0} → Condition D S → Job S → Condition D S
working c j = record { station = c.station; job = j; source = c.source }

-- tune: refused while a permit is out, then for a channel out of range
abbrev pub tune_judged : {D S : Type 0} → Condition D S → ℕ → Result (Unit {0}) Refusal
tune_judged c ch = cond (is_out c.job) (Err Refusal.PermitOut) (cond (channel_in_range ch) (Ok tt) (Err Refusal.Channel))

-- tune ends the stay, and with it an open request as lost
abbrev pub tune_answer : {D S : Type 0} → Condition D S → ℕ → Result (Option End) Refusal
tune_answer c ch = if_answered (tune_judged c ch) (end_in (lost c.job))

abbrev pub tuned : {D S : Type 0} → Condition D S → ℕ → Condition D S
tuned c ch = if_granted (tune_judged c ch) (record { station = seeking_on ch; job = Free; source = c.source }) c

-- begin: refused while a permit is out, then without a stay, then with a request open
abbrev pub begin_answer : {D S : Type 0} → Condition D S → Result (Unit {0}) Refusal
begin_answer c = cond (is_out c.job) (Err Refusal.PermitOut) (cond (is_some c.station.stay) (cond (is_free c.job) (Ok tt) (Err Refusal.RequestOpen)) (Err Refusal.NoStay))

-- begin opens a request in try, without a window
abbrev pub begun : {D S : Type 0} → Condition D S → S → Condition D S
begun c s = if_granted (begin_answer c) (working c (Trying (opened s) 0 Unchosen)) c

-- take hands over a ready permit, which carries the own address; with none ready there is none
abbrev pub take_answer : {D S : Type 0} → Card → Condition D S → Option ℕ
take_answer card c = cond (is_ready c.job) (Some card.address) None

-- a ready permit is out once it is taken
abbrev pub handed : Choice → Choice
handed Unchosen = Unchosen
handed (Ahead n) = Ahead n
handed Ready = Out
handed Out = Out

abbrev pub taken_job : {S : Type 0} → Job S → Job S
taken_job Free = Free
taken_job (Trying live window choice) = Trying live window (handed choice)
taken_job (Waiting live) = Waiting live

abbrev pub taken : {D S : Type 0} → Condition D S → Condition D S
taken c = working c (taken_job c.job)

-- whether a permit brought is of the own address
abbrev pub of_address : ℕ → Option ℕ → Result (Unit {0}) Refusal
of_address own None = Err Refusal.NoPermit
of_address own (Some a) = cond (a == own) (Ok tt) (Err Refusal.OtherAddress)

-- sent and held: refused where no permit is out or an empty one is brought, then for a permit of another address
abbrev pub back_answer : {D S : Type 0} → Card → Condition D S → Option ℕ → Result (Unit {0}) Refusal
back_answer card c permit = cond (is_out c.job) (of_address card.address permit) (Err Refusal.NoPermit)

-- the WAIT noted now
abbrev pub wait_now : Option Stay → ℕ
wait_now None = 0
wait_now (Some st) = st.noted.wait

-- a request with one more transmission
abbrev pub sent_once : {S : Type 0} → Live S → Live S
sent_once live = record { service = live.service; age = live.age; sends = raised live.sends; since = 0 }

-- sent drops the choice, counts a transmission and starts the response window of WAIT + 2 slots (7.3.8)
abbrev pub sent_job : {S : Type 0} → ℕ → Job S → Job S
sent_job wait Free = Free
sent_job wait (Trying live window choice) = Trying (sent_once live) (raised (raised wait)) Unchosen
sent_job wait (Waiting live) = Waiting live

abbrev pub sent_back : {D S : Type 0} → Card → Condition D S → Option ℕ → Condition D S
sent_back card c permit = if_granted (back_answer card c permit) (working c (sent_job (wait_now c.station.stay) c.job)) c

-- held drops the choice and counts nothing
abbrev pub held_job : {S : Type 0} → Job S → Job S
held_job Free = Free
held_job (Trying live window choice) = Trying live window Unchosen
held_job (Waiting live) = Waiting live

abbrev pub held_back : {D S : Type 0} → Card → Condition D S → Option ℕ → Condition D S
held_back card c permit = if_granted (back_answer card c permit) (working c (held_job c.job)) c

-- cancel ends an open request as withdrawn; without one it is refused
abbrev pub withdrawn : {S : Type 0} → Job S → Result End Refusal
withdrawn Free = Err Refusal.NoRequest
withdrawn (Trying live window choice) = Ok (end_of Withdrawn live)
withdrawn (Waiting live) = Ok (end_of Withdrawn live)

-- cancel: refused while a permit is out, then with no request open
abbrev pub cancel_answer : {D S : Type 0} → Condition D S → Result End Refusal
cancel_answer c = cond (is_out c.job) (Err Refusal.PermitOut) (withdrawn c.job)

abbrev pub cancelled : {D S : Type 0} → Condition D S → Condition D S
cancelled c = cond (is_out c.job) c (working c Free)

-- slot: refused while a permit is out, then for a number out of range
abbrev pub slot_judged : {D S : Type 0} → Condition D S → Heard → Result (Unit {0}) Refusal
slot_judged c h = cond (is_out c.job) (Err Refusal.PermitOut) (heard_in_range h)

abbrev pub slot_answer : {D S : Type 0} → Meaning D S → Card → Condition D S → Heard → Result Told Refusal
slot_answer m card c h = if_answered (slot_judged c h) (told_by m card c h)

abbrev pub slotted : {D S : Type 0} → Meaning D S → Card → Condition D S → Heard → Condition D S
slotted m card c h = if_granted (slot_judged c h) (heard_by m card c h) c
