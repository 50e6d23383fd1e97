-- The host's calls, granted or refused: what holds of a set beside its history is kept by each.
use Rattle.std.proofs.Common.{◌≡◌, ℕ, Bool, true, false, cond, List, is_some, Some, None, Ok, Err, Option, Result, refl}
use Rattle.signalling.specs.declared.refusal.Refusal.{Refusal}
use Rattle.signalling.specs.Range.{channel_in_range}
use Rattle.rules.specs.declared.card.Card.{Card}
use Rattle.rules.specs.declared.request.Choice.TheVariants.{Unchosen, Ahead, Ready, Out}
use Rattle.rules.specs.declared.request.Condition.{Condition}
use Rattle.rules.specs.declared.request.Job.{Job}
use Rattle.rules.specs.declared.request.Job.TheVariants.{Free, Trying, Waiting}
use Rattle.rules.specs.declared.request.Live.{Live}
use Rattle.rules.specs.declared.station.Station.{Station}
use Rattle.rules.specs.Calls.{if_answered, if_granted, tune_answer, tuned, begin_answer, begun, take_answer, taken, taken_job, of_address, back_answer, wait_now, sent_once, sent_back, held_back, withdrawn, cancel_answer, cancelled}
use Rattle.rules.specs.Histories.{Event, tune, begin, take, sent, held, cancel, channel_in}
use Rattle.rules.specs.Jobs.{lost, opened, raised}
use Rattle.rules.specs.Meanings.{Meaning, Lawful}
use Rattle.rules.specs.Slots.{end_in, is_ready, is_out, is_free}
use Rattle.rules.specs.Stations.{seeking_on}
use Rattle.rules.proofs.Cards.{Ranged}
use Rattle.rules.proofs.Tallies.{Holds, Next}
use Rattle.rules.proofs.Hosts.{now_tally, Agrees, tune_refused, begin_refused, take_empty, sent_refused, held_refused, cancel_refused, tune-granted, begin-granted, take-ready, sent-granted, held-granted, cancel-granted}

module _ {D S : Type 0} (m : Meaning D S) (lawful : Lawful m) (card : Card) (range : Ranged card) (start : ℕ) (past : List (Event S)) where
  tune-by : (ch : ℕ) (s : Station) (job : Job S) (source : D) (out fits : Bool) → is_out job ≡ out → Agrees m lawful card range start past s job source → Next m card range start (tune ch (if_answered (cond out (Err Refusal.PermitOut) (cond fits (Ok tt) (Err Refusal.Channel))) (end_in (lost job)))) past (if_granted (cond out (Err Refusal.PermitOut) (cond fits (Ok tt) (Err Refusal.Channel))) (record { station = seeking_on ch; job = Free; source = source }) (record { station = s; job = job; source = source }))
  tune-by ch s job source true fits e a = tune_refused m lawful card range start past s job source a ch Refusal.PermitOut
  tune-by ch s job source false true e a = tune-granted m lawful card range start past ch s job source e a
  tune-by ch s job source false false e a = tune_refused m lawful card range start past s job source a ch Refusal.Channel

  begin-by : (v : S) (s : Station) (job : Job S) (source : D) (out there : Bool) → is_out job ≡ out → Agrees m lawful card range start past s job source → Next m card range start (begin v (cond out (Err Refusal.PermitOut) (cond there (cond (is_free job) (Ok tt) (Err Refusal.RequestOpen)) (Err Refusal.NoStay)))) past (if_granted (cond out (Err Refusal.PermitOut) (cond there (cond (is_free job) (Ok tt) (Err Refusal.RequestOpen)) (Err Refusal.NoStay))) (record { station = s; job = Trying (opened v) 0 Unchosen; source = source }) (record { station = s; job = job; source = source }))
  begin-by v s job source true there e a = begin_refused m lawful card range start past s job source a v Refusal.PermitOut
  begin-by v s job source false false e a = begin_refused m lawful card range start past s job source a v Refusal.NoStay
  begin-by v s Free source false true e a = begin-granted m lawful card range start past v s source a
  begin-by v s (Trying l window c) source false true e a = begin_refused m lawful card range start past s (Trying l window c) source a v Refusal.RequestOpen
  begin-by v s (Waiting l) source false true e a = begin_refused m lawful card range start past s (Waiting l) source a v Refusal.RequestOpen

  take_by : (s : Station) (job : Job S) (source : D) → Agrees m lawful card range start past s job source → Next m card range start (take (cond (is_ready job) (Some card.address) None)) past (record { station = s; job = taken_job job; source = source })
  take_by s Free source a = take_empty m lawful card range start past s Free source a
  take_by s (Trying l window Unchosen) source a = take_empty m lawful card range start past s (Trying l window Unchosen) source a
  take_by s (Trying l window (Ahead n)) source a = take_empty m lawful card range start past s (Trying l window (Ahead n)) source a
  take_by s (Trying l window Ready) source a = take-ready m lawful card range start past s l window source a
  take_by s (Trying l window Out) source a = take_empty m lawful card range start past s (Trying l window Out) source a
  take_by s (Waiting l) source a = take_empty m lawful card range start past s (Waiting l) source a

  sent-out : (p : Option ℕ) (s : Station) (l : Live S) (window : ℕ) (source : D) (r : Result (Unit {0}) Refusal) → Agrees m lawful card range start past s (Trying l window Out) source → Next m card range start (sent p r) past (if_granted r (record { station = s; job = Trying (sent_once l) (raised (raised (wait_now s.stay))) Unchosen; source = source }) (record { station = s; job = Trying l window Out; source = source }))
  sent-out p s l window source (Ok x) a = sent-granted m lawful card range start past p s l window source a
  sent-out p s l window source (Err r) a = sent_refused m lawful card range start past s (Trying l window Out) source a p r

  sent-by : (p : Option ℕ) (s : Station) (job : Job S) (source : D) → Agrees m lawful card range start past s job source → Next m card range start (sent p (back_answer card (record { station = s; job = job; source = source }) p)) past (sent_back card (record { station = s; job = job; source = source }) p)
  sent-by p s Free source a = sent_refused m lawful card range start past s Free source a p Refusal.NoPermit
  sent-by p s (Trying l window Unchosen) source a = sent_refused m lawful card range start past s (Trying l window Unchosen) source a p Refusal.NoPermit
  sent-by p s (Trying l window (Ahead n)) source a = sent_refused m lawful card range start past s (Trying l window (Ahead n)) source a p Refusal.NoPermit
  sent-by p s (Trying l window Ready) source a = sent_refused m lawful card range start past s (Trying l window Ready) source a p Refusal.NoPermit
  sent-by p s (Trying l window Out) source a = sent-out p s l window source (of_address card.address p) a
  sent-by p s (Waiting l) source a = sent_refused m lawful card range start past s (Waiting l) source a p Refusal.NoPermit

  held_out : (p : Option ℕ) (s : Station) (l : Live S) (window : ℕ) (source : D) (r : Result (Unit {0}) Refusal) → Agrees m lawful card range start past s (Trying l window Out) source → Next m card range start (held p r) past (if_granted r (record { station = s; job = Trying l window Unchosen; source = source }) (record { station = s; job = Trying l window Out; source = source }))
  held_out p s l window source (Ok x) a = held-granted m lawful card range start past p s l window source a
  held_out p s l window source (Err r) a = held_refused m lawful card range start past s (Trying l window Out) source a p r

  held_by : (p : Option ℕ) (s : Station) (job : Job S) (source : D) → Agrees m lawful card range start past s job source → Next m card range start (held p (back_answer card (record { station = s; job = job; source = source }) p)) past (held_back card (record { station = s; job = job; source = source }) p)
  held_by p s Free source a = held_refused m lawful card range start past s Free source a p Refusal.NoPermit
  held_by p s (Trying l window Unchosen) source a = held_refused m lawful card range start past s (Trying l window Unchosen) source a p Refusal.NoPermit
  held_by p s (Trying l window (Ahead n)) source a = held_refused m lawful card range start past s (Trying l window (Ahead n)) source a p Refusal.NoPermit
  held_by p s (Trying l window Ready) source a = held_refused m lawful card range start past s (Trying l window Ready) source a p Refusal.NoPermit
  held_by p s (Trying l window Out) source a = held_out p s l window source (of_address card.address p) a
  held_by p s (Waiting l) source a = held_refused m lawful card range start past s (Waiting l) source a p Refusal.NoPermit

  cancel-by : (s : Station) (job : Job S) (source : D) (out : Bool) → is_out job ≡ out → Agrees m lawful card range start past s job source → Next m card range start (cancel (cond out (Err Refusal.PermitOut) (withdrawn job))) past (cond out (record { station = s; job = job; source = source }) (record { station = s; job = Free; source = source }))
  cancel-by s job source true e a = cancel_refused m lawful card range start past s job source a Refusal.PermitOut
  cancel-by s job source false e a = cancel-granted m lawful card range start past s job source e a

  module _ (c : Condition D S) (k : Holds m card range (now_tally m lawful card range start past) c) (on : c.station.channel ≡ channel_in m.accepts card start past) where
    agrees : Agrees m lawful card range start past c.station c.job c.source
    agrees = record { holds = k; channel = on }

    pub tune_next : (ch : ℕ) → Next m card range start (tune ch (tune_answer c ch)) past (tuned c ch)
    tune_next ch = tune-by ch c.station c.job c.source (is_out c.job) (channel_in_range ch) refl agrees

    pub begin_next : (v : S) → Next m card range start (begin v (begin_answer c)) past (begun c v)
    begin_next v = begin-by v c.station c.job c.source (is_out c.job) (is_some c.station.stay) refl agrees

    pub take_next : Next m card range start (take (take_answer card c)) past (taken c)
    take_next = take_by c.station c.job c.source agrees

    pub sent_next : (p : Option ℕ) → Next m card range start (sent p (back_answer card c p)) past (sent_back card c p)
    sent_next p = sent-by p c.station c.job c.source agrees

    pub held_next : (p : Option ℕ) → Next m card range start (held p (back_answer card c p)) past (held_back card c p)
    held_next p = held_by p c.station c.job c.source agrees

    pub cancel_next : Next m card range start (cancel (cancel_answer c)) past (cancelled c)
    cancel_next = cancel-by c.station c.job c.source (is_out c.job) refl agrees
