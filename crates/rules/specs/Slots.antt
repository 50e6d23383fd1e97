-- One heard slot as a whole, for a set in some condition.
use Rattle.std.specs.Prelude.{Bool, true, false, Some, None, Option, Result}
use Rattle.std.specs.Result.{result_err, result_unwrap_or}
use Rattle.signalling.specs.declared.content.Content.{Content}
use Rattle.signalling.specs.declared.content.Heard.{Heard}
use Rattle.signalling.specs.Reading.{marked, leaves_free}
use Rattle.rules.specs.declared.card.Card.{Card}
use Rattle.rules.specs.declared.request.Choice.{Choice}
use Rattle.rules.specs.declared.request.Choice.TheVariants.{Unchosen, Ahead, Ready, Out}
use Rattle.rules.specs.declared.request.Condition.{Condition}
use Rattle.rules.specs.declared.request.End.{End}
use Rattle.rules.specs.declared.request.Job.{Job}
use Rattle.rules.specs.declared.request.Job.TheVariants.{Free, Trying, Waiting}
use Rattle.rules.specs.declared.request.Told.{Told}
use Rattle.rules.specs.declared.station.State.{State}
use Rattle.rules.specs.declared.station.Stay.{Stay}
use Rattle.rules.specs.declared.station.Station.{Station}
use Rattle.rules.specs.Choosing.{choosing, source_after}
use Rattle.rules.specs.Jobs.{lost, through}
use Rattle.rules.specs.Meanings.{Meaning}
use Rattle.rules.specs.Stations.{followed}

-- a request through a slot: lost where the slot leaves the set without a stay
abbrev pub progressed : {D S : Type 0} → Meaning D S → Card → Option Stay → Job S → Content → Result (Job S) End
progressed m card None job content = lost job
progressed m card (Some st) job content = through (λ s. m.verdict s content card.address) card job

-- what a set is about once an end is told
abbrev pub left : {S : Type 0} → Result (Job S) End → Job S
left p = result_unwrap_or p Free

-- the end that came, if one came
abbrev pub end_in : {S : Type 0} → Result (Job S) End → Option End
end_in p = result_err p

-- a set with a stay chooses a slot for a request that goes on
abbrev pub job_in : {D S : Type 0} → Meaning D S → Card → D → Option Stay → Result (Job S) End → Content → Job S
job_in m card source None p content = left p
job_in m card source (Some st) p content = choosing m card.address (leaves_free content card.address) source (left p) st (marked content)

abbrev pub source_in : {D S : Type 0} → Meaning D S → Card → D → Option Stay → Result (Job S) End → Content → D
source_in m card source None p content = source
source_in m card source (Some st) p content = source_after m card.address source (left p) st (marked content)

-- whether a permit is ready, or out
abbrev pub ready_in : Choice → Bool
ready_in Unchosen = false
ready_in (Ahead n) = false
ready_in Ready = true
ready_in Out = false

abbrev pub out_in : Choice → Bool
out_in Unchosen = false
out_in (Ahead n) = false
out_in Ready = false
out_in Out = true

abbrev pub is_ready : {S : Type 0} → Job S → Bool
is_ready Free = false
is_ready (Trying live window choice) = ready_in choice
is_ready (Waiting live) = false

abbrev pub is_out : {S : Type 0} → Job S → Bool
is_out Free = false
is_out (Trying live window choice) = out_in choice
is_out (Waiting live) = false

-- whether no request is open
abbrev pub is_free : {S : Type 0} → Job S → Bool
is_free Free = true
is_free (Trying live window choice) = false
is_free (Waiting live) = false

-- what a set tells of itself
abbrev pub state_of : {S : Type 0} → Option Stay → Job S → State
state_of None job = State.Seeking
state_of (Some st) Free = State.Idle
state_of (Some st) (Trying live window choice) = State.Trying
state_of (Some st) (Waiting live) = State.Waiting

module _ {D S : Type 0} (m : Meaning D S) (card : Card) (c : Condition D S) (h : Heard) where
  -- the station after the slot, and the request on its way through it
  abbrev pub station_heard : Station
  station_heard = followed m.accepts card c.station h

  abbrev pub progress_heard : Result (Job S) End
  progress_heard = progressed m card station_heard.stay c.job h.content

  -- the condition of the set after the slot
  abbrev pub heard_by : Condition D S
  heard_by = record { station = station_heard; job = job_in m card c.source station_heard.stay progress_heard h.content; source = source_in m card c.source station_heard.stay progress_heard h.content }

  -- what the slot is answered
  abbrev pub told_by : Told
  told_by = record { state = state_of heard_by.station.stay heard_by.job; ready = is_ready heard_by.job; end = end_in progress_heard }
