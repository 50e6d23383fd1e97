-- How a request in try chooses a return slot, and when a permit is ready for it.
use Rattle.std.specs.Prelude.{ℕ, Bool, false, cond, ◌&&◌, ◌==◌, nat_lt}
use Rattle.signalling.specs.declared.content.Noted.{Noted}
use Rattle.signalling.specs.Division.{admits}
use Rattle.rules.specs.declared.request.Choice.{Choice}
use Rattle.rules.specs.declared.request.Choice.TheVariants.{Unchosen, Ahead, Ready, Out}
use Rattle.rules.specs.declared.request.Job.{Job}
use Rattle.rules.specs.declared.request.Job.TheVariants.{Free, Trying, Waiting}
use Rattle.rules.specs.declared.request.Live.{Live}
use Rattle.rules.specs.declared.station.Stay.{Stay}
use Rattle.rules.specs.Frames.{covered}
use Rattle.rules.specs.Meanings.{Meaning}

-- whether the noted division lets a service in (7.3.1)
abbrev pub let_in : {D S : Type 0} → Meaning D S → ℕ → S → Noted → Bool
let_in m own service n = admits (m.emergency service) n.division own

-- whether a frame marked now is suitable for a service: its function invites it and the division lets it in (7.3.5)
abbrev pub suitable : {D S : Type 0} → Meaning D S → ℕ → S → Stay → Bool
suitable m own service st = m.invites service st.noted.function && let_in m own service st.noted

-- a request may choose where it has neither a choice nor a window
abbrev pub may_choose : ℕ → Choice → Bool
may_choose window Unchosen = window == 0
may_choose window (Ahead n) = false
may_choose window Ready = false
may_choose window Out = false

-- whether a request draws: a suitable frame of so many slots was marked in this very slot (7.3.5)
abbrev pub draws : {D S : Type 0} → Meaning D S → ℕ → S → Stay → ℕ → Bool
draws m own service st slots = nat_lt 0 slots && suitable m own service st

-- the first-try option: at the first slot after it was opened, the next return slot if a suitable frame covers it (7.3.4)
abbrev pub first_try : {D S : Type 0} → Meaning D S → ℕ → Live S → Stay → Bool
first_try m own live st = live.age == 1 && (let_in m own live.service st.noted && covered (m.invites live.service) st.frames)

-- the slot chosen: one drawn from the new frame, or the next by the first-try option
abbrev pub chosen : {D S : Type 0} → Meaning D S → ℕ → D → Live S → Stay → ℕ → Choice
chosen m own source live st slots = cond (draws m own live.service st slots) (Ahead (m.ready source slots)) (cond (first_try m own live st) (Ahead 1) Unchosen)

-- a chosen slot that comes next is permitted where it is free; where it is withdrawn the choice is dropped (7.3.6)
abbrev pub permitted : Bool → Choice → Choice
permitted free Unchosen = Unchosen
permitted free (Ahead n) = cond (n == 1) (cond free Ready Unchosen) (Ahead n)
permitted free Ready = Ready
permitted free Out = Out

-- the choice of a request in try after a slot
abbrev pub choice_after : {D S : Type 0} → Meaning D S → ℕ → Bool → D → Live S → ℕ → Choice → Stay → ℕ → Choice
choice_after m own free source live window choice st slots = permitted free (cond (may_choose window choice) (chosen m own source live st slots) choice)

-- a request after the choice of a slot
abbrev pub choosing : {D S : Type 0} → Meaning D S → ℕ → Bool → D → Job S → Stay → ℕ → Job S
choosing m own free source Free st slots = Free
choosing m own free source (Trying live window choice) st slots = Trying live window (choice_after m own free source live window choice st slots)
choosing m own free source (Waiting live) st slots = Waiting live

-- the source after the choice of a slot: moved on where it was drawn from
abbrev pub source_after : {D S : Type 0} → Meaning D S → ℕ → D → Job S → Stay → ℕ → D
source_after m own source Free st slots = source
source_after m own source (Trying live window choice) st slots = cond (may_choose window choice && draws m own live.service st slots) (m.drawn source slots) source
source_after m own source (Waiting live) st slots = source
