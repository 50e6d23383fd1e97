-- What a heard slot does to a request, before a slot is chosen for it: the request goes on as the job that is `Ok`, or it ended as `Err` tells.
use Rattle.std.specs.Prelude.{ℕ, ◌+◌, ◌-◌, min, cond, ◌&&◌, ◌==◌, Ok, Err, Result, nat_le}
use Rattle.parts.specs.declared.verdict.EndWord.{EndWord}
use Rattle.parts.specs.declared.verdict.EndWord.TheVariants.{NoAccess, Lost}
use Rattle.parts.specs.declared.verdict.Verdict.{Verdict}
use Rattle.rules.specs.declared.card.Card.{Card}
use Rattle.rules.specs.declared.request.Choice.{Choice}
use Rattle.rules.specs.declared.request.Choice.TheVariants.{Unchosen, Ahead, Ready, Out}
use Rattle.rules.specs.declared.request.End.{End}
use Rattle.rules.specs.declared.request.Job.{Job}
use Rattle.rules.specs.declared.request.Job.TheVariants.{Free, Trying, Waiting}
use Rattle.rules.specs.declared.request.Live.{Live}

-- one more, in a count of 32 bits; the run law shows that no count gets near its largest
abbrev pub raised : ℕ → ℕ
raised n = min (n + 1) 4294967295

-- a request that was just opened
abbrev pub opened : {S : Type 0} → S → Live S
opened s = record { service = s; age = 0; sends = 0; since = 0 }

-- the end of a request tells its transmissions and its age
abbrev pub end_of : {S : Type 0} → EndWord → Live S → End
end_of w live = record { word = w; transmissions = live.sends; age = live.age }

-- a permit that was ready lapses with its choice as the next slot is heard; a chosen slot comes nearer
abbrev pub passed : Choice → Choice
passed Unchosen = Unchosen
passed (Ahead n) = Ahead (n - 1)
passed Ready = Unchosen
passed Out = Out

abbrev pub lapsed : {S : Type 0} → Job S → Job S
lapsed Free = Free
lapsed (Trying live window choice) = Trying live window (passed choice)
lapsed (Waiting live) = Waiting live

-- the end of a stay ends an open request as lost (6.2.1.2)
abbrev pub lost : {S : Type 0} → Job S → Result (Job S) End
lost Free = Ok Free
lost (Trying live window choice) = Err (end_of Lost live)
lost (Waiting live) = Err (end_of Lost live)

-- a heard slot makes an open request a slot older
abbrev pub aged : {S : Type 0} → Live S → Live S
aged live = record { service = live.service; age = raised live.age; sends = live.sends; since = raised live.since }

-- an interim answer has a request wait, an end ends it (7.3.8, 8.2.2.3)
abbrev pub judged : {S : Type 0} → Verdict → Live S → Job S → Result (Job S) End
judged Verdict.Nothing live job = Ok job
judged Verdict.Interim live job = Ok (Waiting live)
judged (Verdict.End w) live job = Err (end_of w live)

-- an open request ages and heeds what was heard
abbrev pub answered : {S : Type 0} → (S → Verdict) → Job S → Result (Job S) End
answered verdict Free = Ok Free
answered verdict (Trying live window choice) = judged (verdict live.service) (aged live) (Trying (aged live) window choice)
answered verdict (Waiting live) = judged (verdict live.service) (aged live) (Waiting (aged live))

-- the access time-out TC: a request of which nothing was sent ends, another waits (7.3.8)
abbrev pub timed : {S : Type 0} → ℕ → Live S → ℕ → Choice → Result (Job S) End
timed tc live window choice = cond (nat_le tc live.age) (cond (live.sends == 0) (Err (end_of NoAccess live)) (Ok (Waiting live))) (Ok (Trying live window choice))

-- a request in try: once its window is over with NR transmissions made it waits (7.3.8)
abbrev pub tried : {S : Type 0} → Card → Job S → Result (Job S) End
tried card Free = Ok Free
tried card (Trying live window choice) = cond (window - 1 == 0 && nat_le card.nr live.sends) (Ok (Waiting live)) (timed card.tc live (window - 1) choice)
tried card (Waiting live) = Ok (Waiting live)

-- a request in wait ends as unknown once TJ slots were heard since the last transmission (8.2.2.4)
abbrev pub waited : {S : Type 0} → Card → Job S → Result (Job S) End
waited card Free = Ok Free
waited card (Trying live window choice) = Ok (Trying live window choice)
waited card (Waiting live) = cond (nat_le card.tj live.since) (Err (end_of EndWord.Unknown live)) (Ok (Waiting live))

-- what comes next befalls a request that goes on
abbrev pub onward : {S : Type 0} → Result (Job S) End → (Job S → Result (Job S) End) → Result (Job S) End
onward (Err e) next = Err e
onward (Ok job) next = next job

-- a request through a slot that leaves the set active: it lapses, ages, heeds, tries and waits
abbrev pub through : {S : Type 0} → (S → Verdict) → Card → Job S → Result (Job S) End
through verdict card job = onward (onward (answered verdict (lapsed job)) (tried card)) (waited card)
