-- A set as a whole: as it is made, and after a call.
use Rattle.std.specs.Prelude.{ℕ, Ok, Err, Option, Result}
use Rattle.signalling.specs.declared.content.Content.{Content}
use Rattle.signalling.specs.declared.refusal.Refusal.{Refusal}
use Rattle.rules.specs.declared.card.Card.{Card}
use Rattle.rules.specs.declared.request.Condition.{Condition}
use Rattle.rules.specs.declared.request.End.{End}
use Rattle.rules.specs.declared.request.Job.{Job}
use Rattle.rules.specs.declared.request.Job.TheVariants.{Free}
use Rattle.rules.specs.Cards.{card_judged}
use Rattle.rules.specs.Meanings.{Meaning}
use Rattle.rules.specs.Slots.{job_in, source_in}
use Rattle.rules.specs.Stations.{seeking_on}
use Rattle.access.specs.declared.set.Set.{Set}
use Rattle.access.specs.declared.set.NotMade.{NotMade}
use Rattle.access.specs.declared.permit.Permit.{Permit}
use Rattle.access.specs.declared.permit.Kept.{Kept}

-- the set in another condition: card and plan never change
abbrev pub in_condition : {D S P : Type 0} → Set D S P → Condition D S → Set D S P
in_condition set c = record { card = set.card; plan = set.plan; condition = c }

-- a condition after the choice of a slot for what is left of a request
abbrev pub chosen_in : {D S : Type 0} → Meaning D S → Card → Condition D S → Result (Job S) End → Content → Condition D S
chosen_in m card c p content = record { station = c.station; job = job_in m card c.source c.station.stay p content; source = source_in m card c.source c.station.stay p content }

-- a set as it is made seeks on its channel and has no request
abbrev pub fresh_on : {D S : Type 0} → ℕ → D → Condition D S
fresh_on ch source = record { station = seeking_on ch; job = Free; source = source }

abbrev pub fresh_set : {D S P : Type 0} → Card → ℕ → D → P → Set D S P
fresh_set card ch source plan = record { card = card; plan = plan; condition = fresh_on ch source }

-- a fresh set, or the refusal with source and plan given back
abbrev pub made_unless : {D S P : Type 0} → Result (Unit {0}) Refusal → Card → ℕ → D → P → Result (Set D S P) (NotMade D P)
made_unless (Ok x) card ch source plan = Ok (fresh_set card ch source plan)
made_unless (Err e) card ch source plan = Err (record { refusal = e; source = source; plan = plan })

-- make answers a set unless a number is out of range
abbrev pub make_answer : {D S P : Type 0} → Card → ℕ → D → P → Result (Set D S P) (NotMade D P)
make_answer card ch source plan = made_unless (card_judged card ch) card ch source plan

-- a permit for an address, or an empty one
abbrev pub permit_for : Option ℕ → Permit
permit_for a = record { address = a }

-- a permit brought back is taken in, or stays with its holder as it is
abbrev pub taken_in : Result (Unit {0}) Refusal → Permit → Result (Unit {0}) Kept
taken_in (Ok x) permit = Ok tt
taken_in (Err e) permit = Err (record { refusal = e; permit = permit })
