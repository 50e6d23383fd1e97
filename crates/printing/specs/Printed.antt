-- The printed form of an answer, as bytes.
use Rattle.std.specs.Prelude.{ℕ, Bool, true, false, List, [], ◌∷◌, ◌++◌, Some, None, codes, decimal, Option}
use Rattle.signalling.specs.Refusals.{number_of}
use Rattle.script.specs.Faults as faults
use Rattle.parts.specs.declared.verdict.EndWord.{EndWord}
use Rattle.parts.specs.declared.verdict.EndWord.TheVariants.{NoAccess, Unknown, Lost, Withdrawn, Denied, Overload, Accepted, Unavailable, Granted}
use Rattle.rules.specs.declared.request.End.{End}
use Rattle.rules.specs.declared.station.State.{State}
use Rattle.rules.specs.declared.station.State.TheVariants.{Seeking, Idle, Trying, Waiting}
use Rattle.printing.specs.declared.answer.Answer.{Answer}
use Rattle.printing.specs.declared.answer.Answer.TheVariants.{Done, Heard, Empty, Refused, No, Bad}

-- the word for what a request ended with
abbrev pub end_word : EndWord → List ℕ
end_word NoAccess = codes "noaccess"
end_word Unknown = codes "unknown"
end_word Lost = codes "lost"
end_word Withdrawn = codes "withdrawn"
end_word Denied = codes "denied"
end_word Overload = codes "overload"
end_word Accepted = codes "accepted"
end_word Unavailable = codes "unavailable"
end_word Granted = codes "granted"

-- the word for a state; without a stay on a channel the bytes are those of s, e, a, r, c and h
abbrev pub state_word : State → List ℕ
state_word Seeking = 115 ∷ 101 ∷ 97 ∷ 114 ∷ 99 ∷ 104 ∷ []
state_word Idle = codes "idle"
state_word Trying = codes "try"
state_word Waiting = codes "wait"

-- an end: its word, the transmissions and the age
abbrev pub end_form : End → List ℕ
end_form e = codes "(end " ++ (end_word e.word ++ (codes " " ++ (decimal e.transmissions ++ (codes " " ++ (decimal e.age ++ codes ")")))))

-- how an answer closes: the end of a request behind a space, where one ended, and the bracket
abbrev pub last_part : Option End → List ℕ
last_part None = codes ")"
last_part (Some e) = codes " " ++ (end_form e ++ codes ")")

-- a permit that is ready is told in brackets of its own
abbrev pub ready_part : Bool → List ℕ
ready_part true = codes " (open)"
ready_part false = []

-- an answer, without the line end
abbrev pub answer_form : Answer → List ℕ
answer_form (Done end) = codes "(done" ++ last_part end
answer_form (Heard t) = codes "(heard " ++ (state_word t.state ++ (ready_part t.ready ++ last_part t.end))
answer_form Empty = codes "(none)"
answer_form (Refused r) = codes "(no " ++ (decimal (number_of r) ++ codes ")")
answer_form (No number) = codes "(no " ++ (decimal number ++ codes ")")
answer_form (Bad fault) = codes "(bad " ++ (decimal (faults.number_of fault) ++ (codes " " ++ (decimal (faults.place_of fault) ++ codes ")")))

-- an answer's line with its line end
abbrev pub answer_line : Answer → List ℕ
answer_line answer = answer_form answer ++ (10 ∷ [])
