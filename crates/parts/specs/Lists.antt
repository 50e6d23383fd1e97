-- The list source: the numbers of a given list one after the other, then the first slot for ever.
use Rattle.std.specs.Prelude.{ℕ, ◌+◌, List, Some, None, Option}
use Rattle.std.specs.List.{slice_get}
use Rattle.parts.specs.declared.list_source.ListSource.{ListSource}
use Rattle.parts.specs.Sources.{choice_of}

-- the choice that the next unused number gives; the first slot where there is none
abbrev pub choice_by : Option ℕ → ℕ → ℕ
choice_by None slots = 1
choice_by (Some number) slots = choice_of number slots

-- one more number is used, where there was one
abbrev pub used_up : Option ℕ → ℕ → ℕ
used_up None used = used
used_up (Some number) used = used + 1

-- the list source has the choice ready that its next unused number gives
abbrev pub list_ready : List ℕ → ℕ → ℕ → ℕ
list_ready numbers used slots = choice_by (slice_get numbers used) slots

-- a draw uses that number up
abbrev pub list_drawn : {L : Type 0} → List ℕ → ListSource L → ListSource L
list_drawn numbers s = record { list = s.list; used = used_up (slice_get numbers s.used) s.used }

-- nothing of the list is used at first
abbrev pub list_from : {L : Type 0} → L → ListSource L
list_from l = record { list = l; used = 0 }
