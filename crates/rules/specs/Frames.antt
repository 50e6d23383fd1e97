-- The frames that run side by side: what the newest 32 slots of a stay marked.
use Rattle.std.specs.Prelude.{ℕ, ◌+◌, ◌-◌, ◌%◌, ◌==◌, Bool, false, cond, ◌&&◌, ◌||◌, List, [], ◌∷◌, replicate, Some, None, Option, nat_lt, slice_set}
use Rattle.signalling.specs.declared.content.Function.{Function}
use Rattle.rules.specs.declared.station.Mark.{Mark}
use Rattle.rules.specs.declared.station.Frames.{Frames}

-- the frame of so many return slots marked under a function; 0 marks none (7.3.2, 7.3.3)
abbrev pub mark_of : Function → ℕ → Option Mark
mark_of f n = cond (n == 0) None (Some (record { function = f; slots = n }))

-- no frames: as a stay begins
abbrev pub no_frames : Frames
no_frames = record { marks = replicate 32 None; place = 0 }

-- the place for the next slot
abbrev pub next_place : ℕ → ℕ
next_place place = (place % 32 + 1) % 32

-- one more slot's mark, at its own place
abbrev pub marking : Frames → Option Mark → Frames
marking fs m = record { marks = slice_set fs.marks (next_place fs.place) m; place = next_place fs.place }

-- how many slots before the newest one the record at an index was heard
abbrev pub slots_back : ℕ → ℕ → ℕ
slots_back place index = (place % 32 + 32 - index) % 32

-- whether the record of the slot so many back is of a frame that covers the next return slot under a function that invites (7.3.4)
abbrev pub covers : (Function → Bool) → ℕ → Option Mark → Bool
covers invites back None = false
covers invites back (Some m) = invites m.function && nat_lt back m.slots

-- whether one of the records, from an index on, is of such a frame
unfoldable pub covered_from : (Function → Bool) → ℕ → ℕ → List (Option Mark) → Bool
covered_from invites place index [] = false
covered_from invites place index (m ∷ ms) = covers invites (slots_back place index) m || covered_from invites place (index + 1) ms

-- whether an inviting frame covers the next return slot
abbrev pub covered : (Function → Bool) → Frames → Bool
covered invites fs = covered_from invites fs.place 0 fs.marks
