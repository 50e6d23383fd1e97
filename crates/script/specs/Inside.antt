-- The reader of an inner form.
use Rattle.std.specs.Prelude.{◌≡◌, ℕ, ◌+◌, List, take, Some, None, Option}
use Rattle.script.specs.declared.reader.Reader.{Reader}
use Rattle.script.specs.Brackets.{Closes}
use Rattle.script.specs.Cursor.{line_of}

-- a line up to and with a closing bracket, or the whole of it where there is none
abbrev pub up_to : Option ℕ → List ℕ → List ℕ
up_to (Some close) bytes = take (close + 1) bytes
up_to None bytes = bytes

-- the inner reader stands where the outer one does, in the line up to where the form there closes
pub record Inside (outer : Reader) (inner : Reader) : Type 0 where
  pub close : Option ℕ
  pub closed : Closes (line_of outer) outer.pos close
  pub cut : line_of inner ≡ up_to close (line_of outer)
  pub place : inner.pos ≡ outer.pos
