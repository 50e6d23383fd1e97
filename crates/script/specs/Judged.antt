-- What is said of a line: its form, or its fault.
use Rattle.std.specs.Prelude.{ℕ, ◌+◌, ◌-◌, cond, List, length, Ok, Err, Result, nat_lt}
use Rattle.script.specs.declared.fault.Fault.{Fault}
use Rattle.script.specs.declared.fault.Fault.TheVariants.{Malformed, LineTooLong}
use Rattle.script.specs.declared.form.Form.{Form}
use Rattle.script.specs.Items.{items, spell}
use Rattle.script.specs.Reading.{Out, got, stuck}
use Rattle.script.specs.Script.{line}

-- a form that is read to the end, or the place of the first item that does not fit, counted from 1
abbrev pub judged : List ℕ → Out Form → Result Form Fault
judged bytes (got form ts) = Ok form
judged bytes (stuck ts) = Err (Malformed (1 + length bytes - length (spell ts)))

-- a line of over 200 bytes is not read
abbrev pub reading : List ℕ → Result Form Fault
reading bytes = cond (nat_lt 200 (length bytes)) (Err LineTooLong) (judged bytes (line (items bytes)))
