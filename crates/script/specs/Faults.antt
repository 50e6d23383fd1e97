-- What a fault answers: a number, and the place of the fault in its line.
use Rattle.std.specs.Prelude.{ℕ}
use Rattle.script.specs.declared.fault.Fault.{Fault}
use Rattle.script.specs.declared.fault.Fault.TheVariants.{Malformed, OutOfTurn, LineTooLong, InputTooLong}

-- the number by which a fault is known
abbrev pub number_of : Fault → ℕ
number_of (Malformed place) = 31
number_of OutOfTurn = 32
number_of LineTooLong = 33
number_of InputTooLong = 34

-- where a fault stands: the bytes of its line count from 1, and 0 is no place in a line
abbrev pub place_of : Fault → ℕ
place_of (Malformed place) = place
place_of OutOfTurn = 1
place_of LineTooLong = 201
place_of InputTooLong = 0
