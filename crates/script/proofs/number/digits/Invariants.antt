use Rattle.script.proofs.Numerals.{Read}
use Rattle.script.proofs.number.digits.Given as goal

abbrev pub invariant-loop-b : goal.invariant-loop-b
invariant-loop-b l = Read l.bytes l.b-index l.n
