use Rattle.std.proofs.Common.{◌≡◌}
use Rattle.script.proofs.Drawing.{Drawing}
use Rattle.script.proofs.reader.Reader.drawing.Given as goal

abbrev pub invariant-loop-number : goal.invariant-loop-number
invariant-loop-number l = Drawing l.initial.self l.self (record { numbers = l.number-items; count = l.draws.1.0 }) l.number-index × (l.draws.1.0 ≡ l.number-index)
