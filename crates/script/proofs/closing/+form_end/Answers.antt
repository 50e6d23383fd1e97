use Rattle.std.proofs.Common.{sym, ◌∙◌, arith}
use Rattle.script.proofs.Levels.{passes, skips, never, ends}
use Rattle.script.proofs.closing.+form_end.Goals as goal

pub returns-in_err-at-in-40 : goal.returns-in_err-at-in-40
returns-in_err-at-in-40 t c =
    rw c.from_residual.ensures (λ _. never c.loop-at.invariant (c.in_err-at-in-40.ensures (sym c.from.ensures ∙ c.in-40.is)))

pub loop-at-preserved-in-40 : goal.loop-at-preserved-in-40
loop-at-preserved-in-40 t c = skips c.loop-at.invariant c.in_ok-at-in-40.ensures

pub returns-in-41 : goal.returns-in-41
returns-in-41 t c = ends c.loop-at.invariant c.loop-at-test.true (sym c.from.ensures ∙ c.in-41.is)

pub loop-at-preserved : goal.loop-at-preserved
loop-at-preserved t c = passes c.loop-at.invariant c.loop-at-test.true (omega (arith, c.from.ensures)) (omega (arith, c.from.ensures))
