use Rattle.std.proofs.Common.{◌+◌, ap, arith}
use Rattle.std.proofs.lemmas.List.{set-get_or}
use Rattle.script.proofs.Drawing.{faults, finish, more, no_more, no_places, recount}
use Rattle.script.proofs.reader.Reader.drawing.Goals as goal

pub returns-then-not-is_at : goal.returns-then-not-is_at
returns-then-not-is_at c =
    let drawn = c.loop-number.invariant.0 in
    rw (set-get_or c.loop-number.number-items c.loop-number.number-index 0) (finish drawn (omega (arith, c.loop-number-test.true)) (no_more _ _ _ c.if-not-is_at.ensures.passes))

pub returns-in_err-number : goal.returns-in_err-number
returns-in_err-number c =
    faults c.loop-number.invariant.0 c.loop-number-test.true _ c.if-not-is_at.ensures.passes c.from_residual.ensures.1 c.in_err-number.ensures

pub loop-number-preserved : goal.loop-number-preserved
loop-number-preserved c =
    let counted = ap (λ k. k + 1) c.loop-number.invariant.1 in
    (recount counted (more c.loop-number.invariant.0 c.loop-number-test.true _ c.if-not-is_at.ensures.passes c.in_ok-number.ensures), counted)

pub returns-after-loop-number : goal.returns-after-loop-number
returns-after-loop-number c = finish c.loop-number.invariant.0 (omega (arith, c.loop-number.auto.number-index-end)) (no_places _ _ (omega (arith, c.loop-number-test.false)))
