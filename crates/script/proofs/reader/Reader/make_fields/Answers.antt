use Rattle.script.specs.Script.{make_fields}
use Rattle.script.proofs.DrawsSpelt.{few-draws, made}
use Rattle.script.proofs.Follow.{done_as, goes, stays}
use Rattle.script.proofs.reader.Reader.make_fields.Goals as goal

pub returns-in_err-address : goal.returns-in_err-address
unfolding make_fields
returns-in_err-address c = stays _ c.from_residual.ensures.1 c.in_err-address.ensures

pub returns-in_err-nr : goal.returns-in_err-nr
unfolding make_fields
returns-in_err-nr c = goes _ c.in_ok-address.ensures (stays _ c.from_residual-in_err-nr.ensures.1 c.in_err-nr.ensures)

pub returns-in_err-ts : goal.returns-in_err-ts
unfolding make_fields
returns-in_err-ts c = goes _ c.in_ok-address.ensures (goes _ c.in_ok-nr.ensures (stays _ c.from_residual-in_err-ts.ensures.1 c.in_err-ts.ensures))

pub returns-in_err-nw : goal.returns-in_err-nw
unfolding make_fields
returns-in_err-nw c = goes _ c.in_ok-address.ensures (goes _ c.in_ok-nr.ensures (goes _ c.in_ok-ts.ensures (stays _ c.from_residual-in_err-nw.ensures.1 c.in_err-nw.ensures)))

pub returns-in_err-plan : goal.returns-in_err-plan
unfolding make_fields
returns-in_err-plan c = goes _ c.in_ok-address.ensures (goes _ c.in_ok-nr.ensures (goes _ c.in_ok-ts.ensures (goes _ c.in_ok-nw.ensures (stays _ c.from_residual-in_err-plan.ensures.1 c.in_err-plan.ensures))))

pub returns-in_err-draws : goal.returns-in_err-draws
unfolding make_fields
returns-in_err-draws c = goes _ c.in_ok-address.ensures (goes _ c.in_ok-nr.ensures (goes _ c.in_ok-ts.ensures (goes _ c.in_ok-nw.ensures (goes _ c.in_ok-plan.ensures (stays _ c.from_residual-in_err-draws.ensures.1 c.in_err-draws.ensures)))))

pub returns : goal.returns
unfolding make_fields
returns c = goes _ c.in_ok-address.ensures (goes _ c.in_ok-nr.ensures (goes _ c.in_ok-ts.ensures (goes _ c.in_ok-nw.ensures (goes _ c.in_ok-plan.ensures (goes _ c.in_ok-draws.ensures (done_as (made _)))))))

pub invariant_of-result : goal.invariant_of-result
invariant_of-result c = record { few = few-draws _ _ _ c.in_ok-draws.ensures.reads }
