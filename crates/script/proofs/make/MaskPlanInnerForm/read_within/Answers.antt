use Rattle.script.specs.Script.{mask_within}
use Rattle.script.proofs.Follow.{done, goes, stays}
use Rattle.script.proofs.make.MaskPlanInnerForm.read_within.Goals as goal

pub returns-in_err-keyword : goal.returns-in_err-keyword
unfolding mask_within
returns-in_err-keyword c = stays _ c.from_residual.ensures.1 c.in_err-keyword.ensures

pub returns-in_err-mask : goal.returns-in_err-mask
unfolding mask_within
returns-in_err-mask c = goes _ c.in_ok-keyword.ensures (stays _ c.from_residual-in_err-mask.ensures.1 c.in_err-mask.ensures)

pub returns : goal.returns
unfolding mask_within
returns c = goes _ c.in_ok-keyword.ensures (goes _ c.in_ok-mask.ensures done)
