use Rattle.script.specs.Script.{draws_within}
use Rattle.script.proofs.Follow.{goes, stays}
use Rattle.script.proofs.make.FewNumbersInnerForm.read_within.Goals as goal

pub returns-in_err-keyword : goal.returns-in_err-keyword
unfolding draws_within
returns-in_err-keyword c = stays _ c.from_residual.ensures.1 c.in_err-keyword.ensures

pub returns : goal.returns
unfolding draws_within
returns c = goes _ c.in_ok-keyword.ensures c.drawing.ensures
