use Rattle.script.specs.Script.{content_within}
use Rattle.script.proofs.Follow.{goes, stays}
use Rattle.script.proofs.content.ContentInnerForm.read_within.Goals as goal

pub returns-in_err-name : goal.returns-in_err-name
unfolding content_within
returns-in_err-name c = stays _ c.from_residual.ensures.1 c.in_err-name.ensures

pub returns : goal.returns
unfolding content_within
returns c = goes _ c.in_ok-name.ensures c.content_fields.ensures
