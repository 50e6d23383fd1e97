use Rattle.script.specs.Script.{heard_fields}
use Rattle.script.proofs.Follow.{done, goes, stays}
use Rattle.script.proofs.reader.Reader.heard_fields.Goals as goal

pub returns-in_err-pass : goal.returns-in_err-pass
unfolding heard_fields
returns-in_err-pass c = stays _ c.from_residual.ensures.1 c.in_err-pass.ensures

pub returns-in_err-code : goal.returns-in_err-code
unfolding heard_fields
returns-in_err-code c = goes _ c.in_ok-pass.ensures (stays _ c.from_residual-in_err-code.ensures.1 c.in_err-code.ensures)

pub returns-in_err-content : goal.returns-in_err-content
unfolding heard_fields
returns-in_err-content c = goes _ c.in_ok-pass.ensures (goes _ c.in_ok-code.ensures (stays _ c.from_residual-in_err-content.ensures.1 c.in_err-content.ensures))

pub returns : goal.returns
unfolding heard_fields
returns c = goes _ c.in_ok-pass.ensures (goes _ c.in_ok-code.ensures (goes _ c.in_ok-content.ensures done))
