use Rattle.script.specs.Script.{aloha_fields}
use Rattle.script.proofs.Follow.{done, goes, stays}
use Rattle.script.proofs.reader.Reader.aloha_fields.Goals as goal

pub returns-in_err-function : goal.returns-in_err-function
unfolding aloha_fields
returns-in_err-function c = stays _ c.from_residual.ensures.1 c.in_err-function.ensures

pub returns-in_err-number : goal.returns-in_err-number
unfolding aloha_fields
returns-in_err-number c = goes _ c.in_ok-function.ensures (stays _ c.from_residual-in_err-number.ensures.1 c.in_err-number.ensures)

pub returns-in_err-division : goal.returns-in_err-division
unfolding aloha_fields
returns-in_err-division c = goes _ c.in_ok-function.ensures (goes _ c.in_ok-number.ensures (stays _ c.from_residual-in_err-division.ensures.1 c.in_err-division.ensures))

pub returns : goal.returns
unfolding aloha_fields
returns c = goes _ c.in_ok-function.ensures (goes _ c.in_ok-number.ensures (goes _ c.in_ok-division.ensures done))
