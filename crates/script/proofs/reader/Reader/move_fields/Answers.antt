use Rattle.script.specs.Script.{move_fields}
use Rattle.script.proofs.Follow.{done, goes, stays}
use Rattle.script.proofs.reader.Reader.move_fields.Goals as goal

pub returns-in_err-division : goal.returns-in_err-division
unfolding move_fields
returns-in_err-division c = stays _ c.from_residual.ensures.1 c.in_err-division.ensures

pub returns-in_err-channel : goal.returns-in_err-channel
unfolding move_fields
returns-in_err-channel c = goes _ c.in_ok-division.ensures (stays _ c.from_residual-in_err-channel.ensures.1 c.in_err-channel.ensures)

pub returns : goal.returns
unfolding move_fields
returns c = goes _ c.in_ok-division.ensures (goes _ c.in_ok-channel.ensures done)
