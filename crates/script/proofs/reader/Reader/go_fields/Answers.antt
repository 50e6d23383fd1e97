use Rattle.script.specs.Script.{go_fields}
use Rattle.script.proofs.Follow.{done, goes, stays}
use Rattle.script.proofs.reader.Reader.go_fields.Goals as goal

pub returns-in_err-to : goal.returns-in_err-to
unfolding go_fields
returns-in_err-to c = stays _ c.from_residual.ensures.1 c.in_err-to.ensures

pub returns-in_err-channel : goal.returns-in_err-channel
unfolding go_fields
returns-in_err-channel c = goes _ c.in_ok-to.ensures (stays _ c.from_residual-in_err-channel.ensures.1 c.in_err-channel.ensures)

pub returns : goal.returns
unfolding go_fields
returns c = goes _ c.in_ok-to.ensures (goes _ c.in_ok-channel.ensures done)
