use Rattle.script.specs.Script.{two}
use Rattle.script.proofs.Follow.{done, goes, stays}
use Rattle.script.proofs.reader.Reader.two.Goals as goal

pub returns-in_err-field : goal.returns-in_err-field
unfolding two
returns-in_err-field c = stays _ c.from_residual.ensures.1 c.in_err-field.ensures

pub returns-in_err-field-2 : goal.returns-in_err-field-2
unfolding two
returns-in_err-field-2 c = goes _ c.in_ok-field.ensures (stays _ c.from_residual-in_err-field-2.ensures.1 c.in_err-field-2.ensures)

pub returns : goal.returns
unfolding two
returns c = goes _ c.in_ok-field.ensures (goes _ c.in_ok-field-2.ensures done)
