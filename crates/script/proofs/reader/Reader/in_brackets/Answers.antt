use Rattle.script.specs.Reading.{enclosed}
use Rattle.script.proofs.Follow.{done, goes, stays}
use Rattle.script.proofs.reader.Reader.in_brackets.Goals as goal

pub returns-in_err-pass : goal.returns-in_err-pass
unfolding enclosed
returns-in_err-pass g c = stays _ c.from_residual.ensures.1 c.in_err-pass.ensures

pub returns-in_err-form : goal.returns-in_err-form
unfolding enclosed
returns-in_err-form g c = goes _ c.in_ok-pass.ensures (stays _ c.from_residual-in_err-form.ensures.1 c.in_err-form.ensures)

pub returns-in_err-pass-2 : goal.returns-in_err-pass-2
unfolding enclosed
returns-in_err-pass-2 g c = goes _ c.in_ok-pass.ensures (goes _ c.in_ok-form.ensures (stays _ c.from_residual-in_err-pass-2.ensures.1 c.in_err-pass-2.ensures))

pub returns : goal.returns
unfolding enclosed
returns g c = goes _ c.in_ok-pass.ensures (goes _ c.in_ok-form.ensures (goes _ c.in_ok-pass-2.ensures done))
