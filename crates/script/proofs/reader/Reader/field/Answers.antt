use Rattle.script.specs.Reading.{field}
use Rattle.script.proofs.Follow.{goes, stays}
use Rattle.script.proofs.reader.Reader.field.Goals as goal

pub returns-in_err-pass : goal.returns-in_err-pass
unfolding field
returns-in_err-pass g c = stays _ c.from_residual.ensures.1 c.in_err-pass.ensures

pub returns : goal.returns
unfolding field
returns g c = goes _ c.in_ok-pass.ensures c.word.ensures
