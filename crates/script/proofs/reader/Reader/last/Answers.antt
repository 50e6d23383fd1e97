use Rattle.script.proofs.Follow.{goes, stays}
use Rattle.script.proofs.reader.Reader.last.Goals as goal

pub returns-in_err-pass : goal.returns-in_err-pass
returns-in_err-pass c = stays _ c.from_residual.ensures.1 c.in_err-pass.ensures

pub returns : goal.returns
returns c = goes _ c.in_ok-pass.ensures c.end.ensures
