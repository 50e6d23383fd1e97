use Rattle.script.proofs.Follow.{done, goes, stays}
use Rattle.script.proofs.ReadOnly.{read_from_start}
use Rattle.script.proofs.reader.Reader.whole.Goals as goal

pub returns-in_err-pass : goal.returns-in_err-pass
returns-in_err-pass c = read_from_start (stays _ c.from_residual.ensures.1 c.in_err-pass.ensures) c.requires

pub returns-in_err-name : goal.returns-in_err-name
returns-in_err-name c = read_from_start (goes _ c.in_ok-pass.ensures (stays _ c.from_residual-in_err-name.ensures.1 c.in_err-name.ensures)) c.requires

pub returns-in_err-form : goal.returns-in_err-form
returns-in_err-form c = read_from_start (goes _ c.in_ok-pass.ensures (goes _ c.in_ok-name.ensures (stays _ c.from_residual-in_err-form.ensures.1 c.in_err-form.ensures))) c.requires

pub returns-in_err-last : goal.returns-in_err-last
returns-in_err-last c = read_from_start (goes _ c.in_ok-pass.ensures (goes _ c.in_ok-name.ensures (goes _ c.in_ok-form.ensures (stays _ c.from_residual-in_err-last.ensures.1 c.in_err-last.ensures)))) c.requires

pub returns : goal.returns
returns c = read_from_start (goes _ c.in_ok-pass.ensures (goes _ c.in_ok-name.ensures (goes _ c.in_ok-form.ensures (goes _ c.in_ok-last.ensures done)))) c.requires
