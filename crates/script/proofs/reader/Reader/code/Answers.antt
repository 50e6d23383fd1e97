use Rattle.std.proofs.Common.{None}
use Rattle.script.specs.Script.{code, some_code}
use Rattle.script.proofs.Follow.{done, goes, none-at-open, some_unless, stays}
use Rattle.script.proofs.reader.Reader.code.Goals as goal

pub returns-then-is_at : goal.returns-then-is_at
unfolding code
returns-then-is_at c = none-at-open some_code _ c.if-is_at.ensures.passes

pub returns-in_err-code : goal.returns-in_err-code
unfolding code
returns-in_err-code c = some_unless None _ c.if-is_at.ensures.passes (stays _ c.from_residual.ensures.1 c.in_err-code.ensures)

pub returns-in_err-pass : goal.returns-in_err-pass
unfolding code
returns-in_err-pass c = some_unless None _ c.if-is_at.ensures.passes (goes _ c.in_ok-code.ensures (stays _ c.from_residual-in_err-pass.ensures.1 c.in_err-pass.ensures))

pub returns : goal.returns
unfolding code
returns c = some_unless None _ c.if-is_at.ensures.passes (goes _ c.in_ok-code.ensures (goes _ c.in_ok-pass.ensures done))
