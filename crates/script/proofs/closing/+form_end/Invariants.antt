use Rattle.std.proofs.Common.{◌-◌, length}
use Rattle.script.proofs.Levels.{Standing}
use Rattle.script.proofs.closing.+form_end.Given as goal

abbrev pub invariant-loop-at : goal.invariant-loop-at
invariant-loop-at l = Standing l.line l.start l.at

abbrev pub decreases-loop-at : goal.decreases-loop-at
decreases-loop-at l = length l.line - l.at

abbrev pub decreases-form_end : goal.decreases-form_end
decreases-form_end l = length l.line.now - l.start
