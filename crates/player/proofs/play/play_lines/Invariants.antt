use Rattle.std.proofs.Common.{◌≡◌, ◌++◌, length, None, string_bytes}
use Rattle.player.specs.Lines.{lines}
use Rattle.player.specs.Playing.{played_on}
use Rattle.player.proofs.play.play_lines.Given as goal

-- what is printed so far and what is left to play make the whole
abbrev pub invariant-loop-rest : goal.invariant-loop-rest
invariant-loop-rest l = string_bytes l.printed ++ played_on l.bench (lines l.rest) ≡ string_bytes l.initial.printed ++ played_on None (lines l.script)

abbrev pub decreases-loop-rest : goal.decreases-loop-rest
decreases-loop-rest l = length l.rest
