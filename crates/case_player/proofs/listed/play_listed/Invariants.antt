use Rattle.std.proofs.Common.{◌≤◌}
use Rattle.case_player.proofs.listed.play_listed.Given as goal

abbrev pub invariant-loop-name : goal.invariant-loop-name
invariant-loop-name l = l.tally.differing ≤ l.tally.played
