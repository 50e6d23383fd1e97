use Rattle.std.proofs.Common.{arith, rules}
use Rattle.std.proofs.lemmas.Grind.{common_steps}
use Rattle.player.proofs.Plays.{played_more, played_over}
use Rattle.player.proofs.play.play_lines.Goals as goal

pub loop-rest-preserved : goal.loop-rest-preserved
loop-rest-preserved c =
    let more = played_more c.loop-rest.bench c.loop-rest.rest.now (search rules) in
    grind (arith, common_steps)

pub returns : goal.returns
returns c =
    let over = played_over c.loop-rest.bench c.loop-rest.rest.now (search rules) in
    grind (arith, common_steps)
