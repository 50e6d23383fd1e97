use Rattle.script.specs.Script.{reply_fields}
use Rattle.script.proofs.Follow.{done, goes, stays}
use Rattle.script.proofs.reader.Reader.reply_fields.Goals as goal

pub returns-in_err-kind : goal.returns-in_err-kind
unfolding reply_fields
returns-in_err-kind c = stays _ c.from_residual.ensures.1 c.in_err-kind.ensures

pub returns-in_err-qual : goal.returns-in_err-qual
unfolding reply_fields
returns-in_err-qual c = goes _ c.in_ok-kind.ensures (stays _ c.from_residual-in_err-qual.ensures.1 c.in_err-qual.ensures)

pub returns-in_err-first : goal.returns-in_err-first
unfolding reply_fields
returns-in_err-first c = goes _ c.in_ok-kind.ensures (goes _ c.in_ok-qual.ensures (stays _ c.from_residual-in_err-first.ensures.1 c.in_err-first.ensures))

pub returns-in_err-to : goal.returns-in_err-to
unfolding reply_fields
returns-in_err-to c = goes _ c.in_ok-kind.ensures (goes _ c.in_ok-qual.ensures (goes _ c.in_ok-first.ensures (stays _ c.from_residual-in_err-to.ensures.1 c.in_err-to.ensures)))

pub returns : goal.returns
unfolding reply_fields
returns c = goes _ c.in_ok-kind.ensures (goes _ c.in_ok-qual.ensures (goes _ c.in_ok-first.ensures (goes _ c.in_ok-to.ensures done)))
