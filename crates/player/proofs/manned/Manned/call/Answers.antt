use Rattle.std.proofs.Common.{rules}
use Rattle.player.proofs.manned.Manned.call.Goals as goal

pub returns-in-Slot-clause-answer : goal.returns-in-Slot-clause-answer
returns-in-Slot-clause-answer c = rw (← c.self-in-Slot.view_is) (search rules)

pub returns-in-Slot-clause-after : goal.returns-in-Slot-clause-after
returns-in-Slot-clause-after c = rw (← c.self-in-Slot.view_is) (search rules)
