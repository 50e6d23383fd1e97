use Rattle.std.proofs.Common.{ap, rules}
use Rattle.parts.specs.Sources.{choice_of}
use Rattle.parts.proofs.After.{register_after}
use Rattle.parts.proofs.register_source.RegisterSource.new.Goals as goal

pub returns : goal.returns
returns c = record { answer = search rules; later = λ lengths slots. ap (λ r. choice_of r slots) (register_after (record { register = c.args.register }) lengths) }
