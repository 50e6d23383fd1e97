use Rattle.std.proofs.Common.{rules}
use Rattle.script.specs.Script.{division_fields}
use Rattle.script.proofs.Follow.{makes}
use Rattle.script.proofs.reader.Reader.division.Goals as goal

pub returns : goal.returns
unfolding division_fields
returns c = makes (λ x. record { qualifier = x.0; address = x.1 }) (λ x y k. search rules) _ _ c.map.ensures.cases c.two.ensures
