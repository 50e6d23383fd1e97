use Rattle.std.proofs.Common.{◌≡◌, drop}
use Rattle.parts.specs.Plans.{stands_in}
use Rattle.parts.proofs.list_plan.ListPlanNetworkPlan.is_accepted.Given as goal

-- what stands in the rest decides what stands in the whole
abbrev pub invariant-loop-listed : goal.invariant-loop-listed
invariant-loop-listed l = stands_in l.code l.self.codes.now ≡ stands_in l.code (drop l.listed-index l.self.codes.now)
