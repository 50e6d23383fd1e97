-- A choice does not ask which codes are accepted, so the facts hold for any codes.
use Rattle.std.proofs.Common.{rules}
use Rattle.requests.proofs.choose.choose.Goals.{then-may_choose, else-may_choose}
use Rattle.requests.proofs.choose.choose.Goals as goal

pub returns-after-may_choose-clause-job : goal.returns-after-may_choose-clause-job
returns-after-may_choose-clause-job g c =
    λ codes. elim c.if-may_choose.branch [ then-may_choose w ↦ let p = w.pick.ensures.choice codes in search rules | else-may_choose w ↦ search rules ]

pub returns-after-may_choose-clause-after : goal.returns-after-may_choose-clause-after
returns-after-may_choose-clause-after g c =
    λ codes. elim c.if-may_choose.branch [ then-may_choose w ↦ let p = w.pick.ensures.after codes in search rules | else-may_choose w ↦ search rules ]
