-- What the network plans accept.
use Rattle.std.specs.Prelude.{ℕ, Bool, false, ◌||◌, List, [], ◌∷◌, ◌==◌, bit_and}
use Rattle.parts.specs.declared.plan.MaskPlan.{MaskPlan}

-- a mask plan accepts a code whose bits under the mask are those of its value (6.2.1.1)
abbrev pub mask_accepts : MaskPlan → ℕ → Bool
mask_accepts p code = bit_and code p.mask == p.value

-- whether a code stands in a list of codes
abbrev pub stands_in : ℕ → List ℕ → Bool
stands_in code [] = false
stands_in code (c ∷ cs) = c == code || stands_in code cs
