-- Numbers kept in place, as a list.
use Rattle.std.specs.Prelude.{ℕ, List, take}
use Rattle.parts.specs.declared.few_numbers.FewNumbers.{FewNumbers}

-- the numbers that count
abbrev pub few_items : FewNumbers → List ℕ
few_items f = take f.count f.numbers
