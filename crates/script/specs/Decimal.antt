-- Numbers in base ten.
use Rattle.std.specs.Prelude.{◌≡◌, ℕ, ◌^◌, ◌<◌, ◌≤◌, List, length, Some, None, decimal, Option, ◌≢◌, slice_index_or}

-- the answer is the number below ten million that the bytes write, or none where there is no such number
abbrev pub NumberOf : List ℕ → Option ℕ → Type 0
NumberOf bytes (Some n) = (bytes ≡ decimal n) × (n < 10 ^ 7)
NumberOf bytes None = (n : ℕ) → n < 10 ^ 7 → bytes ≢ decimal n

-- one to seven bytes, the first of several not a zero
pub record Trim (bytes : List ℕ) : Type 0 where
  pub some : 0 < length bytes
  pub short : length bytes ≤ 7
  pub lead : slice_index_or bytes 0 0 ≡ 48 → length bytes ≡ 1
