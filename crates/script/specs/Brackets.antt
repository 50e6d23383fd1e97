-- Opening and closing brackets in a line.
use Rattle.std.specs.Prelude.{◌≡◌, ℕ, ◌+◌, ◌<◌, ◌≤◌, List, length, Some, None, count_by, Option, nat_eq, slice_index, slice_index_or}
use Rattle.std.specs.List.{between}

-- the bytes of a line from one place to before another
abbrev pub part : List ℕ → ℕ → ℕ → List ℕ
part line from to = between from to line

-- how often a byte stands among some
abbrev pub count : ℕ → List ℕ → ℕ
count byte bytes = count_by (λ b. nat_eq b byte) bytes

-- how many brackets open among some bytes
abbrev pub opened : List ℕ → ℕ
opened bytes = count 40 bytes

-- how many brackets close among some bytes
abbrev pub closed : List ℕ → ℕ
closed bytes = count 41 bytes

-- at each place behind `start`, up to and with `to`, fewer brackets have closed than opened
abbrev pub Inside : List ℕ → ℕ → ℕ → Type 0
Inside line start to = (k : ℕ) → start < k → k ≤ to → closed (part line start k) < opened (part line start k)

-- the form that opens at `start` closes at `close`
pub record ClosesAt (line : List ℕ) (start close : ℕ) : Type 0 where
  pub opens : slice_index_or line start 0 ≡ 40
  pub after : start < close
  pub within : close < length line
  pub inside : Inside line start close
  pub even : opened (part line start (close + 1)) ≡ closed (part line start (close + 1))

-- the answer is where the form that opens at `start` closes, or none where there is no such place
abbrev pub Closes : List ℕ → ℕ → Option ℕ → Type 0
Closes line start (Some close) = ClosesAt line start close
Closes line start None = slice_index line start ≡ 40 → Inside line start (length line)
