-- Sources after any number of draws.
use Rattle.std.specs.Prelude.{ℕ, zero, suc, List, [], ◌∷◌}

-- a source after draws for frames of these lengths, the first first
abbrev pub after_draws : {S : Type 0} → (S → ℕ → S) → S → List ℕ → S
after_draws drawn s [] = s
after_draws drawn s (slots ∷ more) = after_draws drawn (drawn s slots) more

-- a function put to use so many times
abbrev pub repeated : (ℕ → ℕ) → ℕ → ℕ → ℕ
repeated f zero x = x
repeated f (suc k) x = repeated f k (f x)
