-- Playing line by line.
use Rattle.std.proofs.Common.{◌≡◌, ◌==◌, ℕ, ◌+◌, ◌<◌, Bool, true, false, cond, not, List, [], ◌∷◌, ◌++◌, length, take, drop, Option, refl, ap, ◌∙◌, arith}
use Rattle.std.proofs.lemmas.Grind.{common_steps}
use Rattle.std.specs.List.{prefix_len, before_first, after_first}
use Rattle.printing.specs.Printed.{answer_line}
use Rattle.script.specs.Judged.{reading}
use Rattle.player.specs.Answers.{Manning, line_answer, line_after}
use Rattle.player.specs.Lines.{prefixed, lines}
use Rattle.player.specs.Playing.{played_on}

-- a byte in front of a cut script stands in front of its first line
cut_on : (b n : ℕ) (bs : List ℕ) → (b ∷ take n bs) ∷ lines (drop (n + 1) bs) ≡ take (1 + n) (b ∷ bs) ∷ lines (drop (1 + n + 1) (b ∷ bs))
cut_on b n bs = grind (arith, common_steps)

-- a script that is not at its end has a first line, and then the lines behind it
pub lines_cut : (b : ℕ) (bs : List ℕ) → lines (b ∷ bs) ≡ before_first (λ x. x == 10) (b ∷ bs) ∷ lines (after_first (λ x. x == 10) (b ∷ bs))
lines_cut b [] = last (b == 10)
  where
    last : (is : Bool) → cond is ([] ∷ lines []) (prefixed b (lines [])) ≡ take (cond (not is) 1 0) (b ∷ []) ∷ lines (drop (cond (not is) 1 0 + 1) (b ∷ []))
    last true = refl
    last false = refl
lines_cut b (x ∷ xs) = more (b == 10) (prefix_len (λ y. not (y == 10)) (x ∷ xs)) (lines_cut x xs)
  where
    more : (is : Bool) (n : ℕ) → lines (x ∷ xs) ≡ take n (x ∷ xs) ∷ lines (drop (n + 1) (x ∷ xs)) → cond is ([] ∷ lines (x ∷ xs)) (prefixed b (lines (x ∷ xs))) ≡ take (cond (not is) (1 + n) 0) (b ∷ x ∷ xs) ∷ lines (drop (cond (not is) (1 + n) 0 + 1) (b ∷ x ∷ xs))
    more true n front = refl
    more false n front = ap (prefixed b) front ∙ cut_on b n (x ∷ xs)

-- the first line is played, and then the others behind it
pub played_more : (bench : Option Manning) (script : List ℕ) → 0 < length script → played_on bench (lines script) ≡ answer_line (line_answer bench (reading (before_first (λ x. x == 10) script))) ++ played_on (line_after bench (reading (before_first (λ x. x == 10) script))) (lines (after_first (λ x. x == 10) script))
unfolding played_on
played_more bench [] some = absurd (omega arith)
played_more bench (b ∷ bs) some = ap (played_on bench) (lines_cut b bs)

-- at its end nothing is played
pub played_over : (bench : Option Manning) (script : List ℕ) → length script ≡ 0 → played_on bench (lines script) ≡ []
unfolding played_on
played_over bench [] none = refl
played_over bench (b ∷ bs) none = absurd (omega arith)
