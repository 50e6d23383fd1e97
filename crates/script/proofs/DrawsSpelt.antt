-- The draws are read exactly where they are written.
use Rattle.std.proofs.Common.{◌≡◌, ℕ, zero, suc, ◌≤◌, min, List, [], ◌∷◌, ◌++◌, map, length, take, codes, decimal, sym, refl, ap, ◌∙◌, subst, append_assoc, arith}
use mathlib.Core.HLevel.{is_prop→PathP}
use native.Mathlib.Bridge.{le_prop}
use Rattle.std.proofs.Math.Nat.{min-le_right}
use Rattle.std.specs.List.{AllByRecursion}
use Rattle.std.proofs.lemmas.List.{length-take}
use Rattle.parts.specs.declared.few_numbers.FewNumbers.{FewNumbers}
use Rattle.script.specs.declared.form.MakeForm.{MakeForm}
use Rattle.script.specs.Items.{Item, opening, closing, space, word, end}
use Rattle.script.specs.Reading.{got, gives, bind, then, closes, enclosed, enclosed_field}
use Rattle.script.specs.Script.{numbers, padded, drawn, drawing, draws_within, draws, making, sixteen}
use Rattle.script.specs.Script as reads
use Rattle.script.specs.Writing.{Small, spaced, to_draw, draws_items, SmallDraws}
use Rattle.script.proofs.Drawing.{same_draws}
use Rattle.script.proofs.Told.{tells-only}
use Rattle.script.proofs.Spelt.{From, Spelt, from_last, from_then, from_gives, from-enclosed, goes_on, spelt-parts, spelt-means}
use Rattle.script.proofs.ContentSpelt.{number}

-- numbers, each behind a space
abbrev listed : List ℕ → List Item
listed ns = spaced (map decimal ns)

abbrev Few : ℕ → List ℕ → Type 0
Few most ns = AllByRecursion Small ns × (length ns ≤ most)

from-numbers : (most : ℕ) → From (numbers most) listed (Few most) []
unfolding numbers
from-numbers zero = from_gives [] refl (tt, omega arith)
from-numbers (suc most) = record { whole = go (from_then number.sounds (λ n g. from_then (from-numbers most) (λ ns h. from_gives (n ∷ ns) refl ((g, h.0), omega (arith, h.1))))) }
  where
    none : From (gives []) listed (Few (suc most)) []
    none = from_gives [] refl (tt, omega arith)

    go : From (then reads.number (λ n. then (numbers most) (λ ns. gives (n ∷ ns)))) listed (Few (suc most)) [] → (ts : List Item) (ns : List ℕ) (r : List Item) → numbers (suc most) ts ≡ got ns r → (ts ≡ listed ns ++ r) × Few (suc most) ns
    go more [] = none.whole []
    go more (opening ∷ ts) = none.whole (opening ∷ ts)
    go more (closing ∷ ts) = none.whole (closing ∷ ts)
    go more (space ∷ ts) = more.whole (space ∷ ts)
    go more (word bs ∷ ts) = none.whole (word bs ∷ ts)
    go more (end ∷ ts) = none.whole (end ∷ ts)

-- numbers are read where a bracket closes behind them
numbers-complete : (most : ℕ) (ns : List ℕ) (r : List Item) → Few most ns → numbers most (listed ns ++ (closing ∷ r)) ≡ got ns (closing ∷ r)
unfolding numbers then
numbers-complete zero [] r g = refl
numbers-complete zero (n ∷ ns) r g = absurd (omega (arith, g.1))
numbers-complete (suc most) [] r g = refl
numbers-complete (suc most) (n ∷ ns) r g =
    goes_on number n g.0.0 _ _ _ (ap (λ o. bind o (λ ns. gives (n ∷ ns))) (numbers-complete most ns r (g.0.1, omega (arith, g.1))))

take-padded : (k : ℕ) (ns : List ℕ) → length ns ≤ k → take (length ns) (padded k ns) ≡ ns
take-padded k [] h = refl
take-padded zero (n ∷ ns) h = absurd (omega arith)
take-padded (suc k) (n ∷ ns) h = ap (λ xs. n ∷ xs) (take-padded k ns (omega arith))

length-padded : (k : ℕ) (ns : List ℕ) → length (padded k ns) ≡ k
length-padded zero ns = refl
length-padded (suc k) [] = ap suc (length-padded k [])
length-padded (suc k) (n ∷ ns) = ap suc (length-padded k ns)

to_draw_drawn : (ns : List ℕ) → length ns ≤ 16 → to_draw (drawn ns) ≡ ns
to_draw_drawn ns h = let few : min (length ns) 16 ≡ length ns = omega arith in ap (λ k. take k (padded 16 ns)) few ∙ take-padded 16 ns h

-- draws that can be written, sixteen at most: the form of a set holds that bound
abbrev FewDraws : FewNumbers → Type 0
FewDraws d = SmallDraws d × (d.count ≤ 16)

few-drawn : (ns : List ℕ) → Few 16 ns → FewDraws (drawn ns)
few-drawn ns g = let same = to_draw_drawn ns g.1 in (record { all = subst (AllByRecursion Small) (sym same) g.0; past = ap (padded 16) (sym same) }, min-le_right (length ns) 16)

to_draw_few : (d : FewNumbers) → FewDraws d → length (to_draw d) ≡ d.count
to_draw_few d g = let long : length d.numbers ≡ 16 = ap length g.0.past ∙ length-padded 16 (to_draw d) in length-take d.count d.numbers ∙ omega (arith, g.1)

drawn-again : (d : FewNumbers) → FewDraws d → drawn (to_draw d) ≡ d
drawn-again d g = let long = to_draw_few d g in same_draws (drawn (to_draw d)) d (sym g.0.past) (omega (arith, g.1))

pub spelt-draws : Spelt draws (λ d. space ∷ draws_items d) FewDraws
unfolding enclosed_field draws_within drawing enclosed then
spelt-draws = record { sounds = sounds; complete = complete }
  where
    inner : From drawing (λ d. listed (to_draw d)) FewDraws []
    inner = from_then (from-numbers 16) (λ ns g. from_gives (drawn ns) (ap listed (to_draw_drawn ns g.1)) (few-drawn ns g))

    sounds : From draws (λ d. space ∷ draws_items d) FewDraws []
    sounds = from_then spelt-parts.sounds (λ _ _. from_last (from-enclosed (from_then (spelt-means (tells-only (codes "draws"))).sounds (λ _ _. from_last inner))))

    complete : (d : FewNumbers) (r : List Item) → FewDraws d → draws ((space ∷ draws_items d) ++ r) ≡ got d r
    complete d r g =
        let few = to_draw_few d g in
        ap (λ us. draws (space ∷ opening ∷ word (codes "draws") ∷ us)) (append_assoc (listed (to_draw d)) (closing ∷ []) r)
        ∙ ap (λ o. bind (bind o (λ ns. gives (drawn ns))) (λ x. then closes (λ _. gives x))) (numbers-complete 16 (to_draw d) r (g.0.all, omega (arith, g.1)))
        ∙ ap (λ x. got x r) (drawn-again d g)

-- draws that are read are at most sixteen
pub few-draws : (ts : List Item) (d : FewNumbers) (r : List Item) → draws ts ≡ got d r → d.count ≤ 16
few-draws ts d r e = (spelt-draws.sounds.whole ts d r e).1.1

-- and then they all count
pub sixteen-few : (d : FewNumbers) → d.count ≤ 16 → sixteen d ≡ d
sixteen-few d h = same_draws (sixteen d) d refl (omega arith)

pub made : (m : MakeForm) → making (m.card.address, m.channel) (m.card.nr, m.card.tc) (m.card.ts, m.card.tj) m.card.nw m.plan m.draws ≡ m
made m =
    let same = sixteen-few m.draws m.few in
    λ i. record { card = m.card; channel = m.channel; plan = m.plan; draws = same i; few = is_prop→PathP (λ j. (same j).count ≤ 16) (λ j. le_prop {n = (same j).count} {m = 16}) (min-le_right m.draws.count 16) m.few i }
