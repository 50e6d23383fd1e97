-- Items that stand apart: a line's items are spelt by its bytes, and a form's line has no others.
use Rattle.std.proofs.Common.{◌≡◌, ℕ, Bool, true, false, cond, ◌&&◌, eqb, List, [], ◌∷◌, ◌++◌, sym, refl, ap, ◌∙◌, append_assoc, arith}
use Rattle.std.proofs.lemmas.Bool.{and_parts, and_from}
use Rattle.script.specs.Items.{Item, opening, closing, space, word, end, in_word, joined, before, items, spell}
use Rattle.script.proofs.Lines.{NoWord, last_of, joined-alone}

-- a word has a byte, and each of its bytes can stand in a word
abbrev pub properly : List ℕ → Bool
properly [] = false
properly (b ∷ []) = in_word b
properly (b ∷ c ∷ bs) = in_word b && properly (c ∷ bs)

-- words are parted, and the end is the last item
abbrev pub Tidy : List Item → Type 0
Tidy [] = ⊥
Tidy (opening ∷ ts) = Tidy ts
Tidy (closing ∷ ts) = Tidy ts
Tidy (space ∷ ts) = Tidy ts
Tidy (word bs ∷ ts) = (properly bs ≡ true) × NoWord ts × Tidy ts
Tidy (end ∷ []) = Unit {0}
Tidy (end ∷ t ∷ ts) = ⊥

-- items one after another spell their bytes so
pub spell-append : (xs ys : List Item) → spell (xs ++ ys) ≡ spell xs ++ spell ys
spell-append [] ys = refl
spell-append (opening ∷ xs) ys = ap (λ us. 40 ∷ us) (spell-append xs ys)
spell-append (closing ∷ xs) ys = ap (λ us. 41 ∷ us) (spell-append xs ys)
spell-append (space ∷ xs) ys = ap (λ us. 32 ∷ us) (spell-append xs ys)
spell-append (word bs ∷ xs) ys = ap (λ us. bs ++ us) (spell-append xs ys) ∙ sym (append_assoc bs (spell xs) (spell ys))
spell-append (end ∷ xs) ys = spell-append xs ys

-- a byte of a word joins what stands behind it
before-word : (b : ℕ) (ts : List Item) → in_word b ≡ true → before b ts ≡ joined b ts
before-word b ts e = last_of (eqb b 40) (eqb b 41) (eqb b 32) (opening ∷ ts) (closing ∷ ts) (space ∷ ts) (joined b ts) e

items-word : (bs s : List ℕ) (ts : List Item) → properly bs ≡ true → items s ≡ ts → NoWord ts → items (bs ++ s) ≡ word bs ∷ ts
items-word [] s ts p e h = absurd (let w : ◌≡◌ {A = ℕ} 0 1 = cc in omega arith)
items-word (b ∷ []) s ts p e h = ap (before b) e ∙ before-word b ts p ∙ joined-alone b ts h
items-word (b ∷ c ∷ bs) s ts p e h =
    let both = and_parts (in_word b) (properly (c ∷ bs)) p in
    ap (before b) (items-word (c ∷ bs) s ts both.1 e h) ∙ before-word b (word (c ∷ bs) ∷ ts) both.0

-- tidy items are those of their bytes
pub items-spell : (ts : List Item) → Tidy ts → items (spell ts) ≡ ts
items-spell [] h = absurd h
items-spell (opening ∷ ts) h = ap (λ us. opening ∷ us) (items-spell ts h)
items-spell (closing ∷ ts) h = ap (λ us. closing ∷ us) (items-spell ts h)
items-spell (space ∷ ts) h = ap (λ us. space ∷ us) (items-spell ts h)
items-spell (word bs ∷ ts) h = items-word bs (spell ts) ts h.0 (items-spell ts h.2) h.1
items-spell (end ∷ []) h = refl
items-spell (end ∷ t ∷ ts) h = absurd h

-- nothing stands behind an end
pub tidy-end : (xs ts : List Item) → Tidy (xs ++ end ∷ ts) → ts ≡ []
tidy-end [] [] h = refl
tidy-end [] (t ∷ ts) h = absurd h
tidy-end (opening ∷ xs) ts h = tidy-end xs ts h
tidy-end (closing ∷ xs) ts h = tidy-end xs ts h
tidy-end (space ∷ xs) ts h = tidy-end xs ts h
tidy-end (word bs ∷ xs) ts h = tidy-end xs ts h.2
tidy-end (end ∷ []) ts h = absurd h
tidy-end (end ∷ x ∷ xs) ts h = absurd h

-- some items end with the end
abbrev pub Ended : List Item → Type 0
Ended ts = (xs : List Item) × (ts ≡ xs ++ end ∷ [])

ended-cons : (t : Item) (ts : List Item) → Ended ts → Ended (t ∷ ts)
ended-cons t ts e = (t ∷ e.0, ap (λ us. t ∷ us) e.1)

ended-joined : (b : ℕ) (ts : List Item) → Ended ts → Ended (joined b ts)
ended-joined b [] e = ended-cons (word (b ∷ [])) [] e
ended-joined b (opening ∷ ts) e = ended-cons (word (b ∷ [])) (opening ∷ ts) e
ended-joined b (closing ∷ ts) e = ended-cons (word (b ∷ [])) (closing ∷ ts) e
ended-joined b (space ∷ ts) e = ended-cons (word (b ∷ [])) (space ∷ ts) e
ended-joined b (word bs ∷ ts) e = go e.0 e.1
  where
    go : (xs : List Item) → word bs ∷ ts ≡ xs ++ end ∷ [] → Ended (word (b ∷ bs) ∷ ts)
    go [] is = absurd (let z : ◌≡◌ {A = ℕ} 0 1 = cc in omega arith)
    go (x ∷ xs) is = let rest : ts ≡ xs ++ end ∷ [] = cc in ended-cons (word (b ∷ bs)) ts (xs, rest)
ended-joined b (end ∷ ts) e = ended-cons (word (b ∷ [])) (end ∷ ts) e

pub ended-items : (line : List ℕ) → Ended (items line)
ended-items [] = ([], refl)
ended-items (b ∷ bs) = go (eqb b 40) (eqb b 41) (eqb b 32) (items bs) (ended-items bs)
  where
    go : (x y z : Bool) (ts : List Item) → Ended ts → Ended (cond x (opening ∷ ts) (cond y (closing ∷ ts) (cond z (space ∷ ts) (joined b ts))))
    go true y z ts e = ended-cons opening ts e
    go false true z ts e = ended-cons closing ts e
    go false false true ts e = ended-cons space ts e
    go false false false ts e = ended-joined b ts e

-- the items of a line are tidy
tidy-joined : (b : ℕ) (ts : List Item) → in_word b ≡ true → Tidy ts → Tidy (joined b ts)
tidy-joined b [] e h = absurd h
tidy-joined b (opening ∷ ts) e h = (e, tt, h)
tidy-joined b (closing ∷ ts) e h = (e, tt, h)
tidy-joined b (space ∷ ts) e h = (e, tt, h)
tidy-joined b (word [] ∷ ts) e h = absurd (let p = h.0 in let z : ◌≡◌ {A = ℕ} 0 1 = cc in omega arith)
tidy-joined b (word (c ∷ bs) ∷ ts) e h = (and_from (in_word b) (properly (c ∷ bs)) e h.0, h.1, h.2)
tidy-joined b (end ∷ ts) e h = (e, tt, h)

pub tidy-items : (line : List ℕ) → Tidy (items line)
tidy-items [] = tt
tidy-items (b ∷ bs) = go (eqb b 40) (eqb b 41) (eqb b 32) refl refl refl (items bs) (tidy-items bs)
  where
    go : (x y z : Bool) → eqb b 40 ≡ x → eqb b 41 ≡ y → eqb b 32 ≡ z → (ts : List Item) → Tidy ts → Tidy (cond x (opening ∷ ts) (cond y (closing ∷ ts) (cond z (space ∷ ts) (joined b ts))))
    go true y z e f g ts h = h
    go false true z e f g ts h = h
    go false false true e f g ts h = h
    go false false false e f g ts h = tidy-joined b ts (λ i. cond (e i) false (cond (f i) false (cond (g i) false true))) h
