-- The items of a line from a place on.
use Rattle.std.proofs.Common.{◌≡◌, ℕ, zero, suc, ◌+◌, ◌<◌, ◌≤◌, Bool, true, false, cond, eqb, List, [], ◌∷◌, length, get_or, take, drop, sym, refl, ap, ◌∙◌, subst, ⊎_elim, arith}
use Rattle.std.proofs.lemmas.List.{at_drop_more, at_drop_all, length-take-le}
use Rattle.std.proofs.lemmas.Bool.{cases_lt, false≢true, true≢false}
use Rattle.std.proofs.lemmas.Bool.Decides.{nat_tests}
use Rattle.script.specs.Items.{Item, opening, closing, space, word, end, in_word, joined, before, items}

-- the byte at a place says how the items from there begin
pub at_byte : (l : List ℕ) (i : ℕ) → i < length l → items (drop i l) ≡ before (get_or l i 0) (items (drop (i + 1) l))
at_byte l i h = at_drop_more items l i 0 h

pub at-end : (l : List ℕ) (i : ℕ) → length l ≤ i → items (drop i l) ≡ end ∷ []
at-end l i h = at_drop_all items l i h

-- a byte that is known
pub at_sign : (l : List ℕ) (i b : ℕ) → i < length l → get_or l i 0 ≡ b → items (drop i l) ≡ before b (items (drop (i + 1) l))
at_sign l i b h e = at_byte l i h ∙ ap (λ c. before c (items (drop (i + 1) l))) e

-- what is no sign is the last of four
pub last_of : {A : Type 0} (x y z : Bool) (a b c d : A) → cond x false (cond y false (cond z false true)) ≡ true → cond x a (cond y b (cond z c d)) ≡ d
last_of true y z a b c d h = absurd (false≢true h)
last_of false true z a b c d h = absurd (false≢true h)
last_of false false true a b c d h = absurd (false≢true h)
last_of false false false a b c d h = refl

-- some items do not begin with a word
abbrev pub NoWord : List Item → Type 0
NoWord [] = Unit {0}
NoWord (opening ∷ ts) = Unit {0}
NoWord (closing ∷ ts) = Unit {0}
NoWord (space ∷ ts) = Unit {0}
NoWord (word bs ∷ ts) = ⊥
NoWord (end ∷ ts) = Unit {0}

first_of : (x y z : Bool) (ts us : List Item) → cond x false (cond y false (cond z false true)) ≡ false → NoWord (cond x (opening ∷ ts) (cond y (closing ∷ ts) (cond z (space ∷ ts) us)))
first_of true y z ts us h = tt
first_of false true z ts us h = tt
first_of false false true ts us h = tt
first_of false false false ts us h = absurd (true≢false h)

pub joined-alone : (b : ℕ) (ts : List Item) → NoWord ts → joined b ts ≡ word (b ∷ []) ∷ ts
joined-alone b [] h = refl
joined-alone b (opening ∷ ts) h = refl
joined-alone b (closing ∷ ts) h = refl
joined-alone b (space ∷ ts) h = refl
joined-alone b (word bs ∷ ts) h = absurd h
joined-alone b (end ∷ ts) h = refl

-- bytes that join one after another
abbrev glued : List ℕ → List Item → List Item
glued [] ts = ts
glued (b ∷ bs) ts = joined b (glued bs ts)

glued-word : (bs : List ℕ) (ts : List Item) → 0 < length bs → NoWord ts → glued bs ts ≡ word bs ∷ ts
glued-word [] ts some h = absurd (omega arith)
glued-word (b ∷ []) ts some h = joined-alone b ts h
glued-word (b ∷ c ∷ bs) ts some h = ap (joined b) (glued-word (c ∷ bs) ts (omega arith) h)

run : (n : ℕ) (bs : List ℕ) → n ≤ length bs → ((k : ℕ) → k < n → in_word (get_or bs k 0) ≡ true) → items bs ≡ glued (take n bs) (items (drop n bs))
run zero bs h p = refl
run (suc n) [] h p = absurd (omega arith)
run (suc n) (b ∷ bs) h p =
    last_of (eqb b 40) (eqb b 41) (eqb b 32) (opening ∷ items bs) (closing ∷ items bs) (space ∷ items bs) (joined b (items bs)) (p 0 (omega arith))
    ∙ ap (joined b) (run n bs (omega arith) (λ k l. p (suc k) (omega arith)))

-- no word begins where a run has stopped
stopped : (bs : List ℕ) (n : ℕ) → (n < length bs → in_word (get_or bs n 0) ≡ false) → NoWord (items (drop n bs))
stopped bs n h =
    ⊎_elim
    (λ in-line. subst NoWord (sym (at_byte bs n in-line)) (first_of (eqb (get_or bs n 0) 40) (eqb (get_or bs n 0) 41) (eqb (get_or bs n 0) 32) _ _ (h in-line)))
    (λ past. subst NoWord (sym (at-end bs n past)) tt)
    (cases_lt n (length bs))

-- a run of word bytes that stops is one word
pub at-word : (bs : List ℕ) (n : ℕ) → 0 < n → n ≤ length bs → ((k : ℕ) → k < n → in_word (get_or bs k 0) ≡ true) → (n < length bs → in_word (get_or bs n 0) ≡ false) → items bs ≡ word (take n bs) ∷ items (drop n bs)
at-word bs n some within inside stops =
    run n bs within inside ∙ glued-word (take n bs) (items (drop n bs)) (omega (arith, length-take-le n bs within)) (stopped bs n stops)

-- a byte that is no sign is part of a word
pub plain_byte : (b : ℕ) → (b ≡ 40 → ⊥) → (b ≡ 41 → ⊥) → (b ≡ 32 → ⊥) → in_word b ≡ true
plain_byte b p q r = grind (arith, nat_tests)

-- a run that begins with such a byte has it
pub past_first : (l : List ℕ) (from to : ℕ) → from < length l → in_word (get_or l from 0) ≡ true → from ≤ to → (to < length l → in_word (get_or l to 0) ≡ false) → from < to
past_first l from to within plain h stops =
    ⊎_elim (λ e. e) (λ back. absurd (true≢false (sym plain ∙ ap (λ i. in_word (get_or l i 0)) (let e : from ≡ to = omega arith in e) ∙ stops (omega arith)))) (cases_lt from to)
