-- Readers that read just what is written for a value.
use Rattle.std.proofs.Common.{◌≡◌, ℕ, List, [], ◌∷◌, ◌++◌, Some, None, Option, sym, refl, ap, ◌∙◌, subst, append_assoc, arith}
use mathlib.Core.Path.{fun_ext}
use Rattle.script.specs.Items.{Item, opening, closing, space, word, end}
use Rattle.script.specs.Reading.{Out, got, stuck, Reads, gives, bind, then, opens, closes, parts, ends, enclosed, means, field}
use Rattle.script.proofs.Lawful.{not_both, taken, one}
use Rattle.script.proofs.Singles.{as_opening, as_closing, as_space, as_end, as_word, opens_one, closes-one, parts-one, ends-one, means-one}
use Rattle.script.proofs.Told.{Tells, Any}

-- what a reader reads behind some items is written, together with them, for its value
pub record From {A : Type 0} (p : Reads A) (spelt : A → List Item) (Good : A → Type 0) (xs : List Item) : Type 0 where
  pub whole : (ts : List Item) (a : A) (r : List Item) → p ts ≡ got a r → (xs ++ ts ≡ spelt a ++ r) × Good a

-- a value is read exactly where what is written for it stands in front
pub record Spelt {A : Type 0} (p : Reads A) (spelt : A → List Item) (Good : A → Type 0) : Type 0 where
  pub sounds : From p spelt Good []
  pub complete : (a : A) (r : List Item) → Good a → p (spelt a ++ r) ≡ got a r

pub from_then : {A B : Type 0} {p : Reads A} {k : A → Reads B} {s : A → List Item} {G : A → Type 0} {spelt : B → List Item} {Good : B → Type 0} {xs : List Item} → From p s G [] → ((a : A) → G a → From (k a) spelt Good (xs ++ s a)) → From (then p k) spelt Good xs
unfolding then
from_then {A} {B} {p} {k} {s} {G} {spelt} {Good} {xs} first next = record { whole = λ ts b r e. go ts b r e (p ts) refl }
  where
    go : (ts : List Item) (b : B) (r : List Item) → bind (p ts) k ≡ got b r → (o : Out A) → p ts ≡ o → (xs ++ ts ≡ spelt b ++ r) × Good b
    go ts b r e (got a m) is =
        let front = first.whole ts a m is in
        let rest = (next a front.1).whole m b r (sym (ap (λ o. bind o k) is) ∙ e) in
        (ap (λ us. xs ++ us) front.0 ∙ sym (append_assoc xs (s a) m) ∙ rest.0, rest.1)
    go ts b r e (stuck m) is = not_both e (ap (λ o. bind o k) is)

pub from_gives : {A : Type 0} {spelt : A → List Item} {Good : A → Type 0} {xs : List Item} (a : A) → spelt a ≡ xs → Good a → From (gives a) spelt Good xs
from_gives {A} {spelt} {Good} {xs} a is good = record { whole = go }
  where
    go : (ts : List Item) (b : A) (r : List Item) → gives a ts ≡ got b r → (xs ++ ts ≡ spelt b ++ r) × Good b
    go ts b r e =
        let same : a ≡ b = cc in
        let left : ts ≡ r = cc in
        (ap (λ us. us ++ ts) (sym is) ∙ ap (λ us. spelt a ++ us) left ∙ ap (λ c. spelt c ++ r) same, subst Good same good)

pub from_last : {A : Type 0} {p : Reads A} {s : A → List Item} {G : A → Type 0} {xs : List Item} → From p s G [] → From p (λ a. xs ++ s a) G xs
from_last {s = s} {xs = xs} l = record { whole = λ ts a r e. let it = l.whole ts a r e in (ap (λ us. xs ++ us) it.0 ∙ sym (append_assoc xs (s a) r), it.1) }

-- one reader after another, at what is written for the first
pub goes_on : {A B : Type 0} {p : Reads A} {s : A → List Item} {G : A → Type 0} → Spelt p s G → (a : A) → G a → (k : A → Reads B) (ts : List Item) (o : Out B) → k a ts ≡ o → then p k (s a ++ ts) ≡ o
unfolding then
goes_on first a good k ts o e = ap (λ o. bind o k) (first.complete a ts good) ∙ e

pub spelt_like : {A : Type 0} {p q : Reads A} {s : A → List Item} {G : A → Type 0} → ((ts : List Item) → p ts ≡ q ts) → Spelt q s G → Spelt p s G
spelt_like {s = s} {G} same l = subst (λ x. Spelt x s G) (sym (fun_ext same)) l

spelt-one : {A : Type 0} (of : Item → Option A) (item_for : A → Item) (Good : A → Type 0) → ((t : Item) (a : A) → of t ≡ Some a → (t ≡ item_for a) × Good a) → ((a : A) → Good a → of (item_for a) ≡ Some a) → Spelt (one of) (λ a. item_for a ∷ []) Good
spelt-one {A} of item_for Good sound complete = record { sounds = record { whole = sounds }; complete = λ a r good. ap (λ o. taken o (item_for a) r) (complete a good) }
  where
    sounds : (ts : List Item) (a : A) (r : List Item) → one of ts ≡ got a r → (ts ≡ item_for a ∷ r) × Good a
    sounds [] a r e = not_both e refl
    sounds (t ∷ ts) a r e = go (of t) refl
      where
        go : (o : Option A) → of t ≡ o → (t ∷ ts ≡ item_for a ∷ r) × Good a
        go (Some b) is =
            let here : got b ts ≡ got a r = sym (ap (λ o. taken o t ts) is) ∙ e in
            let same : b ≡ a = cc in
            let left : ts ≡ r = cc in
            let it = sound t a (is ∙ ap Some same) in
            ((λ i. it.0 i ∷ left i), it.1)
        go None is = not_both e (ap (λ o. taken o t ts) is)

none-some : {A X : Type 0} {a : A} → ◌≡◌ {A = Option A} None (Some a) → X
none-some {A} {X} {a} e = absurd (let z : ◌≡◌ {A = ℕ} 0 1 = cc in omega arith)

pub spelt-opens : Spelt opens (λ _. opening ∷ []) Any
spelt-opens = spelt_like opens_one (spelt-one as_opening (λ _. opening) Any sound (λ a _. refl))
  where
    sound : (t : Item) (a : Unit {0}) → as_opening t ≡ Some a → (t ≡ opening) × Any a
    sound opening a e = (refl, tt)
    sound closing a e = none-some e
    sound space a e = none-some e
    sound (word bs) a e = none-some e
    sound end a e = none-some e

pub spelt-closes : Spelt closes (λ _. closing ∷ []) Any
spelt-closes = spelt_like closes-one (spelt-one as_closing (λ _. closing) Any sound (λ a _. refl))
  where
    sound : (t : Item) (a : Unit {0}) → as_closing t ≡ Some a → (t ≡ closing) × Any a
    sound opening a e = none-some e
    sound closing a e = (refl, tt)
    sound space a e = none-some e
    sound (word bs) a e = none-some e
    sound end a e = none-some e

pub spelt-parts : Spelt parts (λ _. space ∷ []) Any
spelt-parts = spelt_like parts-one (spelt-one as_space (λ _. space) Any sound (λ a _. refl))
  where
    sound : (t : Item) (a : Unit {0}) → as_space t ≡ Some a → (t ≡ space) × Any a
    sound opening a e = none-some e
    sound closing a e = none-some e
    sound space a e = (refl, tt)
    sound (word bs) a e = none-some e
    sound end a e = none-some e

pub spelt-ends : Spelt ends (λ _. end ∷ []) Any
spelt-ends = spelt_like ends-one (spelt-one as_end (λ _. end) Any sound (λ a _. refl))
  where
    sound : (t : Item) (a : Unit {0}) → as_end t ≡ Some a → (t ≡ end) × Any a
    sound opening a e = none-some e
    sound closing a e = none-some e
    sound space a e = none-some e
    sound (word bs) a e = none-some e
    sound end a e = (refl, tt)

pub spelt-means : {A : Type 0} {of : List ℕ → Option A} {word_for : A → List ℕ} {Good : A → Type 0} → Tells of word_for Good → Spelt (means of) (λ a. word (word_for a) ∷ []) Good
spelt-means {A} {of} {word_for} {Good} tells = spelt_like (means-one of) (spelt-one (as_word of) (λ a. word (word_for a)) Good sound tells.complete)
  where
    sound : (t : Item) (a : A) → as_word of t ≡ Some a → (t ≡ word (word_for a)) × Good a
    sound opening a e = none-some e
    sound closing a e = none-some e
    sound space a e = none-some e
    sound (word bs) a e = let it = tells.sound bs a e in (ap word it.0, it.1)
    sound end a e = none-some e

pub spelt-field : {A : Type 0} {of : List ℕ → Option A} {word_for : A → List ℕ} {Good : A → Type 0} → Tells of word_for Good → Spelt (field of) (λ a. space ∷ word (word_for a) ∷ []) Good
unfolding field then
spelt-field tells = record { sounds = from_then spelt-parts.sounds (λ _ _. from_last (spelt-means tells).sounds); complete = (spelt-means tells).complete }

-- what is written between brackets
pub from-enclosed : {A : Type 0} {p : Reads A} {s : A → List Item} {G : A → Type 0} → From p s G [] → From (enclosed p) (λ a. opening ∷ (s a ++ closing ∷ [])) G []
unfolding enclosed
from-enclosed inner = from_then spelt-opens.sounds (λ _ _. from_then (from_last inner) (λ a g. from_then spelt-closes.sounds (λ _ _. from_gives a refl g)))

pub spelt-enclosed : {A : Type 0} {p : Reads A} {s : A → List Item} {G : A → Type 0} → Spelt p s G → Spelt (enclosed p) (λ a. opening ∷ (s a ++ closing ∷ [])) G
unfolding enclosed
spelt-enclosed {p = p} {s} inner =
    record {
      sounds = from-enclosed inner.sounds;
      complete = λ a r g.
          ap (λ us. enclosed p (opening ∷ us)) (append_assoc (s a) (closing ∷ []) r)
          ∙ goes_on spelt-opens tt tt _ _ _ (goes_on inner a g _ _ _ (goes_on spelt-closes tt tt _ _ _ refl));
    }

-- a name, and what is written for the values of that name
module _ {A N : Type 0} {of : List ℕ → Option N} {word_for : N → List ℕ} {fields : N → Reads A} {name_of : A → N} {s : A → List Item} {Good : A → Type 0} (tells : Tells of word_for Any) (inner : (name : N) → Spelt (fields name) s (λ a. (name_of a ≡ name) × Good a)) where
  behind-name : (name : N) → From (fields name) (λ a. word (word_for (name_of a)) ∷ s a) Good (word (word_for name) ∷ [])
  behind-name name = record { whole = go }
    where
      go : (ts : List Item) (a : A) (r : List Item) → fields name ts ≡ got a r → (word (word_for name) ∷ ts ≡ word (word_for (name_of a)) ∷ (s a ++ r)) × Good a
      go ts a r e =
          let it = (inner name).sounds.whole ts a r e in
          ((λ i. word (word_for (sym it.1.0 i)) ∷ it.0 i), it.1.1)

  pub spelt-named : Spelt (then (means of) fields) (λ a. word (word_for (name_of a)) ∷ s a) Good
  spelt-named =
      record {
        sounds = from_then (spelt-means tells).sounds (λ name _. behind-name name);
        complete = λ a r g. goes_on (spelt-means tells) (name_of a) tt _ _ _ ((inner (name_of a)).complete a r (refl, g));
      }
