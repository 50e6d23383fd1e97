-- Reading that stays inside brackets does not depend on what stands behind the closing one.
use Rattle.std.proofs.Common.{◌≡◌, ℕ, ◌⊎◌, List, [], ◌∷◌, ◌++◌, Some, None, Option, refl, ap, ◌∙◌, inl, inr, ⊎_elim}
use Rattle.script.specs.Items.{Item, opening, closing, space, word, end}
use Rattle.script.specs.Reading.{Out, got, stuck, Reads, after_space, bind, closes, enclosed, field, gives, known, means, opens, parts, then}

-- more items behind those that are left
abbrev pub extend : {A : Type 0} → Out A → List Item → Out A
extend (got v zs) ts = got v (zs ++ ts)
extend (stuck zs) ts = stuck (zs ++ ts)

-- no bracket closes among some items
abbrev pub NoClosing : List Item → Type 0
NoClosing [] = Unit {0}
NoClosing (opening ∷ ts) = NoClosing ts
NoClosing (closing ∷ ts) = ⊥
NoClosing (space ∷ ts) = NoClosing ts
NoClosing (word bs ∷ ts) = NoClosing ts
NoClosing (end ∷ ts) = NoClosing ts

-- what was read has no closing bracket
abbrev Passed : {A : Type 0} → List Item → Out A → Type 0
Passed ys (got v zs) = NoClosing zs → NoClosing ys
Passed ys (stuck zs) = Unit {0}

-- what stands behind the items does not count, unless no bracket closes among them
abbrev pub Inward : {A : Type 0} → Reads A → Type 0
Inward p = (ys ts : List Item) → ((p (ys ++ ts) ≡ extend (p ys) ts) × Passed ys (p ys)) ⊎ NoClosing ys

-- reading that ends with a closing bracket: what stands behind the items does not count if one closes among them
abbrev pub Shut : {A : Type 0} → Reads A → Type 0
Shut p = (ys ts : List Item) → (NoClosing ys → ⊥) → p (ys ++ ts) ≡ extend (p ys) ts

pub gives-inward : {A : Type 0} (v : A) → Inward (gives v)
gives-inward v ys ts = inl (refl, λ h. h)

pub opens-inward : Inward opens
opens-inward [] ts = inr tt
opens-inward (opening ∷ ys) ts = inl (refl, λ h. h)
opens-inward (closing ∷ ys) ts = inl (refl, tt)
opens-inward (space ∷ ys) ts = inl (refl, tt)
opens-inward (word bs ∷ ys) ts = inl (refl, tt)
opens-inward (end ∷ ys) ts = inl (refl, tt)

pub parts-inward : Inward parts
parts-inward [] ts = inr tt
parts-inward (opening ∷ ys) ts = inl (refl, tt)
parts-inward (closing ∷ ys) ts = inl (refl, tt)
parts-inward (space ∷ ys) ts = inl (refl, λ h. h)
parts-inward (word bs ∷ ys) ts = inl (refl, tt)
parts-inward (end ∷ ys) ts = inl (refl, tt)

known-inward : {A : Type 0} (o : Option A) (bs : List ℕ) (ys ts : List Item) → (known o bs (ys ++ ts) ≡ extend (known o bs ys) ts) × Passed (word bs ∷ ys) (known o bs ys)
known-inward (Some v) bs ys ts = (refl, λ h. h)
known-inward None bs ys ts = (refl, tt)

pub means-inward : {A : Type 0} (of : List ℕ → Option A) → Inward (means of)
means-inward of [] ts = inr tt
means-inward of (opening ∷ ys) ts = inl (refl, tt)
means-inward of (closing ∷ ys) ts = inl (refl, tt)
means-inward of (space ∷ ys) ts = inl (refl, tt)
means-inward of (word bs ∷ ys) ts = inl (known-inward (of bs) bs ys ts)
means-inward of (end ∷ ys) ts = inl (refl, tt)

passed_on : {B : Type 0} (ys zs : List Item) (o : Out B) → (NoClosing zs → NoClosing ys) → Passed zs o → Passed ys o
passed_on ys zs (got w us) passed g = λ none. passed (g none)
passed_on ys zs (stuck us) passed g = tt

-- how a second reading goes on after what the first one gave
second_inward : {A B : Type 0} (q : A → Reads B) → ((v : A) → Inward (q v)) → (ys ts : List Item) (o : Out A) → Passed ys o → ((bind (extend o ts) q ≡ extend (bind o q) ts) × Passed ys (bind o q)) ⊎ NoClosing ys
second_inward q h ys ts (got v zs) passed =
    ⊎_elim (λ r. inl (r.0, passed_on ys zs (q v zs) passed r.1)) (λ none. inr (passed none)) (h v zs ts)
second_inward q h ys ts (stuck zs) passed = inl (refl, tt)

pub then-inward : {A B : Type 0} (p : Reads A) (q : A → Reads B) → Inward p → ((v : A) → Inward (q v)) → Inward (then p q)
unfolding then
then-inward p q f h ys ts =
    ⊎_elim
    (λ r. ⊎_elim (λ s. inl (ap (λ o. bind o q) r.0 ∙ s.0, s.1)) inr (second_inward q h ys ts (p ys) r.1))
    inr
    (f ys ts)

pub field-inward : {A : Type 0} (of : List ℕ → Option A) → Inward (field of)
unfolding field
field-inward of = then-inward parts (λ _. means of) parts-inward (λ _. means-inward of)

pub after-space-inward : {A : Type 0} (v : A) (p : Reads A) → Inward p → Inward (after_space v p)
after-space-inward v p h [] ts = inr tt
after-space-inward v p h (opening ∷ ys) ts = inl (refl, λ g. g)
after-space-inward v p h (closing ∷ ys) ts = inl (refl, λ g. g)
after-space-inward v p h (space ∷ ys) ts = h (space ∷ ys) ts
after-space-inward v p h (word bs ∷ ys) ts = inl (refl, λ g. g)
after-space-inward v p h (end ∷ ys) ts = inl (refl, λ g. g)

-- the closing bracket, and the value that was read before it
pub close-shut : {A : Type 0} (v : A) → Shut (then closes (λ _. gives v))
unfolding then
close-shut v [] ts h = absurd (h tt)
close-shut v (opening ∷ ys) ts h = refl
close-shut v (closing ∷ ys) ts h = refl
close-shut v (space ∷ ys) ts h = refl
close-shut v (word bs ∷ ys) ts h = refl
close-shut v (end ∷ ys) ts h = refl

second_shut : {A B : Type 0} (q : A → Reads B) → ((v : A) → Shut (q v)) → (ys ts : List Item) (o : Out A) → Passed ys o → (NoClosing ys → ⊥) → bind (extend o ts) q ≡ extend (bind o q) ts
second_shut q h ys ts (got v zs) passed some = h v zs ts (λ none. some (passed none))
second_shut q h ys ts (stuck zs) passed some = refl

pub then-shut : {A B : Type 0} (p : Reads A) (q : A → Reads B) → Inward p → ((v : A) → Shut (q v)) → Shut (then p q)
unfolding then
then-shut p q f h ys ts some =
    ⊎_elim (λ r. ap (λ o. bind o q) r.0 ∙ second_shut q h ys ts (p ys) r.1 some) (λ none. absurd (some none)) (f ys ts)

-- a form in its brackets, where reading stays inside them
pub enclosed-shut : {A : Type 0} (p : Reads A) → Inward p → Shut (enclosed p)
unfolding enclosed
enclosed-shut p inward = then-shut opens (λ _. then p (λ v. then closes (λ _. gives v))) opens-inward (λ _. then-shut p (λ v. then closes (λ _. gives v)) inward close-shut)
