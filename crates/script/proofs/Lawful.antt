-- What every reader keeps to: it takes what it reads from the front, looks at no item behind the one where it is stuck,
-- and is stuck only where some other item lets it go on.
use Rattle.std.proofs.Common.{◌≡◌, ℕ, Bool, true, false, cond, List, [], ◌∷◌, ◌++◌, Some, None, Option, sym, refl, ap, ◌∙◌, subst, ⊎_elim, append_assoc, arith}
use mathlib.Core.Path.{fun_ext}
use Rattle.std.proofs.lemmas.Bool.{cases_Bool}
use Rattle.script.specs.Items.{Item}
use Rattle.script.specs.Reading.{Out, got, stuck, Reads, gives, bind, then}

-- what was read is the front, whatever stands behind it
pub record Kept {A : Type 0} (p : Reads A) (ts : List Item) (a : A) (r : List Item) : Type 0 where
  pub front : List Item
  pub split : ts ≡ front ++ r
  pub again : (s : List Item) → p (front ++ s) ≡ got a s

-- something can follow these items
pub record Open {A : Type 0} (p : Reads A) (front : List Item) : Type 0 where
  pub value : A
  pub rest : List Item
  pub reads : (s : List Item) → p (front ++ (rest ++ s)) ≡ got value s

-- where a reader is stuck: something could follow the items before, and nothing lets the item there stand
pub record Halted {A : Type 0} (p : Reads A) (ts r : List Item) : Type 0 where
  pub front : List Item
  pub split : ts ≡ front ++ r
  pub goes_on : Open p front
  pub bars : (t : Item) (s u : List Item) → r ≡ t ∷ s → p (front ++ t ∷ u) ≡ stuck (t ∷ u)

pub record Lawful {A : Type 0} (p : Reads A) : Type 0 where
  pub some : Open p []
  pub keeps : (ts : List Item) (a : A) (r : List Item) → p ts ≡ got a r → Kept p ts a r
  pub halts : (ts r : List Item) → p ts ≡ stuck r → Halted p ts r

-- an outcome is not both
pub not_both : {A : Type 0} {X : Type 0} {o : Out A} {a : A} {r s : List Item} → o ≡ got a r → o ≡ stuck s → X
not_both {o = o} {a} {r} {s} e d = absurd (let z : ◌≡◌ {A = ℕ} 0 1 = cc in omega arith)

pub lawful-gives : {A : Type 0} (a : A) → Lawful (gives a)
lawful-gives a =
    record {
      some = record { value = a; rest = []; reads = λ s. refl };
      keeps = λ ts v r e. record { front = []; split = cc; again = λ s. let same : a ≡ v = cc in ap (λ x. got x s) same };
      halts = λ ts r e. not_both refl e;
    }

module _ {A B : Type 0} {p : Reads A} {k : A → Reads B} (first : Lawful p) (next : (a : A) → Lawful (k a)) where
  step : (ts : List Item) (a : A) (r : List Item) → p ts ≡ got a r → then p k ts ≡ k a r
  unfolding then
  step ts a r e = ap (λ o. bind o k) e

  -- the second reader goes on behind the first
  onto : (xs ys zs : List Item) (a : A) → ((s : List Item) → p (xs ++ s) ≡ got a s) → (o : Out B) → k a (ys ++ zs) ≡ o → then p k ((xs ++ ys) ++ zs) ≡ o
  onto xs ys zs a reads o e = ap (then p k) (append_assoc xs ys zs) ∙ step _ _ _ (reads (ys ++ zs)) ∙ e

  -- what the first reader can follow up, the second can
  open_both : (xs : List Item) → Open p xs → Open (then p k) xs
  unfolding then
  open_both xs o =
      let more = (next o.value).some in
      record {
        value = more.value;
        rest = o.rest ++ more.rest;
        reads = λ s. ap (λ us. then p k (xs ++ us)) (append_assoc o.rest more.rest s) ∙ step _ _ _ (o.reads (more.rest ++ s)) ∙ more.reads s;
      }

  keeps_both : (ts : List Item) (b : B) (r : List Item) → then p k ts ≡ got b r → Kept (then p k) ts b r
  unfolding then
  keeps_both ts b r e = go (p ts) refl
    where
      go : (o : Out A) → p ts ≡ o → Kept (then p k) ts b r
      go (got a m) is =
          let x = first.keeps ts a m is in
          let y = (next a).keeps m b r (sym (step ts a m is) ∙ e) in
          record {
            front = x.front ++ y.front;
            split = x.split ∙ ap (λ us. x.front ++ us) y.split ∙ sym (append_assoc x.front y.front r);
            again = λ s. onto x.front y.front s a x.again (got b s) (y.again s);
          }
      go (stuck m) is = not_both e (ap (λ o. bind o k) is)

  halts_both : (ts r : List Item) → then p k ts ≡ stuck r → Halted (then p k) ts r
  unfolding then
  halts_both ts r e = go (p ts) refl
    where
      go : (o : Out A) → p ts ≡ o → Halted (then p k) ts r
      go (got a m) is =
          let x = first.keeps ts a m is in
          let y = (next a).halts m r (sym (step ts a m is) ∙ e) in
          record {
            front = x.front ++ y.front;
            split = x.split ∙ ap (λ us. x.front ++ us) y.split ∙ sym (append_assoc x.front y.front r);
            goes_on = record { value = y.goes_on.value; rest = y.goes_on.rest; reads = λ s. onto x.front y.front (y.goes_on.rest ++ s) a x.again _ (y.goes_on.reads s) };
            bars = λ t s u at. onto x.front y.front (t ∷ u) a x.again _ (y.bars t s u at);
          }
      go (stuck m) is =
          let here : stuck m ≡ stuck r = sym (ap (λ o. bind o k) is) ∙ e in
          let same : m ≡ r = cc in
          let x = first.halts ts r (is ∙ ap stuck same) in
          record {
            front = x.front;
            split = x.split;
            goes_on = open_both x.front x.goes_on;
            bars = λ t s u at. ap (λ o. bind o k) (x.bars t s u at);
          }

  pub lawful-bind : Lawful (then p k)
  lawful-bind = record { some = open_both [] first.some; keeps = keeps_both; halts = halts_both }

-- takes an item that stands for a value, and is stuck at one that does not
abbrev pub taken : {A : Type 0} → Option A → Item → List Item → Out A
taken (Some a) t ts = got a ts
taken None t ts = stuck (t ∷ ts)

-- one item
abbrev pub one : {A : Type 0} → (Item → Option A) → Reads A
one of [] = stuck []
one of (t ∷ ts) = taken (of t) t ts

module _ {A : Type 0} (of : Item → Option A) (t₀ : Item) (a₀ : A) (known : of t₀ ≡ Some a₀) where
  open-one : Open (one of) []
  open-one = record { value = a₀; rest = t₀ ∷ []; reads = λ s. ap (λ o. taken o t₀ s) known }

  keeps-one : (ts : List Item) (a : A) (r : List Item) → one of ts ≡ got a r → Kept (one of) ts a r
  keeps-one [] a r e = not_both e refl
  keeps-one (t ∷ ts) a r e = go (of t) refl
    where
      go : (o : Option A) → of t ≡ o → Kept (one of) (t ∷ ts) a r
      go (Some b) is =
          let here : got b ts ≡ got a r = sym (ap (λ o. taken o t ts) is) ∙ e in
          let same : b ≡ a = cc in
          let behind : ts ≡ r = cc in
          record { front = t ∷ []; split = ap (λ us. t ∷ us) behind; again = λ s. ap (λ o. taken o t s) is ∙ ap (λ x. got x s) same }
      go None is = not_both e (ap (λ o. taken o t ts) is)

  halts-one : (ts r : List Item) → one of ts ≡ stuck r → Halted (one of) ts r
  halts-one [] r e =
      record { front = []; split = cc; goes_on = open-one; bars = λ t s u at. let none : ◌≡◌ {A = Out A} (stuck []) (stuck (t ∷ s)) = e ∙ ap stuck at in absurd (let z : ◌≡◌ {A = ℕ} 0 1 = cc in omega arith) }
  halts-one (t ∷ ts) r e = go (of t) refl
    where
      go : (o : Option A) → of t ≡ o → Halted (one of) (t ∷ ts) r
      go (Some b) is = not_both (ap (λ o. taken o t ts) is) e
      go None is =
          let here : ◌≡◌ {A = Out A} (stuck (t ∷ ts)) (stuck r) = sym (ap (λ o. taken o t ts) is) ∙ e in
          record {
            front = [];
            split = cc;
            goes_on = open-one;
            bars = λ v s u at. let same : v ≡ t = cc in subst (λ x. one of (x ∷ u) ≡ stuck (x ∷ u)) (sym same) (ap (λ o. taken o t u) is);
          }

  pub lawful-one : Lawful (one of)
  lawful-one = record { some = open-one; keeps = keeps-one; halts = halts-one }

-- whether the item ahead passes a test
abbrev pub ahead : (Item → Bool) → List Item → Bool
ahead test [] = false
ahead test (t ∷ ts) = test t

ahead_same : (test : Item → Bool) (xs : List Item) (t : Item) (s u : List Item) → ahead test (xs ++ t ∷ s) ≡ ahead test (xs ++ t ∷ u)
ahead_same test [] t s u = refl
ahead_same test (x ∷ xs) t s u = refl

-- one of two readers, by the item ahead
abbrev pub choose : {A : Type 0} → (Item → Bool) → Reads A → Reads A → Reads A
choose test p q [] = q []
choose test p q (t ∷ ts) = cond (test t) (p (t ∷ ts)) (q (t ∷ ts))

module _ {A : Type 0} (test : Item → Bool) (p q : Reads A) where
  pub chosen-first : (ts : List Item) → ahead test ts ≡ true → choose test p q ts ≡ p ts
  chosen-first [] e = absurd (let z : ◌≡◌ {A = ℕ} 0 1 = cc in omega arith)
  chosen-first (t ∷ ts) e = ap (λ b. cond b (p (t ∷ ts)) (q (t ∷ ts))) e

  pub chosen_second : (ts : List Item) → ahead test ts ≡ false → choose test p q ts ≡ q ts
  chosen_second [] e = refl
  chosen_second (t ∷ ts) e = ap (λ b. cond b (p (t ∷ ts)) (q (t ∷ ts))) e

-- a reader whose values all begin with items that a test answers alike
pub record Begins {A : Type 0} (test : Item → Bool) (answer : Bool) (p : Reads A) : Type 0 where
  pub lawful : Lawful p
  pub begins : (ts : List Item) (a : A) (r : List Item) → p ts ≡ got a r → ahead test ts ≡ answer

-- a reader that is like another where a test answers so
module _ {A : Type 0} {test : Item → Bool} {answer : Bool} {p q : Reads A} (b : Begins test answer p) (like : (ts : List Item) → ahead test ts ≡ answer → q ts ≡ p ts) where
  alike : (ts : List Item) (a : A) (r : List Item) → p ts ≡ got a r → q ts ≡ got a r
  alike ts a r e = like ts (b.begins ts a r e) ∙ e

  open-alike : (xs : List Item) → Open p xs → Open q xs
  open-alike xs o = record { value = o.value; rest = o.rest; reads = λ s. alike _ _ _ (o.reads s) }

  keeps-alike : (ts : List Item) → ahead test ts ≡ answer → (a : A) (r : List Item) → q ts ≡ got a r → Kept q ts a r
  keeps-alike ts h a r e =
      let x = b.lawful.keeps ts a r (sym (like ts h) ∙ e) in
      record { front = x.front; split = x.split; again = λ s. alike _ _ _ (x.again s) }

  halts-alike : (ts : List Item) → ahead test ts ≡ answer → (r : List Item) → q ts ≡ stuck r → Halted q ts r
  halts-alike ts h r e =
      let x = b.lawful.halts ts r (sym (like ts h) ∙ e) in
      record {
        front = x.front;
        split = x.split;
        goes_on = open-alike x.front x.goes_on;
        bars = λ t s u at. like _ (ahead_same test x.front t u s ∙ sym (ap (ahead test) (x.split ∙ ap (λ us. x.front ++ us) at)) ∙ h) ∙ x.bars t s u at;
      }

pub lawful-choose : {A : Type 0} {test : Item → Bool} {p q : Reads A} → Begins test true p → Begins test false q → Lawful (choose test p q)
lawful-choose {A} {test} {p} {q} yes-p no-q =
    let first = chosen-first test p q in
    let second = chosen_second test p q in
    record {
      some = open-alike yes-p first [] yes-p.lawful.some;
      keeps = λ ts a r e. ⊎_elim (λ h. keeps-alike yes-p first ts h a r e) (λ h. keeps-alike no-q second ts h a r e) (cases_Bool (ahead test ts));
      halts = λ ts r e. ⊎_elim (λ h. halts-alike yes-p first ts h r e) (λ h. halts-alike no-q second ts h r e) (cases_Bool (ahead test ts));
    }

-- readers that read alike
pub lawful_like : {A : Type 0} {p q : Reads A} → ((ts : List Item) → p ts ≡ q ts) → Lawful q → Lawful p
lawful_like same l = subst Lawful (sym (fun_ext same)) l

pub bind_assoc : {A B C : Type 0} (p : Reads A) (k : A → Reads B) (m : B → Reads C) (ts : List Item) → then (then p k) m ts ≡ then p (λ a. then (k a) m) ts
unfolding then
bind_assoc {A} p k m ts = go (p ts)
  where
    go : (o : Out A) → bind (bind o k) m ≡ bind o (λ a. then (k a) m)
    go (got a r) = refl
    go (stuck r) = refl

pub choose-bind : {A B : Type 0} (test : Item → Bool) (p q : Reads A) (k : A → Reads B) (ts : List Item) → then (choose test p q) k ts ≡ choose test (then p k) (then q k) ts
unfolding then
choose-bind test p q k [] = refl
choose-bind test p q k (t ∷ ts) = go (test t)
  where
    go : (b : Bool) → bind (cond b (p (t ∷ ts)) (q (t ∷ ts))) k ≡ cond b (then p k (t ∷ ts)) (then q k (t ∷ ts))
    go true = refl
    go false = refl
