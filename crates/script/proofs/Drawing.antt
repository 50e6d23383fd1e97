-- Draws that are read one by one are the draws that are read together.
use Rattle.std.proofs.Common.{◌≡◌, ℕ, zero, suc, ◌+◌, ◌-◌, ◌<◌, ◌≤◌, List, [], ◌∷◌, ◌++◌, length, set, IsErrAnd, Ok, Err, Result, sym, refl, ap, ◌∙◌, append_assoc, append-nil, arith, length-append}
use Rattle.parts.specs.declared.few_numbers.FewNumbers.{FewNumbers}
use Rattle.script.specs.declared.fault.Fault.{Fault}
use Rattle.script.specs.declared.reader.Reader.{Reader}
use Rattle.script.specs.Cursor.{line_of, rest, Follows}
use Rattle.script.specs.Items.{Item, opening, closing, space, word, end}
use Rattle.script.specs.Reading.{Out, got, stuck, bind, gives, parts, then}
use Rattle.script.specs.Script.{drawing, drawn, number, numbers, padded}
use Rattle.script.proofs.Lawful.{not_both}

-- the numbers that are read already stand before those that follow
abbrev onto : List ℕ → Out (List ℕ) → Out (List ℕ)
onto ns o = bind o (λ ms. gives (ns ++ ms))

-- the draws hold the numbers read since `start`, so many, and reading goes on from `here`
pub record Drawing (start here : Reader) (d : FewNumbers) (n : ℕ) : Type 0 where
  pub read : List ℕ
  pub long : length read ≡ n
  pub count : d.count ≡ n
  pub held : d.numbers ≡ padded 16 read
  pub keeps : line_of here ≡ line_of start
  pub reads : numbers 16 (rest start) ≡ onto read (numbers (16 - n) (rest here))

pub same_draws : (d e : FewNumbers) → d.numbers ≡ e.numbers → d.count ≡ e.count → d ≡ e
same_draws d e p q = λ i. record { numbers = p i; count = q i }

onto-none : (o : Out (List ℕ)) → o ≡ onto [] o
onto-none (got ns ts) = refl
onto-none (stuck ts) = refl

pub begins : (start : Reader) → Drawing start start (drawn []) 0
begins start = record { read = []; long = refl; count = refl; held = refl; keeps = refl; reads = onto-none (numbers 16 (rest start)) }

-- nothing more to read
pub finish : {start here : Reader} {d : FewNumbers} {n : ℕ} → Drawing start here d n → n ≤ 16 → numbers (16 - n) (rest here) ≡ got [] (rest here) → Follows drawing start here (Ok d)
unfolding drawing then
finish {start} {here} {d} s room none =
    let all : d ≡ drawn (s.read ++ []) = same_draws d (drawn (s.read ++ [])) (s.held ∙ ap (padded 16) (sym (append-nil s.read))) (omega (arith, ap length (append-nil s.read), s.long, s.count)) in
    record {
      keeps = s.keeps;
      reads = ap (λ o. bind o (λ ns. gives (drawn ns))) (s.reads ∙ ap (onto s.read) none) ∙ ap (λ x. got x (rest here)) (sym all);
      place = tt;
    }

-- where no place is left, no number is read
pub no_places : (n : ℕ) (ts : List Item) → n ≡ 0 → numbers n ts ≡ got [] ts
unfolding numbers
no_places n ts e = ap (λ k. numbers k ts) e

-- where no space stands, there is no number to come
pub no_more : (n : ℕ) (ts us : List Item) → parts ts ≡ stuck us → numbers n ts ≡ got [] ts
unfolding numbers
no_more zero ts us e = refl
no_more (suc n) [] us e = refl
no_more (suc n) (opening ∷ ts) us e = refl
no_more (suc n) (closing ∷ ts) us e = refl
no_more (suc n) (space ∷ ts) us e = not_both refl e
no_more (suc n) (word bs ∷ ts) us e = refl
no_more (suc n) (end ∷ ts) us e = refl

-- a space promises a number
one_more : (n : ℕ) (ts us : List Item) → parts ts ≡ got tt us → numbers (suc n) ts ≡ then number (λ x. then (numbers n) (λ xs. gives (x ∷ xs))) ts
unfolding numbers
one_more n [] us e = not_both e refl
one_more n (opening ∷ ts) us e = not_both e refl
one_more n (closing ∷ ts) us e = not_both e refl
one_more n (space ∷ ts) us e = refl
one_more n (word bs ∷ ts) us e = not_both e refl
one_more n (end ∷ ts) us e = not_both e refl

-- a fault in a number is one in the draws
pub faults : {start here there : Reader} {d : FewNumbers} {n : ℕ} {e : Fault} {r : Result FewNumbers Fault} → Drawing start here d n → n < 16 → (us : List Item) → parts (rest here) ≡ got tt us → IsErrAnd r (λ y. y ≡ e) → Follows number here there (Err e) → Follows drawing start there r
unfolding drawing then
faults {r = Ok v} s room us at h f = absurd h
faults {start} {here} {there} {d} {n} {r = Err y} s room us at h f =
    let left : 16 - n ≡ suc (16 - suc n) = omega arith in
    let next : numbers (16 - n) (rest here) ≡ stuck (rest there) =
    ap (λ k. numbers k (rest here)) left ∙ one_more (16 - suc n) (rest here) us at ∙ ap (λ o. bind o (λ x. then (numbers (16 - suc n)) (λ xs. gives (x ∷ xs)))) f.reads in
    record {
      keeps = f.keeps ∙ s.keeps;
      reads = ap (λ o. bind o (λ ns. gives (drawn ns))) (s.reads ∙ ap (onto s.read) next);
      place = h ∙ f.place;
    }

set-padded : (k : ℕ) (ns : List ℕ) (n : ℕ) → length ns < k → set (padded k ns) (length ns) n ≡ padded k (ns ++ n ∷ [])
set-padded zero ns n h = absurd (omega arith)
set-padded (suc k) [] n h = refl
set-padded (suc k) (m ∷ ns) n h = ap (λ xs. m ∷ xs) (set-padded k ns n (omega arith))

onto-more : (ns : List ℕ) (n : ℕ) (o : Out (List ℕ)) → onto ns (bind o (λ ms. gives (n ∷ ms))) ≡ onto (ns ++ n ∷ []) o
onto-more ns n (got ms ts) = ap (λ xs. got xs ts) (sym (append_assoc ns (n ∷ []) ms))
onto-more ns n (stuck ts) = refl

-- the same draws, with their count said in another way
pub recount : {start here : Reader} {ns : List ℕ} {k n : ℕ} → k ≡ n → Drawing start here (record { numbers = ns; count = n }) n → Drawing start here (record { numbers = ns; count = k }) n
recount e s = record { read = s.read; long = s.long; count = e; held = s.held; keeps = s.keeps; reads = s.reads }

-- one more number
pub more : {start here there : Reader} {d : FewNumbers} {n x : ℕ} → Drawing start here d n → n < 16 → (us : List Item) → parts (rest here) ≡ got tt us → Follows number here there (Ok x) → Drawing start there (record { numbers = set d.numbers n x; count = n + 1 }) (n + 1)
unfolding then
more {start} {here} {there} {d} {n} {x} s room us at f =
    let left : 16 - n ≡ suc (16 - suc n) = omega arith in
    let after : 16 - suc n ≡ 16 - (n + 1) = omega arith in
    let next : numbers (16 - n) (rest here) ≡ bind (numbers (16 - suc n) (rest there)) (λ ms. gives (x ∷ ms)) =
    ap (λ k. numbers k (rest here)) left ∙ one_more (16 - suc n) (rest here) us at ∙ ap (λ o. bind o (λ y. then (numbers (16 - suc n)) (λ ys. gives (y ∷ ys)))) f.reads in
    let long = s.long in
    record {
      read = s.read ++ x ∷ [];
      long = omega (arith, length-append s.read (x ∷ []));
      count = refl;
      held = (λ i. set (s.held i) (sym s.long i) x) ∙ set-padded 16 s.read x (omega arith);
      keeps = f.keeps ∙ s.keeps;
      reads = s.reads ∙ ap (onto s.read) next ∙ onto-more s.read x (numbers (16 - suc n) (rest there)) ∙ ap (λ k. onto (s.read ++ x ∷ []) (numbers k (rest there))) after;
    }
