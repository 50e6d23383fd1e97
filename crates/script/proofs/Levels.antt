-- How many brackets stand open behind an opening one, from place to place.
use Rattle.std.proofs.Common.{◌≡◌, ℕ, ◌+◌, ◌-◌, ◌<◌, ◌≤◌, cond, eqb, List, [], ◌∷◌, length, get_or, take, drop, sym, ap, ◌∙◌, subst, ⊎_elim, zero-add, arith}
use Rattle.std.proofs.lemmas.List.{take-take, drop-take, drop-drop, drop_more}
use Rattle.std.proofs.lemmas.List.Sums.{sum_by-take-drop}
use Rattle.std.proofs.lemmas.Bool.{cases_lt, cases_eq, eq-eqb, ne_eqb, cond-true, cond-false}
use Rattle.script.specs.Brackets.{part, count, opened, closed, Inside, ClosesAt}

-- what is counted up to a place behind b is counted up to b, and from b on
count_join : (byte : ℕ) (line : List ℕ) (a b c : ℕ) → a ≤ b → b ≤ c → count byte (part line a c) ≡ count byte (part line a b) + count byte (part line b c)
count_join byte line a b c h k =
    let all : part line a c ≡ take ((b - a) + (c - b)) (drop a line) = ap (λ n. take n (drop a line)) (omega arith) in
    let front : take (b - a) (part line a c) ≡ part line a b = take-take (b - a) (c - a) (drop a line) (omega arith) in
    let onto : drop (b - a) (drop a line) ≡ drop b line = drop-drop (b - a) a line ∙ ap (λ n. drop n line) (omega arith) in
    let back : drop (b - a) (part line a c) ≡ part line b c = ap (drop (b - a)) all ∙ drop-take (b - a) (c - b) (drop a line) ∙ ap (take (c - b)) onto in
    sym (sum_by-take-drop (λ x. cond (eqb x byte) 1 0) (part line a c) (b - a)) ∙ (λ i. count byte (front i) + count byte (back i))

-- of a byte alone
count-one : (byte : ℕ) (line : List ℕ) (at : ℕ) → at < length line → count byte (part line at (at + 1)) ≡ cond (eqb (get_or line at 0) byte) 1 0
count-one byte line at h =
    let one : part line at (at + 1) ≡ take 1 (drop at line) = let e : (at + 1) - at ≡ 1 = omega arith in ap (λ n. take n (drop at line)) e in
    let it : part line at (at + 1) ≡ get_or line at 0 ∷ [] = one ∙ ap (take 1) (drop_more line at 0 h) in
    ap (count byte) it ∙ zero-add (cond (eqb (get_or line at 0) byte) 1 0)

pub count-is : (byte : ℕ) (line : List ℕ) (at : ℕ) → at < length line → get_or line at 0 ≡ byte → count byte (part line at (at + 1)) ≡ 1
count-is byte line at h e = count-one byte line at h ∙ cond-true (eqb (get_or line at 0) byte) 1 0 (eq-eqb _ _ e)

pub count_not : (byte : ℕ) (line : List ℕ) (at : ℕ) → at < length line → (get_or line at 0 ≡ byte → ⊥) → count byte (part line at (at + 1)) ≡ 0
count_not byte line at h e = count-one byte line at h ∙ cond-false (eqb (get_or line at 0) byte) 1 0 (ne_eqb _ _ e)

-- behind the bracket at `start` one form stands open at `at`, and none had closed it before
pub record Standing (line : List ℕ) (start at : ℕ) : Type 0 where
  pub opens : get_or line start 0 ≡ 40
  pub behind : start < at
  pub up_to : at ≤ length line
  pub inside : Inside line start at
  pub level : opened (part line start at) ≡ closed (part line start at) + 1

-- from `at` up to and with `to`, no more have closed than opened
abbrev pub Flat : List ℕ → ℕ → ℕ → Type 0
Flat line at to = (k : ℕ) → at < k → k ≤ to → closed (part line at k) ≤ opened (part line at k)

pub further : {line : List ℕ} {start at : ℕ} → Standing line start at → (to : ℕ) → Flat line at to → Inside line start to
further {line} {start} {at} s to flat k behind up_to =
    ⊎_elim
    (λ past. omega (arith, flat k past up_to, counts k past 40, counts k past 41, s.level))
    (λ here. s.inside k behind here)
    (cases_lt at k)
  where
    counts : (k : ℕ) → at < k → (byte : ℕ) → count byte (part line start k) ≡ count byte (part line start at) + count byte (part line at k)
    counts k past byte = count_join byte line start at k (omega (arith, s.behind)) (omega arith)

-- the loop stands behind a part that opens as many as it closes
pub onward : {line : List ℕ} {start at : ℕ} → Standing line start at → (to : ℕ) → at < to → to ≤ length line → Flat line at to → opened (part line at to) ≡ closed (part line at to) → Standing line start to
onward {line} {start} {at} s to past up_to flat even =
    let before : start ≤ at = omega (arith, s.behind) in
    record {
      opens = s.opens;
      behind = omega arith;
      up_to = up_to;
      inside = further s to flat;
      level = omega (arith, count_join 40 line start at to before (omega arith), count_join 41 line start at to before (omega arith), s.level, even);
    }

-- only the bracket itself
pub begins : (line : List ℕ) (start : ℕ) → start < length line → get_or line start 0 ≡ 40 → Standing line start (start + 1)
begins line start within opens =
    let one = count-is 40 line start within opens in
    let none = count_not 41 line start within (λ e. omega (arith, e, opens)) in
    record {
      opens = opens;
      behind = omega arith;
      up_to = omega arith;
      inside = λ k behind up_to. subst (λ n. closed (part line start n) < opened (part line start n)) (let e : start + 1 ≡ k = omega arith in e) (omega arith);
      level = omega arith;
    }

-- past a byte that is no bracket
pub passes : {line : List ℕ} {start at : ℕ} → Standing line start at → at < length line → (get_or line at 0 ≡ 40 → ⊥) → (get_or line at 0 ≡ 41 → ⊥) → Standing line start (at + 1)
passes {line} {start} {at} s within not_open not_close =
    let opens = count_not 40 line at within not_open in
    let closes = count_not 41 line at within not_close in
    onward s (at + 1) (omega arith) (omega arith) (λ k past up_to. subst (λ n. closed (part line at n) ≤ opened (part line at n)) (let e : at + 1 ≡ k = omega arith in e) (omega arith)) (omega arith)

-- past an inner form
pub skips : {line : List ℕ} {start at close : ℕ} → Standing line start at → ClosesAt line at close → Standing line start (close + 1)
skips {line} {start} {at} {close} s inner = onward s (close + 1) (omega (arith, inner.after)) (omega (arith, inner.within)) flat inner.even
  where
    flat : Flat line at (close + 1)
    flat k past up_to =
        ⊎_elim
        (λ last. subst (λ n. closed (part line at n) ≤ opened (part line at n)) (let e : close + 1 ≡ k = omega arith in e) (omega (arith, inner.even)))
        (λ before. omega (arith, inner.inside k past before))
        (cases_lt close k)

-- an inner form that never closes leaves the outer one open
pub never : {line : List ℕ} {start at : ℕ} → Standing line start at → Inside line at (length line) → Inside line start (length line)
never {line} s inner = further s (length line) (λ k past up_to. omega (arith, inner k past up_to))

-- at the closing bracket
pub ends : {line : List ℕ} {start at : ℕ} → Standing line start at → at < length line → get_or line at 0 ≡ 41 → ClosesAt line start at
ends {line} {start} {at} s within closes =
    let none = count_not 40 line at within (λ e. omega (arith, e, closes)) in
    let one = count-is 41 line at within closes in
    let before : start ≤ at = omega (arith, s.behind) in
    record {
      opens = s.opens;
      after = s.behind;
      within = within;
      inside = s.inside;
      even = omega (arith, count_join 40 line start at (at + 1) before (omega arith), count_join 41 line start at (at + 1) before (omega arith), s.level);
    }

-- where a form closes, a closing bracket stands
pub bracket_at_close : {line : List ℕ} {start close : ℕ} → ClosesAt line start close → get_or line close 0 ≡ 41
bracket_at_close {line} {start} {close} c =
    ⊎_elim
    (λ is. is)
    (λ other. absurd (omega (arith, count_not 41 line close c.within other, count_join 41 line start close (close + 1) before (omega arith), count_join 40 line start close (close + 1) before (omega arith), c.even, c.inside close c.after (omega arith))))
    (cases_eq (get_or line close 0) 41)
  where
    before : start ≤ close
    before = omega (arith, c.after)
