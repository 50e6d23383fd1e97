-- What is said of an answer fixes it: no other answer is right for the same line.
use Rattle.std.proofs.Common.{◌≡◌, ℕ, ◌+◌, ◌⊎◌, List, [], ◌∷◌, ◌++◌, length, Ok, Err, Result, sym, refl, ap, ◌∙◌, subst, inl, inr, ⊎_elim, append_assoc, arith}
use Rattle.script.specs.declared.fault.Fault.{Fault}
use Rattle.script.specs.declared.fault.Fault.TheVariants.{Malformed, OutOfTurn, LineTooLong, InputTooLong}
use Rattle.script.specs.declared.form.Form.{Form}
use Rattle.script.specs.declared.reader.Reader.{Reader}
use Rattle.script.specs.Cursor.{Follows, line_of as line_at}
use Rattle.script.specs.Items.{Item, items, spell}
use Rattle.script.specs.Reading.{got}
use Rattle.script.specs.Script.{line as a_line}
use Rattle.script.specs.Judged.{reading}
use Rattle.script.specs.Writing.{Writable, written}
use Rattle.script.specs.ReadAs.{line_of, Begun, FaultAt, ReadAs, ReadFrom}
use Rattle.script.proofs.Tidy.{items-spell}
use Rattle.script.proofs.TidyForms.{tidy-written}
use Rattle.script.proofs.ReadRight.{reads-written, read_as}
use Rattle.script.proofs.Whole.{named, whole-line}

-- the items of a form's line are those that are written for it
items-line : (line : List ℕ) (f : Form) → Writable f → line ≡ line_of f → items line ≡ written f
items-line line f g e = ap items e ∙ items-spell (written f) (tidy-written f g)

same_form : (f g : Form) → Writable f → Writable g → written f ≡ written g → f ≡ g
same_form f g wf wg e =
    let both : got f [] ≡ got g [] = sym (reads-written f wf) ∙ ap a_line e ∙ reads-written g wg in
    cc

-- a line with a fault is no form's
no_form : (line : List ℕ) (place : ℕ) (f : Form) → FaultAt line place → Writable f → line ≡ line_of f → ⊥
no_form line place f a g e =
    a.barred (record { form = f; writable = g; rest = a.behind; whole = sym (items-line line f g e) ∙ a.split ∙ sym (append_assoc a.before (a.item ∷ []) a.behind) })

-- of two beginnings of one list, one goes on with the other's next item, unless they are the same
abbrev Longer : List Item → Item → List Item → Type 0
Longer xs t ys = (ws : List Item) × (ys ≡ (xs ++ t ∷ []) ++ ws)

longer-cons : (x y : Item) (xs ys : List Item) (t : Item) → x ≡ y → Longer xs t ys → Longer (x ∷ xs) t (y ∷ ys)
longer-cons x y xs ys t e l = (l.0, λ i. sym e i ∷ l.1 i)

beginnings : (xs ys : List Item) (s t : Item) (us vs : List Item) → xs ++ s ∷ us ≡ ys ++ t ∷ vs → (xs ≡ ys) ⊎ (Longer xs s ys ⊎ Longer ys t xs)
beginnings [] [] s t us vs e = inl refl
beginnings [] (y ∷ ys) s t us vs e = let same : s ≡ y = cc in inr (inl (ys, ap (λ x. x ∷ ys) (sym same)))
beginnings (x ∷ xs) [] s t us vs e = let same : x ≡ t = cc in inr (inr (xs, ap (λ y. y ∷ xs) same))
beginnings (x ∷ xs) (y ∷ ys) s t us vs e =
    let same : x ≡ y = cc in
    let rest : xs ++ s ∷ us ≡ ys ++ t ∷ vs = cc in
    ⊎_elim
    (λ eq. inl (λ i. same i ∷ eq i))
    (λ l. inr (⊎_elim (λ m. inl (longer-cons x y xs ys s same m)) (λ m. inr (longer-cons y x ys xs t (sym same) m)) l))
    (beginnings xs ys s t us vs rest)

begun_less : (xs ys : List Item) (t : Item) → Longer xs t ys → Begun ys → Begun (xs ++ t ∷ [])
begun_less xs ys t l b =
    record { form = b.form; writable = b.writable; rest = l.0 ++ b.rest; whole = b.whole ∙ ap (λ us. us ++ b.rest) l.1 ∙ append_assoc (xs ++ t ∷ []) l.0 b.rest }

-- a line has one leftmost fault
same_place : (line : List ℕ) (p q : ℕ) → FaultAt line p → FaultAt line q → p ≡ q
same_place line p q a b =
    ⊎_elim
    (λ eq. a.counted ∙ ap (λ xs. length (spell xs) + 1) eq ∙ sym b.counted)
    (λ l. ⊎_elim (λ m. absurd (a.barred (begun_less _ _ _ m b.begun))) (λ m. absurd (b.barred (begun_less _ _ _ m a.begun))) l)
    (beginnings a.before b.before a.item b.item a.behind b.behind (sym a.split ∙ b.split))

pub one_answer : (line : List ℕ) (r s : Result Form Fault) → ReadAs line r → ReadAs line s → r ≡ s
one_answer line (Ok f) (Ok g) a b = ap Ok (same_form f g a.1 b.1 (sym (items-line line f a.1 a.2) ∙ items-line line g b.1 b.2))
one_answer line (Ok f) (Err (Malformed p)) a b = absurd (no_form line p f b.1 a.1 a.2)
one_answer line (Ok f) (Err OutOfTurn) a b = absurd b
one_answer line (Ok f) (Err LineTooLong) a b = absurd (omega (arith, a.0))
one_answer line (Ok f) (Err InputTooLong) a b = absurd b
one_answer line (Err (Malformed p)) (Ok g) a b = absurd (no_form line p g a.1 b.1 b.2)
one_answer line (Err (Malformed p)) (Err (Malformed q)) a b = ap (λ n. Err (Malformed n)) (same_place line p q a.1 b.1)
one_answer line (Err (Malformed p)) (Err OutOfTurn) a b = absurd b
one_answer line (Err (Malformed p)) (Err LineTooLong) a b = absurd (omega (arith, a.0))
one_answer line (Err (Malformed p)) (Err InputTooLong) a b = absurd b
one_answer line (Err OutOfTurn) s a b = absurd a
one_answer line (Err LineTooLong) (Ok g) a b = absurd (omega (arith, b.0))
one_answer line (Err LineTooLong) (Err (Malformed q)) a b = absurd (omega (arith, b.0))
one_answer line (Err LineTooLong) (Err OutOfTurn) a b = absurd b
one_answer line (Err LineTooLong) (Err LineTooLong) a b = refl
one_answer line (Err LineTooLong) (Err InputTooLong) a b = absurd b
one_answer line (Err InputTooLong) s a b = absurd a

-- the answer that the grammar gives is right, and the only one that is
pub read-from : (line : List ℕ) (r : Result Form Fault) → r ≡ reading line → ReadFrom line r
read-from line r e =
    let right = subst (ReadAs line) (sym e) (read_as line) in
    record { is = e; right = right; only = λ s other. one_answer line s r other right }

-- so is what a reader reads that stands at the start of its line
pub read_from_start : {a b : Reader} {r : Result Form Fault} → Follows named a b r → a.pos ≡ 0 → ReadFrom (line_at a) r
read_from_start {a} {b} {r} f start = read-from (line_at a) r (whole-line r f start a.short)
