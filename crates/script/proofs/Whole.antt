-- A line that is read to its end, or to its first fault.
use Rattle.std.proofs.Common.{◌≡◌, ℕ, ◌+◌, ◌-◌, ◌≤◌, Bool, true, false, cond, eqb, ltb, List, [], ◌∷◌, length, drop, Ok, Err, Result, sym, refl, ap, ◌∙◌, arith, length-drop}
use Rattle.std.proofs.lemmas.Bool.{cond-false, eqb-true, le-ltb}
use Rattle.script.specs.declared.fault.Fault.{Fault}
use Rattle.script.specs.declared.fault.Fault.TheVariants.{Malformed, LineTooLong}
use Rattle.script.specs.declared.form.Form.{Form}
use Rattle.script.specs.declared.reader.Reader.{Reader}
use Rattle.script.specs.Cursor.{line_of, rest, Follows}
use Rattle.script.specs.Items.{Item, opening, closing, space, word, end, items, joined, spell}
use Rattle.script.specs.Judged.{judged, reading}
use Rattle.script.specs.Reading.{Out, Reads, got, stuck, at_end, bind, closes, enclosed, ends, gives, means, opens, then}
use Rattle.script.specs.Script.{form, form_fields, last, line}
use Rattle.script.specs.Words.{form_of}
use Rattle.script.proofs.Lawful.{bind_assoc}

spell-joined : (b : ℕ) (ts : List Item) → spell (joined b ts) ≡ b ∷ spell ts
spell-joined b [] = refl
spell-joined b (opening ∷ ts) = refl
spell-joined b (closing ∷ ts) = refl
spell-joined b (space ∷ ts) = refl
spell-joined b (word bs ∷ ts) = refl
spell-joined b (end ∷ ts) = refl

-- of the four, the sign that the byte is
spell-first : (b : ℕ) (ts : List Item) (x y z : Bool) → (x ≡ true → b ≡ 40) → (y ≡ true → b ≡ 41) → (z ≡ true → b ≡ 32) → spell (cond x (opening ∷ ts) (cond y (closing ∷ ts) (cond z (space ∷ ts) (joined b ts)))) ≡ b ∷ spell ts
spell-first b ts true y z p q r = ap (λ c. c ∷ spell ts) (sym (p refl))
spell-first b ts false true z p q r = ap (λ c. c ∷ spell ts) (sym (q refl))
spell-first b ts false false true p q r = ap (λ c. c ∷ spell ts) (sym (r refl))
spell-first b ts false false false p q r = spell-joined b ts

-- the items of a line spell the line
pub spell-items : (l : List ℕ) → spell (items l) ≡ l
spell-items [] = refl
spell-items (b ∷ bs) =
    spell-first b (items bs) (eqb b 40) (eqb b 41) (eqb b 32) (eqb-true b 40) (eqb-true b 41) (eqb-true b 32) ∙ ap (λ l. b ∷ l) (spell-items bs)

-- the place where a reader stands, by what is left to read
place : (r : Reader) → r.pos + 1 ≡ 1 + length (line_of r) - length (spell (rest r))
place r =
    let w : r.pos ≤ length (line_of r) = r.within in
    omega (arith, ap length (spell-items (drop r.pos (line_of r))), length-drop r.pos (line_of r))

-- a line that is not too long is judged by how it reads
short : (bytes : List ℕ) (o : Out Form) → length bytes ≤ 200 → judged bytes (line (items bytes)) ≡ judged bytes o → judged bytes o ≡ reading bytes
short bytes o h e = sym (cond-false (ltb 200 (length bytes)) (Err LineTooLong) (judged bytes (line (items bytes))) (le-ltb 200 (length bytes) h) ∙ e)

-- a reader at the first item that does not fit has the fault of the line
fault_there : (bytes : List ℕ) (r : Reader) → line_of r ≡ bytes → length bytes ≤ 200 → judged bytes (line (items bytes)) ≡ judged bytes (stuck (rest r)) → (e : Fault) → e ≡ Malformed (r.pos + 1) → Err e ≡ reading bytes
fault_there bytes r same h stands e is =
    ap Err (is ∙ ap Malformed (place r ∙ ap (λ l. 1 + length l - length (spell (rest r))) same)) ∙ short bytes (stuck (rest r)) h stands

-- what follows one way to read may be put in place of what follows another that reads the same
alike : {A B : Type 0} {q r : A → Reads B} → ((v : A) (ts : List Item) → q v ts ≡ r v ts) → (o : Out A) → bind o q ≡ bind o r
alike h (got v ts) = h v ts
alike h (stuck ts) = refl

-- where the end is passed, and where it is not, the same is said of a line
end-passed : (bytes : List ℕ) (f : Form) (ts : List Item) → judged bytes (then ends (λ _. gives f) ts) ≡ judged bytes (then at_end (λ _. gives f) ts)
unfolding then
end-passed bytes f [] = refl
end-passed bytes f (opening ∷ ts) = refl
end-passed bytes f (closing ∷ ts) = refl
end-passed bytes f (space ∷ ts) = refl
end-passed bytes f (word bs ∷ ts) = refl
end-passed bytes f (end ∷ ts) = refl

-- a form, and the end
abbrev form_there : Reads Form
form_there = then form (λ f. then at_end (λ _. gives f))

line_there : (bytes : List ℕ) (ts : List Item) → judged bytes (line ts) ≡ judged bytes (form_there ts)
unfolding line then
line_there bytes ts = go (form ts)
  where
    go : (o : Out Form) → judged bytes (bind o (λ f. then ends (λ _. gives f))) ≡ judged bytes (bind o (λ f. then at_end (λ _. gives f)))
    go (got f us) = end-passed bytes f us
    go (stuck us) = refl

-- the bracket behind a form, and then the end
shut-last : (f : Form) (ts : List Item) → then (then closes (λ _. gives f)) (λ x. then at_end (λ _. gives x)) ts ≡ then last (λ _. gives f) ts
unfolding then
shut-last f ts = bind_assoc closes (λ _. gives f) (λ x. then at_end (λ _. gives x)) ts ∙ sym (bind_assoc closes (λ _. at_end) (λ _. gives f) ts)

-- the name of a line's form, and the form up to the end
abbrev pub named : Reads Form
named = then opens (λ _. then (means form_of) (λ name. then (form_fields name) (λ f. then last (λ _. gives f))))

there_named : (ts : List Item) → form_there ts ≡ named ts
unfolding form enclosed then
there_named ts =
    let m : Form → Reads Form = λ x. then at_end (λ _. gives x) in
    let close : Form → Reads Form = λ f. then closes (λ _. gives f) in
    bind_assoc opens (λ _. then (then (means form_of) form_fields) close) m ts
    ∙ alike (λ _ us. bind_assoc (then (means form_of) form_fields) close m us
    ∙ bind_assoc (means form_of) form_fields (λ f. then (close f) m) us
    ∙ alike (λ name vs. alike shut-last (form_fields name vs)) (means form_of us)) (opens ts)

-- the answer to a line is what a reader at its start reads
pub whole-line : {a b : Reader} (r : Result Form Fault) → Follows named a b r → a.pos ≡ 0 → length (line_of a) ≤ 200 → r ≡ reading (line_of a)
whole-line {a} {b} r f start h = by r f
  where
    at : (o : Out Form) → named (rest a) ≡ o → judged (line_of a) (line (items (line_of a))) ≡ judged (line_of a) o
    at o e = ap (λ n. judged (line_of a) (line (items (drop n (line_of a))))) (sym start) ∙ line_there (line_of a) (rest a) ∙ ap (judged (line_of a)) (there_named (rest a) ∙ e)

    by : (r : Result Form Fault) → Follows named a b r → r ≡ reading (line_of a)
    by (Ok v) f = short (line_of a) (got v (rest b)) h (at _ f.reads)
    by (Err e) f = fault_there (line_of a) b f.keeps h (at _ f.reads) e f.place
