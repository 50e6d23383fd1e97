-- What is read of a line is right, and nothing else is.
use Rattle.std.proofs.Common.{◌≡◌, ℕ, ◌+◌, ◌-◌, ◌≤◌, Bool, true, false, cond, ltb, List, [], ◌∷◌, ◌++◌, length, Err, sym, refl, ap, ◌∙◌, subst, append_assoc, append-nil, arith, length-append}
use Rattle.std.proofs.lemmas.Bool.{ltb-true, ltb-false}
use Rattle.script.specs.declared.fault.Fault.TheVariants.{LineTooLong}
use Rattle.script.specs.declared.form.Form.{Form}
use Rattle.script.specs.Items.{Item, end, items, spell}
use Rattle.script.specs.Reading.{Out, got, stuck}
use Rattle.script.specs.Script.{line as a_line}
use Rattle.script.specs.Judged.{judged, reading}
use Rattle.script.specs.Writing.{form_word, form_name, form_items, bracketed, Writable, written}
use Rattle.script.specs.ReadAs.{Begun, FaultAt, ReadAs}
use Rattle.script.proofs.Lawful.{Halted, not_both}
use Rattle.script.proofs.Leftmost.{lawful-line}
use Rattle.script.proofs.LineSpelt.{spelt-line}
use Rattle.script.proofs.Tidy.{Tidy, spell-append, tidy-items, tidy-end, ended-items}
use Rattle.script.proofs.TidyForms.{tidy-written}
use Rattle.script.proofs.Whole.{spell-items}

-- a form's line is read as that form
pub reads-written : (f : Form) → Writable f → a_line (written f) ≡ got f []
reads-written f g = ap a_line (sym (append-nil (written f))) ∙ spelt-line.complete f [] g

-- a line that is read is that of its form
read_whole : (line : List ℕ) (f : Form) (ts : List Item) → a_line (items line) ≡ got f ts → Writable f × (items line ≡ written f)
read_whole line f ts e =
    let it = spelt-line.sounds.whole (items line) f ts e in
    let shape : items line ≡ bracketed (form_word (form_name f)) (form_items f) ++ end ∷ ts = it.0 ∙ append_assoc (bracketed (form_word (form_name f)) (form_items f)) (end ∷ []) ts in
    let none : ts ≡ [] = tidy-end (bracketed (form_word (form_name f)) (form_items f)) ts (subst Tidy shape (tidy-items line)) in
    (it.1, it.0 ∙ ap (λ us. written f ++ us) none ∙ append-nil (written f))

-- where reading is stuck, something could follow the items before
begun-before : (line : List ℕ) (r : List Item) (h : Halted a_line (items line) r) → Begun h.front
begun-before line r h =
    let o = h.goes_on in
    let it = spelt-line.sounds.whole _ o.value [] (o.reads []) in
    record {
      form = o.value;
      writable = it.1;
      rest = o.rest;
      whole = sym (append-nil (written o.value)) ∙ sym it.0 ∙ ap (λ us. h.front ++ us) (append-nil o.rest);
    }

-- and an item stands there
not_past : (line : List ℕ) → a_line (items line) ≡ stuck [] → ⊥
not_past line e =
    let h = lawful-line.halts (items line) [] e in
    let b = begun-before line [] h in
    let last = ended-items line in
    let front : h.front ≡ last.0 ++ end ∷ [] = sym (append-nil h.front) ∙ sym h.split ∙ last.1 in
    let shape : written b.form ≡ last.0 ++ end ∷ b.rest = b.whole ∙ ap (λ us. us ++ b.rest) front ∙ append_assoc last.0 (end ∷ []) b.rest in
    let none : b.rest ≡ [] = tidy-end last.0 b.rest (subst Tidy shape (tidy-written b.form b.writable)) in
    let same : written b.form ≡ items line = shape ∙ ap (λ us. last.0 ++ end ∷ us) none ∙ sym last.1 in
    not_both (ap a_line (sym same) ∙ reads-written b.form b.writable) e

fault_at : (line : List ℕ) (t : Item) (ts : List Item) → a_line (items line) ≡ stuck (t ∷ ts) → FaultAt line (1 + length line - length (spell (t ∷ ts)))
fault_at line t ts e =
    let h = lawful-line.halts (items line) (t ∷ ts) e in
    let bytes : line ≡ spell h.front ++ spell (t ∷ ts) = sym (spell-items line) ∙ ap spell h.split ∙ spell-append h.front (t ∷ ts) in
    let long : length line ≡ length (spell h.front) + length (spell (t ∷ ts)) = ap length bytes ∙ length-append (spell h.front) (spell (t ∷ ts)) in
    record {
      before = h.front;
      item = t;
      behind = ts;
      split = h.split;
      counted = omega arith;
      begun = begun-before line (t ∷ ts) h;
      barred = λ b.
          let shape : written b.form ≡ h.front ++ t ∷ b.rest = b.whole ∙ append_assoc h.front (t ∷ []) b.rest in
          not_both (reads-written b.form b.writable) (ap a_line shape ∙ h.bars t ts b.rest refl);
    }

pub read_as : (line : List ℕ) → ReadAs line (reading line)
read_as line = go (ltb 200 (length line)) refl
  where
    inner : length line ≤ 200 → (o : Out Form) → a_line (items line) ≡ o → ReadAs line (judged line o)
    inner short (got f ts) e = let it = read_whole line f ts e in (short, it.0, sym (spell-items line) ∙ ap spell it.1)
    inner short (stuck []) e = absurd (not_past line e)
    inner short (stuck (t ∷ ts)) e = (short, fault_at line t ts e)

    go : (b : Bool) → ltb 200 (length line) ≡ b → ReadAs line (cond b (Err LineTooLong) (judged line (a_line (items line))))
    go true e = ltb-true 200 (length line) e
    go false e = inner (ltb-false 200 (length line) e) (a_line (items line)) refl
