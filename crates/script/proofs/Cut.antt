-- A line that is cut behind the bracket that closes a form reads as the whole line does.
use Rattle.std.proofs.Common.{◌≡◌, ℕ, ◌+◌, ◌-◌, ◌<◌, ◌≤◌, Bool, true, false, cond, eqb, List, [], ◌∷◌, ◌++◌, length, get_or, take, drop, Some, None, Ok, Err, Option, Result, sym, refl, ap, ◌∙◌, subst, ⊎_elim, arith}
use Rattle.std.proofs.lemmas.List.{append_cancel_right, drop_all, drop-drop, drop_more, drop-take, get_or-drop, length-drop, length-take-le, take-append-drop, take_more}
use Rattle.std.proofs.lemmas.Bool.{cases_lt}
use Rattle.std.specs.List.{between}
use Rattle.script.specs.declared.fault.Fault.{Fault}
use Rattle.script.specs.declared.reader.Reader.{Reader}
use Rattle.script.specs.Brackets.{Closes}
use Rattle.script.specs.Cursor.{line_of, outcome, Follows, Placed}
use Rattle.script.specs.Inside.{Inside, up_to}
use Rattle.script.specs.Items.{Item, opening, closing, space, word, end, before, items, joined}
use Rattle.script.specs.Reading.{Out, got, stuck, Reads}
use Rattle.script.specs.Inward.{NoClosing, Shut, extend}
use Rattle.script.proofs.Levels.{bracket_at_close}

-- bytes laid before some items
abbrev laid : List ℕ → List Item → List Item
laid [] ts = ts
laid (b ∷ bs) ts = before b (laid bs ts)

items-append : (bs cs : List ℕ) → items (bs ++ cs) ≡ laid bs (items cs)
items-append [] cs = refl
items-append (b ∷ bs) cs = ap (before b) (items-append bs cs)

joined-append : (b : ℕ) (us ts : List Item) → (NoClosing us → ⊥) → joined b (us ++ ts) ≡ joined b us ++ ts
joined-append b [] ts h = absurd (h tt)
joined-append b (opening ∷ us) ts h = refl
joined-append b (closing ∷ us) ts h = refl
joined-append b (space ∷ us) ts h = refl
joined-append b (word bs ∷ us) ts h = refl
joined-append b (end ∷ us) ts h = refl

cond-append : (x y z : Bool) (us vs ws js ts : List Item) → cond x (us ++ ts) (cond y (vs ++ ts) (cond z (ws ++ ts) (js ++ ts))) ≡ cond x us (cond y vs (cond z ws js)) ++ ts
cond-append true y z us vs ws js ts = refl
cond-append false true z us vs ws js ts = refl
cond-append false false true us vs ws js ts = refl
cond-append false false false us vs ws js ts = refl

before-append : (b : ℕ) (us ts : List Item) → (NoClosing us → ⊥) → before b (us ++ ts) ≡ before b us ++ ts
before-append b us ts h =
    ap (λ js. cond (eqb b 40) (opening ∷ us ++ ts) (cond (eqb b 41) (closing ∷ us ++ ts) (cond (eqb b 32) (space ∷ us ++ ts) js))) (joined-append b us ts h)
    ∙ cond-append (eqb b 40) (eqb b 41) (eqb b 32) (opening ∷ us) (closing ∷ us) (space ∷ us) (joined b us) ts

joined-some : (b : ℕ) (us : List Item) → NoClosing (joined b us) → NoClosing us
joined-some b [] h = tt
joined-some b (opening ∷ us) h = h
joined-some b (closing ∷ us) h = h
joined-some b (space ∷ us) h = h
joined-some b (word bs ∷ us) h = h
joined-some b (end ∷ us) h = h

cond-some : (x y z : Bool) (us js : List Item) → (NoClosing js → NoClosing us) → NoClosing (cond x (opening ∷ us) (cond y (closing ∷ us) (cond z (space ∷ us) js))) → NoClosing us
cond-some true y z us js h g = g
cond-some false true z us js h g = absurd g
cond-some false false true us js h g = g
cond-some false false false us js h g = h g

-- bytes before a closing bracket have items of their own, whatever stands behind it
record Closed (bs : List ℕ) : Type 0 where
  own : List Item
  all : (ts : List Item) → laid bs (closing ∷ ts) ≡ own ++ ts
  some : NoClosing own → ⊥

closed : (bs : List ℕ) → Closed bs
closed [] = record { own = closing ∷ []; all = λ ts. refl; some = λ h. h }
closed (b ∷ bs) =
    let c = closed bs in
    record {
      own = before b c.own;
      all = λ ts. ap (before b) (c.all ts) ∙ before-append b c.own ts c.some;
      some = λ h. c.some (cond-some (eqb b 40) (eqb b 41) (eqb b 32) c.own (joined b c.own) (joined-some b c.own) h);
    }

-- the items from a place on, in the line and in the line that is cut
record Parted (l : List ℕ) (close i : ℕ) : Type 0 where
  own : List Item
  cut : items (drop i (take (close + 1) l)) ≡ own ++ items []
  whole : items (drop i l) ≡ own ++ items (drop (close + 1) l)

module _ (l : List ℕ) (close : ℕ) (within : close < length l) (bracket : get_or l close 0 ≡ 41) where
  whole_from : (i : ℕ) → i ≤ close → drop i l ≡ between i close l ++ 41 ∷ drop (close + 1) l
  whole_from i h =
      let at : i + (close - i) ≡ close = omega arith in
      sym (take-append-drop (close - i) (drop i l))
      ∙ ap (λ xs. between i close l ++ xs) (drop-drop (close - i) i l ∙ ap (λ n. drop n l) at ∙ drop_more l close 0 within ∙ ap (λ b. b ∷ drop (close + 1) l) bracket)

  cut-from : (i : ℕ) → i ≤ close → drop i (take (close + 1) l) ≡ between i close l ++ 41 ∷ []
  cut-from i h =
      let long : close + 1 ≡ i + ((close - i) + 1) = omega arith in
      let at : i + (close - i) ≡ close = omega arith in
      let room : close - i < length (drop i l) = simp length-drop (omega arith) in
      ap (λ n. drop i (take n l)) long ∙ drop-take i ((close - i) + 1) l ∙ take_more (drop i l) (close - i) 0 room
      ∙ ap (λ b. between i close l ++ b ∷ []) (get_or-drop i l (close - i) 0 ∙ ap (λ n. get_or l n 0) at ∙ bracket)

  inner-part : (i : ℕ) → i ≤ close → Parted l close i
  inner-part i h =
      let c = closed (between i close l) in
      record {
        own = c.own;
        cut = ap items (cut-from i h) ∙ items-append (between i close l) (41 ∷ []) ∙ c.all (items []);
        whole = ap items (whole_from i h) ∙ items-append (between i close l) (41 ∷ drop (close + 1) l) ∙ c.all (items (drop (close + 1) l));
      }

  last-part : (i : ℕ) → i ≡ close + 1 → Parted l close i
  last-part i e =
      let long = length-take-le (close + 1) l (omega arith) in
      record {
        own = [];
        cut = ap items (drop_all i (take (close + 1) l) (omega arith));
        whole = ap (λ n. items (drop n l)) e;
      }

  part : (i : ℕ) → i ≤ close + 1 → Parted l close i
  part i h = ⊎_elim (λ inner. inner-part i (omega arith)) (λ last. last-part i (omega arith)) (cases_lt i (close + 1))

-- what is left behind the cut tells what is left before it
shorter : {A : Type 0} (o : Out A) (r : Result A Fault) (zs ts : List Item) → extend o ts ≡ outcome r (zs ++ ts) → o ≡ outcome r zs
shorter (got v us) (Ok w) zs ts e =
    let value : v ≡ w = cc in
    let left : us ++ ts ≡ zs ++ ts = cc in
    let same = append_cancel_right us zs ts left in
    cc
shorter (got v us) (Err f) zs ts e = let z : ◌≡◌ {A = ℕ} 0 1 = cc in absurd (omega arith)
shorter (stuck us) (Ok w) zs ts e = let z : ◌≡◌ {A = ℕ} 0 1 = cc in absurd (omega arith)
shorter (stuck us) (Err f) zs ts e =
    let left : us ++ ts ≡ zs ++ ts = cc in
    ap stuck (append_cancel_right us zs ts left)

longer : {A : Type 0} (r : Result A Fault) (zs ts : List Item) → extend (outcome r zs) ts ≡ outcome r (zs ++ ts)
longer (Ok v) zs ts = refl
longer (Err f) zs ts = refl

-- reading that ends with the closing bracket goes on in the whole line as in the one that is cut
pub uncut : {A : Type 0} (p : Reads A) → Shut p → (l : List ℕ) (close i j : ℕ) → close < length l → get_or l close 0 ≡ 41 → i ≤ close → j ≤ close + 1 → (r : Result A Fault) → p (items (drop i (take (close + 1) l))) ≡ outcome r (items (drop j (take (close + 1) l))) → p (items (drop i l)) ≡ outcome r (items (drop j l))
unfolding inner-part
uncut p shut l close i j within bracket h k r e =
    let c = closed (between i close l) in
    let a = inner-part l close within bracket i h in
    let b = part l close within bracket j k in
    let ds = items (drop (close + 1) l) in
    let inner : extend (p a.own) (items []) ≡ outcome r (b.own ++ items []) =
    sym (shut a.own (items []) c.some) ∙ ap p (sym a.cut) ∙ e ∙ ap (outcome r) b.cut in
    ap p a.whole ∙ shut a.own ds c.some ∙ ap (λ o. extend o ds) (shorter (p a.own) r b.own (items []) inner) ∙ longer r b.own ds ∙ ap (outcome r) (sym b.whole)

read_out : {A : Type 0} (p : Reads A) → Shut p → (l : List ℕ) (i j : ℕ) (o : Option ℕ) → Closes l i o → j ≤ length (up_to o l) → (r : Result A Fault) → p (items (drop i (up_to o l))) ≡ outcome r (items (drop j (up_to o l))) → p (items (drop i l)) ≡ outcome r (items (drop j l))
read_out p shut l i j (Some close) at h r e =
    let in-line = at.within in
    let behind = at.after in
    uncut p shut l close i j in-line (bracket_at_close at) (omega arith) (omega (arith, length-take-le (close + 1) l (omega arith))) r e
read_out p shut l i j None at h r e = e

-- what the inner reader reads, the outer one has read that takes over its place
pub outward : {A : Type 0} (p : Reads A) → Shut p → {a b c : Reader} {r : Result A Fault} → Inside a b → Follows p b c r → (d : Reader) → line_of d ≡ line_of a → d.pos ≡ c.pos → Follows p a d r
outward p shut {a} {b} {c} {r} s f d same at =
    let here = s.place in
    let cut = s.cut in
    let kept : line_of c ≡ up_to s.close (line_of a) = f.keeps ∙ s.cut in
    let w : c.pos ≤ length (line_of c) = c.within in
    let inner : p (items (drop a.pos (up_to s.close (line_of a)))) ≡ outcome r (items (drop c.pos (up_to s.close (line_of a)))) =
    (λ i. p (items (drop (sym here i) (sym cut i)))) ∙ f.reads ∙ ap (λ l. outcome r (items (drop c.pos l))) kept in
    record {
      keeps = same;
      reads = read_out p shut (line_of a) a.pos c.pos s.close s.closed (omega (arith, ap length kept)) r inner ∙ (λ i. outcome r (items (drop (sym at i) (sym same i))));
      place = subst (Placed r) (sym at) f.place;
    }
