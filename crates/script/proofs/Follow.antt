-- A reader that goes one step after another follows the steps taken together.
use Rattle.std.proofs.Common.{◌≡◌, List, [], ◌∷◌, IsErrAnd, IsOkAnd, MatchResult, Ok, Err, Result, sym, refl, ap, ◌∙◌, subst}
use Rattle.script.specs.declared.fault.Fault.{Fault}
use Rattle.script.specs.declared.reader.Reader.{Reader}
use Rattle.script.specs.Cursor.{rest, Follows}
use Rattle.script.specs.Items.{Item, opening, closing, space, word, end}
use Rattle.script.specs.Reading.{Reads, got, stuck, bind, gives, opens, then, unless_open}
use Rattle.script.proofs.Lawful.{not_both}

-- a step that reads, and then another
pub goes : {A B : Type 0} {p : Reads A} (q : A → Reads B) {a b c : Reader} {v : A} {r : Result B Fault} → Follows p a b (Ok v) → Follows (q v) b c r → Follows (then p q) a c r
unfolding then
goes q f g = record { keeps = g.keeps ∙ f.keeps; reads = ap (λ o. bind o q) f.reads ∙ g.reads; place = g.place }

-- a step at which the reader stays, and whose fault is handed on as it is
pub stays : {A B : Type 0} {p : Reads A} (q : A → Reads B) {a b : Reader} {e : Fault} {r : Result B Fault} → IsErrAnd r (λ y. y ≡ e) → Follows p a b (Err e) → Follows (then p q) a b r
unfolding then
stays q {r = Ok v} h f = absurd h
stays q {r = Err y} h f = record { keeps = f.keeps; reads = ap (λ o. bind o q) f.reads; place = h ∙ f.place }

-- the fault is handed on as it is
pub hands : {A : Type 0} {p : Reads A} {a b : Reader} {e : Fault} (r : Result A Fault) → IsErrAnd r (λ y. y ≡ e) → Follows p a b (Err e) → Follows p a b r
hands (Ok v) h f = absurd h
hands {p = p} {a} {b} (Err y) h f = subst (λ x. Follows p a b (Err x)) (sym h) f

-- the last step has nothing left to read
pub done : {A : Type 0} {v : A} {a : Reader} → Follows (gives v) a a (Ok v)
done = record { keeps = refl; reads = refl; place = tt }

-- the same, where the value is written in two ways
pub done_as : {A : Type 0} {v w : A} {a : Reader} → v ≡ w → Follows (gives v) a a (Ok w)
done_as {a = a} e = record { keeps = refl; reads = ap (λ x. got x (rest a)) e; place = tt }

unless_at : {A : Type 0} (v : A) (p : Reads A) (ts us : List Item) → opens ts ≡ got tt us → unless_open v p ts ≡ got v ts
unless_at v p [] us e = not_both e refl
unless_at v p (opening ∷ ts) us e = refl
unless_at v p (closing ∷ ts) us e = not_both e refl
unless_at v p (space ∷ ts) us e = not_both e refl
unless_at v p (word bs ∷ ts) us e = not_both e refl
unless_at v p (end ∷ ts) us e = not_both e refl

-- nothing is read where a bracket opens
pub none-at-open : {A : Type 0} {v : A} (p : Reads A) {a : Reader} (us : List Item) → opens (rest a) ≡ got tt us → Follows (unless_open v p) a a (Ok v)
none-at-open {v = v} p {a} us e = record { keeps = refl; reads = unless_at v p (rest a) us e; place = tt }

unless_not : {A : Type 0} (v : A) (p : Reads A) (ts us : List Item) → opens ts ≡ stuck us → unless_open v p ts ≡ p ts
unless_not v p [] us e = refl
unless_not v p (opening ∷ ts) us e = not_both refl e
unless_not v p (closing ∷ ts) us e = refl
unless_not v p (space ∷ ts) us e = refl
unless_not v p (word bs ∷ ts) us e = refl
unless_not v p (end ∷ ts) us e = refl

-- where none opens, something is read
pub some_unless : {A : Type 0} (v : A) {p : Reads A} {a b : Reader} {r : Result A Fault} (us : List Item) → opens (rest a) ≡ stuck us → Follows p a b r → Follows (unless_open v p) a b r
some_unless v {p} {a} us e f = record { keeps = f.keeps; reads = unless_not v p (rest a) us e ∙ f.reads; place = f.place }

-- a value is read, and another is made of it
pub makes : {A B : Type 0} {p : Reads A} (f : A → B) {P : A → B → Type 0} → ((x : A) (y : B) → P x y → y ≡ f x) → {a b : Reader} (r : Result A Fault) (s : Result B Fault) → MatchResult r (λ x. IsOkAnd s (P x)) (λ e. s ≡ Err e) → Follows p a b r → Follows (then p (λ x. gives (f x))) a b s
makes {p = p} f h {a} {b} (Ok x) (Ok y) m g = subst (λ z. Follows (then p (λ w. gives (f w))) a b (Ok z)) (sym (h x y m)) (goes _ g done)
makes f h (Ok x) (Err e) m g = absurd m
makes {p = p} f h {a} {b} (Err e) s m g = subst (Follows (then p (λ w. gives (f w))) a b) (sym m) (stays _ refl g)
