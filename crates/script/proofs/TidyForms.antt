-- The line of a form that can be written is tidy.
use Rattle.std.proofs.Common.{◌≡◌, ℕ, ◌<◌, true, List, [], ◌∷◌, ◌++◌, map, length, Some, None, codes, decimal, Option, sym, refl, subst, append_assoc, arith}
use Rattle.std.specs.Str.Parse.{AllDigits}
use Rattle.std.specs.Int.{IsInRange}
use Rattle.std.specs.List.{AllByRecursion}
use Rattle.std.proofs.lemmas.Str.Parse.{digit_from_value}
use Rattle.std.proofs.lemmas.Bool.{and_from}
use Rattle.std.proofs.lemmas.Bool.Decides.{nat_tests}
use Rattle.signalling.specs.declared.content.Content.{Content}
use Rattle.signalling.specs.declared.content.Content.TheVariants.{Deaf, Data, Aloha, Reply, Go, Ahy, Ahyq, Head, Mark, Bcast, Move, Other}
use Rattle.signalling.specs.declared.content.FirstIdent.{FirstIdent}
use Rattle.signalling.specs.declared.content.FirstIdent.TheVariants.{Regi, Plain}
use Rattle.signalling.specs.declared.content.Function.{Function}
use Rattle.signalling.specs.declared.content.Function.TheVariants.{Alh, Alhs, Alhd, Alhe, Alhr, Alhx, Alhf, Unknown}
use Rattle.signalling.specs.declared.content.ReplyKind.{ReplyKind}
use Rattle.signalling.specs.declared.content.ReplyKind.TheVariants.{Ack, Acki, Ackx, Ackv, Acke, Acko}
use Rattle.script.specs.declared.form.Form.{Form}
use Rattle.script.specs.declared.form.Form.TheVariants.{Make, Tune, Begin, Take, Sent, Held, Cancel, Slot}
use Rattle.script.specs.declared.form.MakeForm.{MakeForm}
use Rattle.parts.specs.declared.choice.AnyService.{AnyService}
use Rattle.parts.specs.declared.choice.AnyService.TheVariants.{Rqs, Rqr, Rqe}
use Rattle.script.specs.declared.names.FormName.{FormName}
use Rattle.script.specs.declared.names.FormName.TheVariants as form
use Rattle.script.specs.declared.names.ContentName.{ContentName}
use Rattle.script.specs.declared.names.ContentName.TheVariants as content
use Rattle.script.specs.Items.{Item, closing, space, end, in_word}
use Rattle.script.specs.Writing.{Small, service_word, function_word, kind_word, first_word, SmallFirst, form_word, content_word, spaced, bracketed, content_name, field_words, SmallContent, content_items, code_items, SmallCode, to_draw, leading, make_items, SmallMake, form_name, form_items, Writable, written}
use Rattle.script.proofs.Numerals.{plain_decimal}
use Rattle.script.proofs.Lines.{NoWord}
use Rattle.script.proofs.Tidy.{properly, Tidy}

-- a word that stands as one item
abbrev Proper : List ℕ → Type 0
Proper bs = properly bs ≡ true

digit_in : (b : ℕ) → IsInRange 48 57 b → in_word b ≡ true
digit_in b h = grind (arith, nat_tests)

proper-digits : (bs : List ℕ) → AllDigits 10 bs → 0 < length bs → Proper bs
proper-digits [] d h = absurd (omega arith)
proper-digits (b ∷ []) d h = digit_in b (digit_from_value b d.0)
proper-digits (b ∷ c ∷ bs) d h = and_from _ _ (digit_in b (digit_from_value b d.0)) (proper-digits (c ∷ bs) d.1 (omega arith))

proper-number : (n : ℕ) → Small n → Proper (decimal n)
proper-number n small = let p = plain_decimal n small in proper-digits (decimal n) p.digits p.trim.some

proper-numbers : (ns : List ℕ) → AllByRecursion Small ns → AllByRecursion Proper (map decimal ns)
proper-numbers [] g = tt
proper-numbers (n ∷ ns) g = (proper-number n g.0, proper-numbers ns g.1)

proper-service : (s : AnyService) → Proper (service_word s)
proper-service Rqs = refl
proper-service Rqr = refl
proper-service Rqe = refl

proper-function : (f : Function) → Proper (function_word f)
proper-function Alh = refl
proper-function Alhs = refl
proper-function Alhd = refl
proper-function Alhe = refl
proper-function Alhr = refl
proper-function Alhx = refl
proper-function Alhf = refl
proper-function Unknown = refl

proper-kind : (k : ReplyKind) → Proper (kind_word k)
proper-kind Ack = refl
proper-kind Acki = refl
proper-kind Ackx = refl
proper-kind Ackv = refl
proper-kind Acke = refl
proper-kind Acko = refl

proper-first : (f : FirstIdent) → SmallFirst f → Proper (first_word f)
proper-first Regi g = refl
proper-first (Plain n) g = proper-number n g

proper-form : (name : FormName) → Proper (form_word name)
proper-form form.Make = refl
proper-form form.Tune = refl
proper-form form.Begin = refl
proper-form form.Take = refl
proper-form form.Sent = refl
proper-form form.Held = refl
proper-form form.Cancel = refl
proper-form form.Slot = refl

proper-content : (name : ContentName) → Proper (content_word name)
proper-content content.Deaf = refl
proper-content content.Data = refl
proper-content content.Aloha = refl
proper-content content.Reply = refl
proper-content content.Go = refl
proper-content content.Ahy = refl
proper-content content.Ahyq = refl
proper-content content.Head = refl
proper-content content.Mark = refl
proper-content content.Bcast = refl
proper-content content.Move = refl
proper-content content.Other = refl

proper_fields : (x : Content) → SmallContent x → AllByRecursion Proper (field_words x)
proper_fields Deaf g = tt
proper_fields (Data a b) g = (proper-number a g.0, (proper-number b g.1, tt))
proper_fields (Aloha f a b c) g = (proper-function f, (proper-number a g.0, (proper-number b g.1, (proper-number c.qualifier g.2, (proper-number c.address g.3, tt)))))
proper_fields (Reply k a b f c) g = (proper-kind k, (proper-number a g.0, (proper-number b g.1, (proper-first f g.2, (proper-number c g.3, tt)))))
proper_fields (Go a b c d) g = (proper-number a g.0, (proper-number b g.1, (proper-number c g.2, (proper-number d g.3, tt))))
proper_fields (Ahy a b) g = (proper-number a g.0, (proper-number b g.1, tt))
proper_fields (Ahyq a b) g = (proper-number a g.0, (proper-number b g.1, tt))
proper_fields (Head a) g = (proper-number a g, tt)
proper_fields Mark g = tt
proper_fields Bcast g = tt
proper_fields (Move a c) g = (proper-number a.qualifier g.0, (proper-number a.address g.1, (proper-number c g.2, tt)))
proper_fields Other g = tt

-- tidy items with no word ahead
abbrev Clear : List Item → Type 0
Clear ts = NoWord ts × Tidy ts

-- items before which nothing has to be parted, and behind which anything clear can stand
record Segment (xs : List Item) : Type 0 where
  before : (ts : List Item) → Clear ts → Clear (xs ++ ts)

segment-none : Segment []
segment-none = record { before = λ ts h. h }

segment-append : {xs ys : List Item} → Segment xs → Segment ys → Segment (xs ++ ys)
segment-append {xs} {ys} p q = record { before = λ ts h. subst Clear (sym (append_assoc xs ys ts)) (p.before (ys ++ ts) (q.before ts h)) }

segment-space : {xs : List Item} → Segment xs → Segment (space ∷ xs)
segment-space p = record { before = λ ts h. (tt, (p.before ts h).1) }

segment-spaced : (ws : List (List ℕ)) → AllByRecursion Proper ws → Segment (spaced ws)
segment-spaced [] g = segment-none
segment-spaced (w ∷ ws) g = record { before = λ ts h. let rest = (segment-spaced ws g.1).before ts h in (tt, (g.0, rest.0, rest.1)) }

segment-bracketed : (w : List ℕ) {inner : List Item} → Proper w → Segment inner → Segment (bracketed w inner)
segment-bracketed w {inner} p q = record { before = go }
  where
    go : (ts : List Item) → Clear ts → Clear (bracketed w inner ++ ts)
    go ts h = let rest = subst Clear (sym (append_assoc inner (closing ∷ []) ts)) (q.before (closing ∷ ts) (tt, h.1)) in (tt, (p, rest.0, rest.1))

segment-content : (x : Content) → SmallContent x → Segment (content_items x)
segment-content x g = segment-bracketed (content_word (content_name x)) (proper-content (content_name x)) (segment-spaced (field_words x) (proper_fields x g))

segment_heard : (code : Option ℕ) (x : Content) → SmallCode code → SmallContent x → Segment (space ∷ (code_items code ++ content_items x))
segment_heard None x g h = segment-space (segment-content x h)
segment_heard (Some n) x g h = segment-append (segment-spaced (decimal n ∷ []) (proper-number n g, tt)) (segment-space (segment-content x h))

segment_make : (m : MakeForm) → SmallMake m → Segment (make_items m)
segment_make m g =
    segment-append
    (segment-spaced (leading m) (proper-number m.card.address g.address, (proper-number m.channel g.channel, (proper-number m.card.nr g.nr, (proper-number m.card.tc g.tc, (proper-number m.card.ts g.ts, (proper-number m.card.tj g.tj, (proper-number m.card.nw g.nw, tt))))))))
    (segment-space
    (segment-append
    (segment-bracketed (codes "mask") refl (segment-spaced (decimal m.plan.mask ∷ decimal m.plan.value ∷ []) (proper-number m.plan.mask g.mask, (proper-number m.plan.value g.its, tt))))
    (segment-space (segment-bracketed (codes "draws") refl (segment-spaced (map decimal (to_draw m.draws)) (proper-numbers (to_draw m.draws) g.draws.all))))))

segment-form : (f : Form) → Writable f → Segment (form_items f)
segment-form (Make m) g = segment_make m g
segment-form (Tune n) g = segment-spaced (decimal n ∷ []) (proper-number n g, tt)
segment-form (Begin s) g = segment-spaced (service_word s ∷ []) (proper-service s, tt)
segment-form Take g = segment-none
segment-form Sent g = segment-none
segment-form Held g = segment-none
segment-form Cancel g = segment-none
segment-form (Slot h) g = segment_heard h.code h.content g.0 g.1

pub tidy-written : (f : Form) → Writable f → Tidy (written f)
tidy-written f g = ((segment-bracketed (form_word (form_name f)) (proper-form (form_name f)) (segment-form f g)).before (end ∷ []) (tt, tt)).1
