-- Words and what they stand for: each value has one word, and each word that is known is the word of its value.
use Rattle.std.proofs.Common.{◌≡◌, ℕ, Bool, true, false, cond, List, [], ◌∷◌, Some, None, codes, decimal, Option, sym, refl, ap, ◌∙◌, subst, ⊎_elim, arith}
use Rattle.std.specs.Option.{option_map}
use Rattle.std.specs.Str.Parse.{digits_value, AllDigits}
use Rattle.std.specs.List.{AllByRecursion}
use Rattle.std.specs.Str.{bytes_eq}
use Rattle.std.proofs.lemmas.Fmt.{decimal_is_IsNumeral}
use Rattle.std.proofs.lemmas.Slice.Eq.{bytes_eq-Decides}
use Rattle.std.proofs.lemmas.Bool.{cases_Bool}
use Rattle.signalling.specs.declared.content.FirstIdent.{FirstIdent}
use Rattle.signalling.specs.declared.content.FirstIdent.TheVariants.{Regi, Plain}
use Rattle.signalling.specs.declared.content.Function.{Function}
use Rattle.signalling.specs.declared.content.Function.TheVariants.{Alh, Alhs, Alhd, Alhe, Alhr, Alhx, Alhf, Unknown}
use Rattle.signalling.specs.declared.content.ReplyKind.{ReplyKind}
use Rattle.signalling.specs.declared.content.ReplyKind.TheVariants.{Ack, Acki, Ackx, Ackv, Acke, Acko}
use Rattle.parts.specs.declared.choice.AnyService.{AnyService}
use Rattle.parts.specs.declared.choice.AnyService.TheVariants.{Rqs, Rqr, Rqe}
use Rattle.script.specs.declared.names.FormName.{FormName}
use Rattle.script.specs.declared.names.FormName.TheVariants as form
use Rattle.script.specs.declared.names.ContentName.{ContentName}
use Rattle.script.specs.declared.names.ContentName.TheVariants as content
use Rattle.script.specs.Words.{named, service_of, function_of, kind_of, form_of, content_of, only, is_number, number_in, first_of, service_words, function_words, kind_words, form_words, content_words}
use Rattle.script.specs.Writing.{Small, service_word, function_word, kind_word, first_word, SmallFirst, form_word, content_word}
use Rattle.script.proofs.Numerals.{plain_decimal, number-plain, plain_from_test, test_from_plain}

-- a word stands for a value exactly where it is the word that is written for it
pub record Tells {A : Type 0} (of : List ℕ → Option A) (word_for : A → List ℕ) (Good : A → Type 0) : Type 0 where
  pub sound : (bs : List ℕ) (a : A) → of bs ≡ Some a → (bs ≡ word_for a) × Good a
  pub complete : (a : A) → Good a → of (word_for a) ≡ Some a

-- any value
abbrev pub Any : {A : Type 0} → A → Type 0
Any a = Unit {0}

-- a table whose rows each have the word of their value
named-sound : {A : Type 0} (word_for : A → List ℕ) (rows : List (List ℕ × A)) → AllByRecursion (λ row. row.0 ≡ word_for row.1) rows → (bs : List ℕ) (a : A) → named rows bs ≡ Some a → bs ≡ word_for a
named-sound word_for [] all bs a e = absurd (let z : ◌≡◌ {A = ℕ} 0 1 = cc in omega arith)
named-sound {A} word_for (row ∷ rows) all bs a e = go (named-sound word_for rows all.1 bs a) (bytes_eq bs row.0) refl
  where
    go : (named rows bs ≡ Some a → bs ≡ word_for a) → (b : Bool) → bytes_eq bs row.0 ≡ b → bs ≡ word_for a
    go more true is =
        let here : Some row.1 ≡ Some a = sym (ap (λ b. cond b (Some row.1) (named rows bs)) is) ∙ e in
        let same : row.1 ≡ a = cc in
        (bytes_eq-Decides bs row.0).0 is ∙ all.0 ∙ ap word_for same
    go more false is = more (sym (ap (λ b. cond b (Some row.1) (named rows bs)) is) ∙ e)

tells_table : {A : Type 0} (word_for : A → List ℕ) (rows : List (List ℕ × A)) → AllByRecursion (λ row. row.0 ≡ word_for row.1) rows → ((a : A) → named rows (word_for a) ≡ Some a) → Tells (named rows) word_for Any
tells_table word_for rows all each = record { sound = λ bs a e. (named-sound word_for rows all bs a e, tt); complete = λ a _. each a }

pub tells-service : Tells service_of service_word Any
tells-service = tells_table service_word service_words (refl, (refl, (refl, tt))) each
  where
    each : (a : AnyService) → service_of (service_word a) ≡ Some a
    each Rqs = refl
    each Rqr = refl
    each Rqe = refl

pub tells-function : Tells function_of function_word Any
tells-function = tells_table function_word function_words (refl, (refl, (refl, (refl, (refl, (refl, (refl, (refl, tt)))))))) each
  where
    each : (a : Function) → function_of (function_word a) ≡ Some a
    each Alh = refl
    each Alhs = refl
    each Alhd = refl
    each Alhe = refl
    each Alhr = refl
    each Alhx = refl
    each Alhf = refl
    each Unknown = refl

pub tells-kind : Tells kind_of kind_word Any
tells-kind = tells_table kind_word kind_words (refl, (refl, (refl, (refl, (refl, (refl, tt)))))) each
  where
    each : (a : ReplyKind) → kind_of (kind_word a) ≡ Some a
    each Ack = refl
    each Acki = refl
    each Ackx = refl
    each Ackv = refl
    each Acke = refl
    each Acko = refl

pub tells-form : Tells form_of form_word Any
tells-form = tells_table form_word form_words (refl, (refl, (refl, (refl, (refl, (refl, (refl, (refl, tt)))))))) each
  where
    each : (a : FormName) → form_of (form_word a) ≡ Some a
    each form.Make = refl
    each form.Tune = refl
    each form.Begin = refl
    each form.Take = refl
    each form.Sent = refl
    each form.Held = refl
    each form.Cancel = refl
    each form.Slot = refl

pub tells-content : Tells content_of content_word Any
tells-content = tells_table content_word content_words (refl, (refl, (refl, (refl, (refl, (refl, (refl, (refl, (refl, (refl, (refl, (refl, tt)))))))))))) each
  where
    each : (a : ContentName) → content_of (content_word a) ≡ Some a
    each content.Deaf = refl
    each content.Data = refl
    each content.Aloha = refl
    each content.Reply = refl
    each content.Go = refl
    each content.Ahy = refl
    each content.Ahyq = refl
    each content.Head = refl
    each content.Mark = refl
    each content.Bcast = refl
    each content.Move = refl
    each content.Other = refl

pub tells-only : (name : List ℕ) → Tells (only name) (λ _. name) Any
tells-only name = tells_table (λ _. name) ((name, tt) ∷ []) (refl, tt) (λ _. ap (λ b. cond b (Some tt) None) ((bytes_eq-Decides name name).1 refl))

pub tells-number : Tells number_in decimal Small
tells-number = record { sound = λ bs n e. sound bs n e (is_number bs) refl; complete = complete }
  where
    sound : (bs : List ℕ) (n : ℕ) → number_in bs ≡ Some n → (b : Bool) → is_number bs ≡ b → (bs ≡ decimal n) × Small n
    sound bs n e true is =
        let here : Some (digits_value 10 bs) ≡ Some n = sym (ap (λ b. cond b (Some (digits_value 10 bs)) None) is) ∙ e in
        let same : digits_value 10 bs ≡ n = cc in
        subst (λ m. (bs ≡ decimal m) × Small m) same (number-plain bs (plain_from_test bs is))
    sound bs n e false is =
        let here : ◌≡◌ {A = Option ℕ} None (Some n) = sym (ap (λ b. cond b (Some (digits_value 10 bs)) None) is) ∙ e in
        absurd (let z : ◌≡◌ {A = ℕ} 0 1 = cc in omega arith)

    complete : (n : ℕ) → Small n → number_in (decimal n) ≡ Some n
    complete n small =
        ap (λ b. cond b (Some (digits_value 10 (decimal n))) None) (test_from_plain (decimal n) (plain_decimal n small)) ∙ ap Some (decimal_is_IsNumeral n (omega arith)).1

not_regi : (n : ℕ) → Small n → bytes_eq (decimal n) (codes "regi") ≡ false
not_regi n small =
    ⊎_elim
    (λ is. let d : AllDigits 10 (codes "regi") = subst (AllDigits 10) ((bytes_eq-Decides (decimal n) (codes "regi")).0 is) (plain_decimal n small).digits in absurd (omega (arith, d.0)))
    (λ no-match. no-match)
    (cases_Bool (bytes_eq (decimal n) (codes "regi")))

pub tells_first : Tells first_of first_word SmallFirst
tells_first = record { sound = λ bs f e. sound bs f e (bytes_eq bs (codes "regi")) refl; complete = complete }
  where
    plain : (bs : List ℕ) (f : FirstIdent) (o : Option ℕ) → number_in bs ≡ o → option_map Plain o ≡ Some f → (bs ≡ first_word f) × SmallFirst f
    plain bs f (Some n) is e =
        let here : Some (Plain n) ≡ Some f = e in
        let same : Plain n ≡ f = cc in
        subst (λ g. (bs ≡ first_word g) × SmallFirst g) same (tells-number.sound bs n is)
    plain bs f None is e = let here : ◌≡◌ {A = Option FirstIdent} None (Some f) = e in absurd (let z : ◌≡◌ {A = ℕ} 0 1 = cc in omega arith)

    sound : (bs : List ℕ) (f : FirstIdent) → first_of bs ≡ Some f → (b : Bool) → bytes_eq bs (codes "regi") ≡ b → (bs ≡ first_word f) × SmallFirst f
    sound bs f e true is =
        let here : Some Regi ≡ Some f = sym (ap (λ b. cond b (Some Regi) (option_map Plain (number_in bs))) is) ∙ e in
        let same : Regi ≡ f = cc in
        subst (λ g. (bs ≡ first_word g) × SmallFirst g) same ((bytes_eq-Decides bs (codes "regi")).0 is, tt)
    sound bs f e false is = plain bs f (number_in bs) refl (sym (ap (λ b. cond b (Some Regi) (option_map Plain (number_in bs))) is) ∙ e)

    complete : (f : FirstIdent) → SmallFirst f → first_of (first_word f) ≡ Some f
    complete Regi g = refl
    complete (Plain n) g = ap (λ b. cond b (Some Regi) (option_map Plain (number_in (decimal n)))) (not_regi n g) ∙ ap (option_map Plain) (tells-number.complete n g)
