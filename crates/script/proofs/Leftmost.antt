-- Each reader of the grammar keeps to the laws of readers, so a line faults at the leftmost place.
use Rattle.std.proofs.Common.{◌≡◌, ℕ, zero, suc, Bool, true, false, List, [], ◌∷◌, None, codes, Option, refl, ap, ◌∙◌}
use Rattle.signalling.specs.declared.content.Function.TheVariants.{Alh}
use Rattle.signalling.specs.declared.content.ReplyKind.TheVariants.{Ack}
use Rattle.signalling.specs.declared.content.FirstIdent.TheVariants.{Regi}
use Rattle.signalling.specs.declared.content.Content.TheVariants.{Deaf, Mark, Bcast, Other}
use Rattle.signalling.specs.declared.content.Heard.{Heard}
use Rattle.parts.specs.declared.few_numbers.FewNumbers.{FewNumbers}
use Rattle.parts.specs.declared.choice.AnyService.TheVariants.{Rqs}
use Rattle.script.specs.declared.form.Form.TheVariants.{Take, Sent, Held, Cancel}
use Rattle.script.specs.declared.names.FormName.{FormName}
use Rattle.script.specs.declared.names.FormName.TheVariants as forms
use Rattle.script.specs.declared.names.ContentName.{ContentName}
use Rattle.script.specs.declared.names.ContentName.TheVariants as contents
use Rattle.script.specs.Items.{Item, opening, closing, space, word, end}
use Rattle.script.specs.Reading.{got, Reads, gives, bind, then, closes, enclosed, enclosed_field, field, means, unless_open, after_space}
use Rattle.script.specs.Words.{number_in, function_of, kind_of, service_of, first_of, form_of, content_of, only}
use Rattle.script.specs.Script.{two, data_fields, division_fields, aloha_fields, reply_fields, go_fields, ahy_fields, ahyq_fields, head_fields, move_fields, content_fields, content_within, content, some_code, code, heard_fields, mask_within, mask, numbers, drawn, drawing, draws_within, draws, make_fields, form_fields, form, line}
use Rattle.script.specs.Script as reads
use Rattle.script.proofs.Lawful.{Lawful, ahead, choose, not_both, lawful-gives, lawful-bind, lawful_like, lawful-choose, bind_assoc, choose-bind}
use Rattle.script.proofs.Singles.{lawful-opens, lawful-closes, lawful-parts, lawful-ends, lawful-means, lawful-field}

lawful-number : Lawful (field number_in)
lawful-number = lawful-field number_in (codes "0") 0 refl

lawful-function : Lawful (field function_of)
lawful-function = lawful-field function_of (codes "alh") Alh refl

lawful-kind : Lawful (field kind_of)
lawful-kind = lawful-field kind_of (codes "ack") Ack refl

lawful-first : Lawful (field first_of)
lawful-first = lawful-field first_of (codes "regi") Regi refl

lawful-service : Lawful (field service_of)
lawful-service = lawful-field service_of (codes "rqs") Rqs refl

lawful-enclosed : {A : Type 0} {p : Reads A} → Lawful p → Lawful (enclosed p)
unfolding enclosed
lawful-enclosed inner = lawful-bind lawful-opens (λ _. lawful-bind inner (λ _. lawful-bind lawful-closes (λ _. lawful-gives _)))

lawful-two : Lawful two
unfolding two
lawful-two = lawful-bind lawful-number (λ _. lawful-bind lawful-number (λ _. lawful-gives _))

lawful-division : Lawful division_fields
unfolding division_fields
lawful-division = lawful-bind lawful-two (λ _. lawful-gives _)

lawful-content_fields : (name : ContentName) → Lawful (content_fields name)
unfolding data_fields aloha_fields reply_fields go_fields ahy_fields ahyq_fields head_fields move_fields
lawful-content_fields contents.Deaf = lawful-gives Deaf
lawful-content_fields contents.Data = lawful-bind lawful-two (λ _. lawful-gives _)
lawful-content_fields contents.Aloha = lawful-bind lawful-function (λ _. lawful-bind lawful-two (λ _. lawful-bind lawful-division (λ _. lawful-gives _)))
lawful-content_fields contents.Reply = lawful-bind lawful-kind (λ _. lawful-bind lawful-two (λ _. lawful-bind lawful-first (λ _. lawful-bind lawful-number (λ _. lawful-gives _))))
lawful-content_fields contents.Go = lawful-bind lawful-two (λ _. lawful-bind lawful-two (λ _. lawful-gives _))
lawful-content_fields contents.Ahy = lawful-bind lawful-two (λ _. lawful-gives _)
lawful-content_fields contents.Ahyq = lawful-bind lawful-two (λ _. lawful-gives _)
lawful-content_fields contents.Head = lawful-bind lawful-number (λ _. lawful-gives _)
lawful-content_fields contents.Mark = lawful-gives Mark
lawful-content_fields contents.Bcast = lawful-gives Bcast
lawful-content_fields contents.Move = lawful-bind lawful-division (λ _. lawful-bind lawful-number (λ _. lawful-gives _))
lawful-content_fields contents.Other = lawful-gives Other

lawful-content : Lawful content
unfolding content_within
lawful-content = lawful-enclosed (lawful-bind (lawful-means content_of (codes "deaf") contents.Deaf refl) lawful-content_fields)

abbrev is_opening : Item → Bool
is_opening opening = true
is_opening closing = false
is_opening space = false
is_opening (word bs) = false
is_opening end = false

abbrev is_space : Item → Bool
is_space opening = false
is_space closing = false
is_space space = true
is_space (word bs) = false
is_space end = false

unless_choose : {A : Type 0} (a : A) (p : Reads A) (ts : List Item) → unless_open a p ts ≡ choose is_opening (gives a) p ts
unless_choose a p [] = refl
unless_choose a p (opening ∷ ts) = refl
unless_choose a p (closing ∷ ts) = refl
unless_choose a p (space ∷ ts) = refl
unless_choose a p (word bs ∷ ts) = refl
unless_choose a p (end ∷ ts) = refl

after-choose : {A : Type 0} (a : A) (p : Reads A) (ts : List Item) → after_space a p ts ≡ choose is_space p (gives a) ts
after-choose a p [] = refl
after-choose a p (opening ∷ ts) = refl
after-choose a p (closing ∷ ts) = refl
after-choose a p (space ∷ ts) = refl
after-choose a p (word bs ∷ ts) = refl
after-choose a p (end ∷ ts) = refl

-- what is read behind a system code begins with a content
behind_code : Option ℕ → Reads Heard
behind_code c = then content (λ x. gives (record { code = c; content = x }))

lawful-behind : (c : Option ℕ) → Lawful (behind_code c)
unfolding behind_code
lawful-behind c = lawful-bind lawful-content (λ _. lawful-gives _)

behind-opens : (c : Option ℕ) (ts : List Item) (h : Heard) (r : List Item) → behind_code c ts ≡ got h r → ahead is_opening ts ≡ true
unfolding behind_code enclosed then
behind-opens c [] h r e = not_both e refl
behind-opens c (opening ∷ ts) h r e = refl
behind-opens c (closing ∷ ts) h r e = not_both e refl
behind-opens c (space ∷ ts) h r e = not_both e refl
behind-opens c (word bs ∷ ts) h r e = not_both e refl
behind-opens c (end ∷ ts) h r e = not_both e refl

lawful-some-code : Lawful some_code
lawful-some-code = lawful-bind (lawful-means number_in (codes "0") 0 refl) (λ _. lawful-bind lawful-parts (λ _. lawful-gives _))

some_code_other : (ts : List Item) (h : Heard) (r : List Item) → then some_code behind_code ts ≡ got h r → ahead is_opening ts ≡ false
unfolding then
some_code_other [] h r e = refl
some_code_other (opening ∷ ts) h r e = not_both e refl
some_code_other (closing ∷ ts) h r e = refl
some_code_other (space ∷ ts) h r e = refl
some_code_other (word bs ∷ ts) h r e = refl
some_code_other (end ∷ ts) h r e = refl

lawful_heard : Lawful heard_fields
unfolding heard_fields code behind_code then
lawful_heard =
    lawful-bind lawful-parts (λ _.
    lawful_like (λ ts. ap (λ o. bind o behind_code) (unless_choose None some_code ts) ∙ choose-bind is_opening (gives None) some_code behind_code ts)
    (lawful-choose
    (record { lawful = lawful-bind (lawful-gives None) lawful-behind; begins = behind-opens None })
    (record { lawful = lawful-bind lawful-some-code lawful-behind; begins = some_code_other })))

lawful-mask : Lawful mask
unfolding enclosed_field mask_within
lawful-mask = lawful-bind lawful-parts (λ _. lawful-enclosed (lawful-bind (lawful-means (only (codes "mask")) (codes "mask") tt refl) (λ _. lawful-bind lawful-two (λ _. lawful-gives _))))

-- the bracket behind the numbers
closed : FewNumbers → Reads FewNumbers
closed d = then closes (λ _. gives d)

lawful-closed : (d : FewNumbers) → Lawful (closed d)
unfolding closed
lawful-closed d = lawful-bind lawful-closes (λ _. lawful-gives d)

closed_other : (d : FewNumbers) (ts : List Item) (x : FewNumbers) (r : List Item) → closed d ts ≡ got x r → ahead is_space ts ≡ false
unfolding closed then
closed_other d [] x r e = refl
closed_other d (opening ∷ ts) x r e = refl
closed_other d (closing ∷ ts) x r e = refl
closed_other d (space ∷ ts) x r e = not_both e refl
closed_other d (word bs ∷ ts) x r e = refl
closed_other d (end ∷ ts) x r e = refl

-- one number at least
a_number : ℕ → Reads (List ℕ)
a_number most = then reads.number (λ n. then (numbers most) (λ ns. gives (n ∷ ns)))

number-space : (most : ℕ) (k : List ℕ → Reads FewNumbers) (ts : List Item) (x : FewNumbers) (r : List Item) → then (a_number most) k ts ≡ got x r → ahead is_space ts ≡ true
unfolding a_number field then
number-space most k [] x r e = not_both e refl
number-space most k (opening ∷ ts) x r e = not_both e refl
number-space most k (closing ∷ ts) x r e = not_both e refl
number-space most k (space ∷ ts) x r e = refl
number-space most k (word bs ∷ ts) x r e = not_both e refl
number-space most k (end ∷ ts) x r e = not_both e refl

lawful-numbers : (most : ℕ) (of : List ℕ → FewNumbers) → Lawful (then (numbers most) (λ ns. closed (of ns)))
unfolding numbers a_number then
lawful-numbers zero of = lawful-bind (lawful-gives []) (λ ns. lawful-closed (of ns))
lawful-numbers (suc most) of =
    let k : List ℕ → Reads FewNumbers = λ ns. closed (of ns) in
    lawful_like (λ ts. ap (λ o. bind o k) (after-choose [] (a_number most) ts) ∙ choose-bind is_space (a_number most) (gives []) k ts)
    (lawful-choose
    (record {
      lawful = lawful_like (bind_assoc reads.number (λ n. then (numbers most) (λ ns. gives (n ∷ ns))) k)
          (lawful-bind lawful-number (λ n. lawful_like (bind_assoc (numbers most) (λ ns. gives (n ∷ ns)) k) (lawful-numbers most (λ ns. of (n ∷ ns)))));
      begins = number-space most k;
    })
    (record { lawful = lawful-bind (lawful-gives []) (λ ns. lawful-closed (of ns)); begins = closed_other (of []) }))

lawful-draws : Lawful draws
unfolding enclosed_field draws_within drawing enclosed closed then
lawful-draws =
    lawful-bind lawful-parts (λ _. lawful-bind lawful-opens (λ _. lawful_like (bind_assoc (means (only (codes "draws"))) (λ _. drawing) closed)
    (lawful-bind (lawful-means (only (codes "draws")) (codes "draws") tt refl) (λ _.
    lawful_like (bind_assoc (numbers 16) (λ ns. gives (drawn ns)) closed) (lawful-numbers 16 drawn)))))

lawful_make : Lawful make_fields
unfolding make_fields
lawful_make = lawful-bind lawful-two (λ _. lawful-bind lawful-two (λ _. lawful-bind lawful-two (λ _. lawful-bind lawful-number (λ _. lawful-bind lawful-mask (λ _. lawful-bind lawful-draws (λ _. lawful-gives _))))))

lawful-form_fields : (name : FormName) → Lawful (form_fields name)
lawful-form_fields forms.Make = lawful-bind lawful_make (λ _. lawful-gives _)
lawful-form_fields forms.Tune = lawful-bind lawful-number (λ _. lawful-gives _)
lawful-form_fields forms.Begin = lawful-bind lawful-service (λ _. lawful-gives _)
lawful-form_fields forms.Take = lawful-gives Take
lawful-form_fields forms.Sent = lawful-gives Sent
lawful-form_fields forms.Held = lawful-gives Held
lawful-form_fields forms.Cancel = lawful-gives Cancel
lawful-form_fields forms.Slot = lawful-bind lawful_heard (λ _. lawful-gives _)

lawful-form : Lawful form
unfolding form
lawful-form = lawful-enclosed (lawful-bind (lawful-means form_of (codes "take") forms.Take refl) lawful-form_fields)

pub lawful-line : Lawful line
unfolding line
lawful-line = lawful-bind lawful-form (λ _. lawful-bind lawful-ends (λ _. lawful-gives _))
