-- The script's language: how each form is read.
use Rattle.std.specs.Prelude.{ℕ, zero, suc, min, List, [], ◌∷◌, length, Some, None, codes, Option}
use Rattle.std.proofs.Math.Nat.{min-le_right}
use Rattle.parts.specs.declared.plan.MaskPlan.{MaskPlan}
use Rattle.signalling.specs.declared.content.Content.{Content}
use Rattle.signalling.specs.declared.content.Content.TheVariants as heard
use Rattle.signalling.specs.declared.content.Heard.{Heard}
use Rattle.signalling.specs.declared.division.Division.{Division}
use Rattle.signalling.specs.Division.{division}
use Rattle.parts.specs.declared.few_numbers.FewNumbers.{FewNumbers}
use Rattle.script.specs.declared.form.Form.{Form}
use Rattle.script.specs.declared.form.Form.TheVariants as said
use Rattle.script.specs.declared.form.MakeForm.{MakeForm}
use Rattle.script.specs.declared.names.ContentName.{ContentName}
use Rattle.script.specs.declared.names.ContentName.TheVariants.{Deaf, Data, Aloha, Reply, Go, Ahy, Ahyq, Head, Mark, Bcast, Move, Other}
use Rattle.script.specs.declared.names.FormName.{FormName}
use Rattle.script.specs.declared.names.FormName.TheVariants.{Make, Tune, Begin, Take, Sent, Held, Cancel, Slot}
use Rattle.script.specs.Reading.{Reads, after_space, at_end, closes, enclosed, enclosed_field, ends, field, gives, means, parts, then, unless_open}
use Rattle.script.specs.Words.{content_of, first_of, form_of, function_of, kind_of, number_in, only, service_of}

-- a number behind a space
abbrev pub number : Reads ℕ
number = field number_in

-- two numbers, each behind a space
unfoldable pub two : Reads (ℕ × ℕ)
two = then number (λ a. then number (λ b. gives (a, b)))

-- RSA, and whether the message is for this set
unfoldable pub data_fields : Reads Content
data_fields = then two (λ x. gives (heard.Data x.0 x.1))

-- address qualifier and address
unfoldable pub division_fields : Reads Division
division_fields = then two (λ x. gives (division x.0 x.1))

-- function, Aloha number, WT and division
unfoldable pub aloha_fields : Reads Content
aloha_fields = then (field function_of) (λ fn. then two (λ x. then division_fields (λ d. gives (heard.Aloha fn x.0 x.1 d))))

-- kind, qualifier, Aloha number, first ident and address
unfoldable pub reply_fields : Reads Content
reply_fields =
    then (field kind_of) (λ kind. then two (λ x. then (field first_of) (λ first. then number (λ to. gives (heard.Reply kind x.0 x.1 first to)))))

-- the two addresses of a call, the channel and the Aloha number
unfoldable pub go_fields : Reads Content
go_fields = then two (λ x. then two (λ y. gives (heard.Go x.0 x.1 y.0 y.1)))

-- AD and address
unfoldable pub ahy_fields : Reads Content
ahy_fields = then two (λ x. gives (heard.Ahy x.0 x.1))

-- whether the second ident is IPFIXI, and address
unfoldable pub ahyq_fields : Reads Content
ahyq_fields = then two (λ x. gives (heard.Ahyq x.0 x.1))

-- address
unfoldable pub head_fields : Reads Content
head_fields = then number (λ to. gives (heard.Head to))

-- division and channel
unfoldable pub move_fields : Reads Content
move_fields = then division_fields (λ d. then number (λ channel. gives (heard.Move d channel)))

-- what follows the first word of a content
abbrev pub content_fields : ContentName → Reads Content
content_fields Deaf = gives heard.Deaf
content_fields Data = data_fields
content_fields Aloha = aloha_fields
content_fields Reply = reply_fields
content_fields Go = go_fields
content_fields Ahy = ahy_fields
content_fields Ahyq = ahyq_fields
content_fields Head = head_fields
content_fields Mark = gives heard.Mark
content_fields Bcast = gives heard.Bcast
content_fields Move = move_fields
content_fields Other = gives heard.Other

-- a content between its brackets
unfoldable pub content_within : Reads Content
content_within = then (means content_of) content_fields

-- a content in its brackets
abbrev pub content : Reads Content
content = enclosed content_within

-- a mask and its value behind their word
unfoldable pub mask_within : Reads MaskPlan
mask_within = then (means (only (codes "mask"))) (λ _. then two (λ x. gives (record { mask = x.0; value = x.1 })))

-- the same in brackets, behind a space
abbrev pub mask : Reads MaskPlan
mask = enclosed_field mask_within

-- numbers, so many at most, each behind a space
unfoldable pub numbers : ℕ → Reads (List ℕ)
numbers zero = gives []
numbers (suc k) = after_space [] (then number (λ n. then (numbers k) (λ ns. gives (n ∷ ns))))

-- so many places: the numbers in their order, and zeros behind them
abbrev pub padded : ℕ → List ℕ → List ℕ
padded zero ns = []
padded (suc k) [] = 0 ∷ padded k []
padded (suc k) (n ∷ ns) = n ∷ padded k ns

-- sixteen places for the draws
abbrev pub drawn : List ℕ → FewNumbers
drawn ns = record { numbers = padded 16 ns; count = min (length ns) 16 }

-- the same numbers, of which the first sixteen count: a set is made of no more, and no more are read
abbrev pub sixteen : FewNumbers → FewNumbers
sixteen d = record { numbers = d.numbers; count = min d.count 16 }

-- up to sixteen numbers
unfoldable pub drawing : Reads FewNumbers
drawing = then (numbers 16) (λ ns. gives (drawn ns))

-- draws behind their word
unfoldable pub draws_within : Reads FewNumbers
draws_within = then (means (only (codes "draws"))) (λ _. drawing)

-- the same in brackets, behind a space
abbrev pub draws : Reads FewNumbers
draws = enclosed_field draws_within

-- what a set is made of, by what is read
abbrev pub making : ℕ × ℕ → ℕ × ℕ → ℕ × ℕ → ℕ → MaskPlan → FewNumbers → MakeForm
making x y z w m d =
    record { card = record { address = x.0; nr = y.0; tc = y.1; ts = z.0; tj = z.1; nw = w }; channel = x.1; plan = m; draws = sixteen d; few = min-le_right d.count 16 }

-- the numbers of a set, its mask and its draws
unfoldable pub make_fields : Reads MakeForm
make_fields =
    then two (λ x. then two (λ y. then two (λ z. then number (λ w. then mask (λ m. then draws (λ d.
    gives (making x y z w m d)))))))

-- a system code and the space behind it
abbrev pub some_code : Reads (Option ℕ)
some_code = then (means number_in) (λ c. then parts (λ _. gives (Some c)))

-- no code where a content stands
unfoldable pub code : Reads (Option ℕ)
code = unless_open None some_code

-- a system code, where one was decoded, and a content
unfoldable pub heard_fields : Reads Heard
heard_fields = then parts (λ _. then code (λ c. then content (λ x. gives (record { code = c; content = x }))))

-- what follows the first word of a form
abbrev pub form_fields : FormName → Reads Form
form_fields Make = then make_fields (λ m. gives (said.Make m))
form_fields Tune = then number (λ channel. gives (said.Tune channel))
form_fields Begin = then (field service_of) (λ service. gives (said.Begin service))
form_fields Take = gives said.Take
form_fields Sent = gives said.Sent
form_fields Held = gives said.Held
form_fields Cancel = gives said.Cancel
form_fields Slot = then heard_fields (λ h. gives (said.Slot h))

-- a form in its brackets
unfoldable pub form : Reads Form
form = enclosed (then (means form_of) form_fields)

-- a whole line: a form, and the end
unfoldable pub line : Reads Form
line = then form (λ f. then ends (λ _. gives f))

-- the bracket that closes a line's form, and the end behind it
abbrev pub last : Reads (Unit {0})
last = then closes (λ _. at_end)
