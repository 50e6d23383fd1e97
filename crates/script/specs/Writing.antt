-- How a form is written: the words for its values, and the items of its line.
use Rattle.std.specs.Prelude.{◌≡◌, ℕ, ◌^◌, ◌<◌, List, [], ◌∷◌, ◌++◌, map, take, Some, None, codes, decimal, Option}
use Rattle.std.specs.List.{AllByRecursion}
use Rattle.parts.specs.declared.plan.MaskPlan.{MaskPlan}
use Rattle.signalling.specs.declared.content.Content.{Content}
use Rattle.signalling.specs.declared.content.Content.TheVariants.{Deaf, Data, Aloha, Reply, Go, Ahy, Ahyq, Head, Mark, Bcast, Move, Other}
use Rattle.signalling.specs.declared.content.Heard.{Heard}
use Rattle.signalling.specs.declared.content.FirstIdent.{FirstIdent}
use Rattle.signalling.specs.declared.content.FirstIdent.TheVariants.{Regi, Plain}
use Rattle.signalling.specs.declared.content.Function.{Function}
use Rattle.signalling.specs.declared.content.Function.TheVariants.{Alh, Alhs, Alhd, Alhe, Alhr, Alhx, Alhf, Unknown}
use Rattle.signalling.specs.declared.content.ReplyKind.{ReplyKind}
use Rattle.signalling.specs.declared.content.ReplyKind.TheVariants.{Ack, Acki, Ackx, Ackv, Acke, Acko}
use Rattle.parts.specs.declared.few_numbers.FewNumbers.{FewNumbers}
use Rattle.script.specs.declared.form.Form.{Form}
use Rattle.script.specs.declared.form.Form.TheVariants.{Make, Tune, Begin, Take, Sent, Held, Cancel, Slot}
use Rattle.script.specs.declared.form.MakeForm.{MakeForm}
use Rattle.parts.specs.declared.choice.AnyService.{AnyService}
use Rattle.parts.specs.declared.choice.AnyService.TheVariants.{Rqs, Rqr, Rqe}
use Rattle.script.specs.declared.names.FormName.{FormName}
use Rattle.script.specs.declared.names.FormName.TheVariants as form
use Rattle.script.specs.declared.names.ContentName.{ContentName}
use Rattle.script.specs.declared.names.ContentName.TheVariants as content
use Rattle.script.specs.Items.{Item, opening, closing, space, word, end}
use Rattle.script.specs.Script.{padded}

-- a number of at most seven digits
abbrev pub Small : ℕ → Type 0
Small n = n < 10 ^ 7

-- the word for a service
abbrev pub service_word : AnyService → List ℕ
service_word Rqs = codes "rqs"
service_word Rqr = codes "rqr"
service_word Rqe = codes "rqe"

-- the word for an Aloha function
abbrev pub function_word : Function → List ℕ
function_word Alh = codes "alh"
function_word Alhs = codes "alhs"
function_word Alhd = codes "alhd"
function_word Alhe = codes "alhe"
function_word Alhr = codes "alhr"
function_word Alhx = codes "alhx"
function_word Alhf = codes "alhf"
function_word Unknown = codes "unknown"

-- the word for a kind of acknowledgement
abbrev pub kind_word : ReplyKind → List ℕ
kind_word Ack = codes "ack"
kind_word Acki = codes "acki"
kind_word Ackx = codes "ackx"
kind_word Ackv = codes "ackv"
kind_word Acke = codes "acke"
kind_word Acko = codes "acko"

-- the word for a first ident
abbrev pub first_word : FirstIdent → List ℕ
first_word Regi = codes "regi"
first_word (Plain n) = decimal n

-- a first ident that a word can be written for
abbrev pub SmallFirst : FirstIdent → Type 0
SmallFirst Regi = Unit {0}
SmallFirst (Plain n) = Small n

-- the first word of a form
abbrev pub form_word : FormName → List ℕ
form_word form.Make = codes "make"
form_word form.Tune = codes "tune"
form_word form.Begin = codes "begin"
form_word form.Take = codes "take"
form_word form.Sent = codes "sent"
form_word form.Held = codes "held"
form_word form.Cancel = codes "cancel"
form_word form.Slot = codes "slot"

-- the first word of a content
abbrev pub content_word : ContentName → List ℕ
content_word content.Deaf = codes "deaf"
content_word content.Data = codes "data"
content_word content.Aloha = codes "aloha"
content_word content.Reply = codes "reply"
content_word content.Go = codes "go"
content_word content.Ahy = codes "ahy"
content_word content.Ahyq = codes "ahyq"
content_word content.Head = codes "head"
content_word content.Mark = codes "mark"
content_word content.Bcast = codes "bcast"
content_word content.Move = codes "move"
content_word content.Other = codes "other"

-- words, each behind a space
abbrev pub spaced : List (List ℕ) → List Item
spaced [] = []
spaced (w ∷ ws) = space ∷ word w ∷ spaced ws

-- a form: its first word and what follows, in brackets
abbrev pub bracketed : List ℕ → List Item → List Item
bracketed first inner = opening ∷ word first ∷ (inner ++ closing ∷ [])

-- the name of a content
abbrev pub content_name : Content → ContentName
content_name Deaf = content.Deaf
content_name (Data rsa mine) = content.Data
content_name (Aloha function n wt d) = content.Aloha
content_name (Reply kind qual n first to) = content.Reply
content_name (Go to partner channel n) = content.Go
content_name (Ahy ad to) = content.Ahy
content_name (Ahyq ipfixi to) = content.Ahyq
content_name (Head to) = content.Head
content_name Mark = content.Mark
content_name Bcast = content.Bcast
content_name (Move d channel) = content.Move
content_name Other = content.Other

-- the words of a content behind its name
abbrev pub field_words : Content → List (List ℕ)
field_words Deaf = []
field_words (Data rsa mine) = decimal rsa ∷ decimal mine ∷ []
field_words (Aloha function n wt d) = function_word function ∷ decimal n ∷ decimal wt ∷ decimal d.qualifier ∷ decimal d.address ∷ []
field_words (Reply kind qual n first to) = kind_word kind ∷ decimal qual ∷ decimal n ∷ first_word first ∷ decimal to ∷ []
field_words (Go to partner channel n) = decimal to ∷ decimal partner ∷ decimal channel ∷ decimal n ∷ []
field_words (Ahy ad to) = decimal ad ∷ decimal to ∷ []
field_words (Ahyq ipfixi to) = decimal ipfixi ∷ decimal to ∷ []
field_words (Head to) = decimal to ∷ []
field_words Mark = []
field_words Bcast = []
field_words (Move d channel) = decimal d.qualifier ∷ decimal d.address ∷ decimal channel ∷ []
field_words Other = []

-- each number of a content has at most seven digits
abbrev pub SmallContent : Content → Type 0
SmallContent Deaf = Unit {0}
SmallContent (Data rsa mine) = Small rsa × Small mine
SmallContent (Aloha function n wt d) = Small n × Small wt × Small d.qualifier × Small d.address
SmallContent (Reply kind qual n first to) = Small qual × Small n × SmallFirst first × Small to
SmallContent (Go to partner channel n) = Small to × Small partner × Small channel × Small n
SmallContent (Ahy ad to) = Small ad × Small to
SmallContent (Ahyq ipfixi to) = Small ipfixi × Small to
SmallContent (Head to) = Small to
SmallContent Mark = Unit {0}
SmallContent Bcast = Unit {0}
SmallContent (Move d channel) = Small d.qualifier × Small d.address × Small channel
SmallContent Other = Unit {0}

-- a content as it is written
abbrev pub content_items : Content → List Item
content_items x = bracketed (content_word (content_name x)) (spaced (field_words x))

-- a system code, where there is one, and the space behind it
abbrev pub code_items : Option ℕ → List Item
code_items None = []
code_items (Some n) = word (decimal n) ∷ space ∷ []

abbrev pub SmallCode : Option ℕ → Type 0
SmallCode None = Unit {0}
SmallCode (Some n) = Small n

-- what was heard in a slot, as it is written
abbrev pub heard_items : Heard → List Item
heard_items h = space ∷ (code_items h.code ++ content_items h.content)

abbrev pub SmallHeard : Heard → Type 0
SmallHeard h = SmallCode h.code × SmallContent h.content

-- a mask and its value as they are written
abbrev pub mask_items : MaskPlan → List Item
mask_items p = bracketed (codes "mask") (spaced (decimal p.mask ∷ decimal p.value ∷ []))

-- the numbers to draw
abbrev pub to_draw : FewNumbers → List ℕ
to_draw d = take d.count d.numbers

-- the draws as they are written
abbrev pub draws_items : FewNumbers → List Item
draws_items d = bracketed (codes "draws") (spaced (map decimal (to_draw d)))

-- each number drawn has at most seven digits, and 0 stands in the places past them
pub record SmallDraws (d : FewNumbers) : Type 0 where
  pub all : AllByRecursion Small (to_draw d)
  pub past : d.numbers ≡ padded 16 (to_draw d)

-- the words of the seven numbers before the mask
abbrev pub leading : MakeForm → List (List ℕ)
leading m = decimal m.card.address ∷ decimal m.channel ∷ decimal m.card.nr ∷ decimal m.card.tc ∷ decimal m.card.ts ∷ decimal m.card.tj ∷ decimal m.card.nw ∷ []

-- what a set is made of, as it is written
abbrev pub make_items : MakeForm → List Item
make_items m = spaced (leading m) ++ (space ∷ (mask_items m.plan ++ (space ∷ draws_items m.draws)))

pub record SmallMake (m : MakeForm) : Type 0 where
  pub address : Small m.card.address
  pub channel : Small m.channel
  pub nr : Small m.card.nr
  pub tc : Small m.card.tc
  pub ts : Small m.card.ts
  pub tj : Small m.card.tj
  pub nw : Small m.card.nw
  pub mask : Small m.plan.mask
  pub its : Small m.plan.value
  pub draws : SmallDraws m.draws

-- the name of a form
abbrev pub form_name : Form → FormName
form_name (Make m) = form.Make
form_name (Tune channel) = form.Tune
form_name (Begin service) = form.Begin
form_name Take = form.Take
form_name Sent = form.Sent
form_name Held = form.Held
form_name Cancel = form.Cancel
form_name (Slot h) = form.Slot

-- what follows the name of a form
abbrev pub form_items : Form → List Item
form_items (Make m) = make_items m
form_items (Tune channel) = spaced (decimal channel ∷ [])
form_items (Begin service) = spaced (service_word service ∷ [])
form_items Take = []
form_items Sent = []
form_items Held = []
form_items Cancel = []
form_items (Slot h) = heard_items h

-- a form that can be written: each of its numbers has at most seven digits
abbrev pub Writable : Form → Type 0
Writable (Make m) = SmallMake m
Writable (Tune channel) = Small channel
Writable (Begin service) = Unit {0}
Writable Take = Unit {0}
Writable Sent = Unit {0}
Writable Held = Unit {0}
Writable Cancel = Unit {0}
Writable (Slot h) = SmallHeard h

-- the line of a form
abbrev pub written : Form → List Item
written f = bracketed (form_word (form_name f)) (form_items f) ++ end ∷ []
