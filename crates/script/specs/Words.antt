-- The words of the language, and what each stands for.
use Rattle.std.specs.Prelude.{ℕ, Bool, cond, not, ◌&&◌, ◌||◌, List, [], ◌∷◌, length, Some, None, codes, Option, ◌==◌, nat_le, slice_index}
use Rattle.std.specs.Option.{option_map}
use Rattle.std.specs.Str.Parse.{digits_value}
use Rattle.std.specs.Str.{bytes_eq, all_ascii_digits}
use Rattle.signalling.specs.declared.content.FirstIdent.{FirstIdent}
use Rattle.signalling.specs.declared.content.FirstIdent.TheVariants.{Regi, Plain}
use Rattle.signalling.specs.declared.content.Function.{Function}
use Rattle.signalling.specs.declared.content.Function.TheVariants as function
use Rattle.signalling.specs.declared.content.ReplyKind.{ReplyKind}
use Rattle.signalling.specs.declared.content.ReplyKind.TheVariants as kind
use Rattle.parts.specs.declared.choice.AnyService.{AnyService}
use Rattle.parts.specs.declared.choice.AnyService.TheVariants as service
use Rattle.script.specs.declared.names.FormName.{FormName}
use Rattle.script.specs.declared.names.FormName.TheVariants as form
use Rattle.script.specs.declared.names.ContentName.{ContentName}
use Rattle.script.specs.declared.names.ContentName.TheVariants as content

-- the value beside a word in a table
abbrev pub named : {A : Type 0} → List (List ℕ × A) → List ℕ → Option A
named [] bs = None
named (row ∷ rows) bs = cond (bytes_eq bs row.0) (Some row.1) (named rows bs)

-- the services
abbrev pub service_words : List (List ℕ × AnyService)
service_words =
    (codes "rqs", service.Rqs) ∷ (codes "rqr", service.Rqr) ∷ (codes "rqe", service.Rqe) ∷ []

abbrev pub service_of : List ℕ → Option AnyService
service_of = named service_words

-- the Aloha functions
abbrev pub function_words : List (List ℕ × Function)
function_words =
    (codes "alh", function.Alh) ∷ (codes "alhs", function.Alhs) ∷ (codes "alhd", function.Alhd) ∷ (codes "alhe", function.Alhe) ∷ (codes "alhr", function.Alhr) ∷ (codes "alhx", function.Alhx) ∷ (codes "alhf", function.Alhf) ∷ (codes "unknown", function.Unknown) ∷ []

abbrev pub function_of : List ℕ → Option Function
function_of = named function_words

-- the kinds of acknowledgement
abbrev pub kind_words : List (List ℕ × ReplyKind)
kind_words =
    (codes "ack", kind.Ack) ∷ (codes "acki", kind.Acki) ∷ (codes "ackx", kind.Ackx) ∷ (codes "ackv", kind.Ackv) ∷ (codes "acke", kind.Acke) ∷ (codes "acko", kind.Acko) ∷ []

abbrev pub kind_of : List ℕ → Option ReplyKind
kind_of = named kind_words

-- the forms of a line
abbrev pub form_words : List (List ℕ × FormName)
form_words =
    (codes "make", form.Make) ∷ (codes "tune", form.Tune) ∷ (codes "begin", form.Begin) ∷ (codes "take", form.Take) ∷ (codes "sent", form.Sent) ∷ (codes "held", form.Held) ∷ (codes "cancel", form.Cancel) ∷ (codes "slot", form.Slot) ∷ []

abbrev pub form_of : List ℕ → Option FormName
form_of = named form_words

-- the contents of a slot
abbrev pub content_words : List (List ℕ × ContentName)
content_words =
    (codes "deaf", content.Deaf) ∷ (codes "data", content.Data) ∷ (codes "aloha", content.Aloha) ∷ (codes "reply", content.Reply) ∷ (codes "go", content.Go) ∷ (codes "ahy", content.Ahy) ∷ (codes "ahyq", content.Ahyq) ∷ (codes "head", content.Head) ∷ (codes "mark", content.Mark) ∷ (codes "bcast", content.Bcast) ∷ (codes "move", content.Move) ∷ (codes "other", content.Other) ∷ []

abbrev pub content_of : List ℕ → Option ContentName
content_of = named content_words

-- the word that is wanted, and no other
abbrev pub only : List ℕ → List ℕ → Option (Unit {0})
only name = named ((name, tt) ∷ [])

-- one to seven digits, and no needless zero in front
abbrev pub is_number : List ℕ → Bool
is_number bs = nat_le 1 (length bs) && (nat_le (length bs) 7 && (all_ascii_digits bs && (length bs == 1 || not (slice_index bs 0 == 48))))

-- the number that such digits write
abbrev pub number_in : List ℕ → Option ℕ
number_in bs = cond (is_number bs) (Some (digits_value 10 bs)) None

-- the registration dummy, or the number of an ident
abbrev pub first_of : List ℕ → Option FirstIdent
first_of bs = cond (bytes_eq bs (codes "regi")) (Some Regi) (option_map Plain (number_in bs))
