-- A content is read exactly where it is written.
use Rattle.std.proofs.Common.{◌≡◌, ℕ, List, [], ◌∷◌, ◌++◌, Some, None, decimal, Option, refl, ap, ◌∙◌, subst, append_assoc}
use Rattle.signalling.specs.declared.content.Content.{Content}
use Rattle.signalling.specs.declared.content.Content.TheVariants.{Deaf, Data, Aloha, Reply, Go, Ahy, Ahyq, Head, Mark, Bcast, Move, Other}
use Rattle.signalling.specs.Division.{division}
use Rattle.script.specs.declared.names.ContentName.{ContentName}
use Rattle.script.specs.declared.names.ContentName.TheVariants as called
use Rattle.script.specs.Items.{Item, opening, closing, space, word, end}
use Rattle.script.specs.Reading.{got, gives, bind, then, field}
use Rattle.script.specs.Words.{number_in, function_of, kind_of, first_of}
use Rattle.script.specs.Writing.{Small, SmallFirst, function_word, kind_word, first_word, spaced, content_name, field_words, SmallContent, content_items, code_items, SmallCode, heard_items, SmallHeard}
use Rattle.script.specs.Script.{two, data_fields, division_fields, aloha_fields, reply_fields, go_fields, ahy_fields, ahyq_fields, head_fields, move_fields, content_fields, content_within, content, some_code, code, heard_fields}
use Rattle.script.proofs.Told.{Any, tells-number, tells-function, tells-kind, tells_first, tells-content}
use Rattle.script.proofs.Spelt.{From, Spelt, from_then, from_gives, goes_on, spelt-enclosed, spelt-named, spelt-parts, spelt-means, spelt-field}

-- the fields of a number, an Aloha function, a kind of acknowledgement and a first ident
pub number : Spelt (field number_in) (λ n. space ∷ word (decimal n) ∷ []) Small
number = spelt-field tells-number

function : Spelt (field function_of) (λ f. space ∷ word (function_word f) ∷ []) Any
function = spelt-field tells-function

kind : Spelt (field kind_of) (λ k. space ∷ word (kind_word k) ∷ []) Any
kind = spelt-field tells-kind

first : Spelt (field first_of) (λ f. space ∷ word (first_word f) ∷ []) SmallFirst
first = spelt-field tells_first

-- two numbers
pub pair : Spelt two (λ x. spaced (decimal x.0 ∷ decimal x.1 ∷ [])) (λ x. Small x.0 × Small x.1)
unfolding two
pair =
    record {
      sounds = from_then number.sounds (λ a g. from_then number.sounds (λ b h. from_gives (a, b) refl (g, h)));
      complete = λ x r g. goes_on number x.0 g.0 _ _ _ (goes_on number x.1 g.1 _ _ _ refl);
    }

-- a division
pub parted : Spelt division_fields (λ d. spaced (decimal d.qualifier ∷ decimal d.address ∷ [])) (λ d. Small d.qualifier × Small d.address)
unfolding division_fields
parted =
    record {
      sounds = from_then pair.sounds (λ x g. from_gives (division x.0 x.1) refl g);
      complete = λ d r g. goes_on pair (d.qualifier, d.address) g _ _ _ refl;
    }

abbrev Named : ContentName → Content → Type 0
Named name x = (content_name x ≡ name) × SmallContent x

from_fields : (name : ContentName) → From (content_fields name) (λ x. spaced (field_words x)) (Named name) []
unfolding data_fields aloha_fields reply_fields go_fields ahy_fields ahyq_fields head_fields move_fields
from_fields called.Deaf = from_gives Deaf refl (refl, tt)
from_fields called.Data = from_then pair.sounds (λ x g. from_gives (Data x.0 x.1) refl (refl, g))
from_fields called.Aloha =
    from_then function.sounds (λ f _. from_then pair.sounds (λ x g. from_then parted.sounds (λ d h. from_gives (Aloha f x.0 x.1 d) refl (refl, (g.0, g.1, h.0, h.1)))))
from_fields called.Reply =
    from_then kind.sounds (λ k _. from_then pair.sounds (λ x g. from_then first.sounds (λ f gf. from_then number.sounds (λ to gt. from_gives (Reply k x.0 x.1 f to) refl (refl, (g.0, g.1, gf, gt))))))
from_fields called.Go = from_then pair.sounds (λ x g. from_then pair.sounds (λ y h. from_gives (Go x.0 x.1 y.0 y.1) refl (refl, (g.0, g.1, h.0, h.1))))
from_fields called.Ahy = from_then pair.sounds (λ x g. from_gives (Ahy x.0 x.1) refl (refl, g))
from_fields called.Ahyq = from_then pair.sounds (λ x g. from_gives (Ahyq x.0 x.1) refl (refl, g))
from_fields called.Head = from_then number.sounds (λ to g. from_gives (Head to) refl (refl, g))
from_fields called.Mark = from_gives Mark refl (refl, tt)
from_fields called.Bcast = from_gives Bcast refl (refl, tt)
from_fields called.Move = from_then parted.sounds (λ d g. from_then number.sounds (λ n h. from_gives (Move d n) refl (refl, (g.0, g.1, h))))
from_fields called.Other = from_gives Other refl (refl, tt)

fields_complete : (x : Content) (r : List Item) → SmallContent x → content_fields (content_name x) (spaced (field_words x) ++ r) ≡ got x r
unfolding data_fields aloha_fields reply_fields go_fields ahy_fields ahyq_fields head_fields move_fields
fields_complete Deaf r g = refl
fields_complete (Data a b) r g = goes_on pair (a, b) g _ _ _ refl
fields_complete (Aloha f a b d) r g = goes_on function f tt _ _ _ (goes_on pair (a, b) (g.0, g.1) _ _ _ (goes_on parted d (g.2, g.3) _ _ _ refl))
fields_complete (Reply k a b f to) r g = goes_on kind k tt _ _ _ (goes_on pair (a, b) (g.0, g.1) _ _ _ (goes_on first f g.2 _ _ _ (goes_on number to g.3 _ _ _ refl)))
fields_complete (Go a b c d) r g = goes_on pair (a, b) (g.0, g.1) _ _ _ (goes_on pair (c, d) (g.2, g.3) _ _ _ refl)
fields_complete (Ahy a b) r g = goes_on pair (a, b) g _ _ _ refl
fields_complete (Ahyq a b) r g = goes_on pair (a, b) g _ _ _ refl
fields_complete (Head to) r g = goes_on number to g _ _ _ refl
fields_complete Mark r g = refl
fields_complete Bcast r g = refl
fields_complete (Move d c) r g = goes_on parted d (g.0, g.1) _ _ _ (goes_on number c g.2 _ _ _ refl)
fields_complete Other r g = refl

spelt_fields : (name : ContentName) → Spelt (content_fields name) (λ x. spaced (field_words x)) (Named name)
spelt_fields name =
    record {
      sounds = from_fields name;
      complete = λ x r g. subst (λ n. content_fields n (spaced (field_words x) ++ r) ≡ got x r) g.0 (fields_complete x r g.1);
    }

pub spelt-content : Spelt content content_items SmallContent
unfolding content_within
spelt-content = spelt-enclosed (spelt-named {name_of = content_name} tells-content spelt_fields)

from-code : From code code_items SmallCode []
unfolding code
from-code = record { whole = go }
  where
    one : From some_code code_items SmallCode []
    one = from_then (spelt-means tells-number).sounds (λ n g. from_then spelt-parts.sounds (λ _ _. from_gives (Some n) refl g))

    none : From (gives None) code_items SmallCode []
    none = from_gives None refl tt

    go : (ts : List Item) (c : Option ℕ) (r : List Item) → code ts ≡ got c r → (ts ≡ code_items c ++ r) × SmallCode c
    go [] = one.whole []
    go (opening ∷ ts) = none.whole (opening ∷ ts)
    go (closing ∷ ts) = one.whole (closing ∷ ts)
    go (space ∷ ts) = one.whole (space ∷ ts)
    go (word bs ∷ ts) = one.whole (word bs ∷ ts)
    go (end ∷ ts) = one.whole (end ∷ ts)

-- a code is read where a bracket opens behind it
code-complete : (c : Option ℕ) (r : List Item) → SmallCode c → code (code_items c ++ (opening ∷ r)) ≡ got c (opening ∷ r)
unfolding code
code-complete None r g = refl
code-complete (Some n) r g = goes_on (spelt-means tells-number) n g _ _ _ (goes_on spelt-parts tt tt _ _ _ refl)

heard_complete : (c : Option ℕ) (x : Content) (r : List Item) → SmallCode c → SmallContent x → heard_fields (heard_items (record { code = c; content = x }) ++ r) ≡ got (record { code = c; content = x }) r
unfolding heard_fields then
heard_complete c x r g h =
    ap (λ us. heard_fields (space ∷ us)) (append_assoc (code_items c) (content_items x) r)
    ∙ ap (λ o. bind o (λ c. then content (λ y. gives (record { code = c; content = y })))) (code-complete c _ g)
    ∙ goes_on spelt-content x h _ _ _ refl

pub spelt_heard : Spelt heard_fields heard_items SmallHeard
unfolding heard_fields
spelt_heard =
    record {
      sounds = from_then spelt-parts.sounds (λ _ _. from_then from-code (λ c g. from_then spelt-content.sounds (λ x h. from_gives (record { code = c; content = x }) refl (g, h))));
      complete = λ h r g. heard_complete h.code h.content r g.0 g.1;
    }
