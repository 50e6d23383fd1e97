-- Reading item by item: what is read so far and what is left, or the items from the first on that does not fit.
use Rattle.std.specs.Prelude.{ℕ, List, [], ◌∷◌, Some, None, Option}
use Rattle.script.specs.Items.{Item, opening, closing, space, word, end}

-- a value and the items behind it, or the items from the faulty one on
pub data Out (A : Type 0) : Type 0 where
  got : A → List Item → Out A
  stuck : List Item → Out A

-- a way to read
abbrev pub Reads : Type 0 → Type 0
Reads A = List Item → Out A

-- goes on with what is left
abbrev pub bind : {A B : Type 0} → Out A → (A → Reads B) → Out B
bind (got v ts) q = q v ts
bind (stuck ts) q = stuck ts

-- reads nothing
abbrev pub gives : {A : Type 0} → A → Reads A
gives v ts = got v ts

-- first the one, then the other, which may depend on what was read
unfoldable pub then : {A B : Type 0} → Reads A → (A → Reads B) → Reads B
then p q ts = bind (p ts) q

-- an opening bracket
abbrev pub opens : Reads (Unit {0})
opens [] = stuck []
opens (opening ∷ ts) = got tt ts
opens (closing ∷ ts) = stuck (closing ∷ ts)
opens (space ∷ ts) = stuck (space ∷ ts)
opens (word bs ∷ ts) = stuck (word bs ∷ ts)
opens (end ∷ ts) = stuck (end ∷ ts)

-- a closing bracket
abbrev pub closes : Reads (Unit {0})
closes [] = stuck []
closes (opening ∷ ts) = stuck (opening ∷ ts)
closes (closing ∷ ts) = got tt ts
closes (space ∷ ts) = stuck (space ∷ ts)
closes (word bs ∷ ts) = stuck (word bs ∷ ts)
closes (end ∷ ts) = stuck (end ∷ ts)

-- a space
abbrev pub parts : Reads (Unit {0})
parts [] = stuck []
parts (opening ∷ ts) = stuck (opening ∷ ts)
parts (closing ∷ ts) = stuck (closing ∷ ts)
parts (space ∷ ts) = got tt ts
parts (word bs ∷ ts) = stuck (word bs ∷ ts)
parts (end ∷ ts) = stuck (end ∷ ts)

-- the end of the line
abbrev pub ends : Reads (Unit {0})
ends [] = stuck []
ends (opening ∷ ts) = stuck (opening ∷ ts)
ends (closing ∷ ts) = stuck (closing ∷ ts)
ends (space ∷ ts) = stuck (space ∷ ts)
ends (word bs ∷ ts) = stuck (word bs ∷ ts)
ends (end ∷ ts) = got tt ts

-- the end of the line, which is not passed
abbrev pub at_end : Reads (Unit {0})
at_end [] = stuck []
at_end (opening ∷ ts) = stuck (opening ∷ ts)
at_end (closing ∷ ts) = stuck (closing ∷ ts)
at_end (space ∷ ts) = stuck (space ∷ ts)
at_end (word bs ∷ ts) = stuck (word bs ∷ ts)
at_end (end ∷ ts) = got tt (end ∷ ts)

-- the word that a value was looked up for is read if there is such a value
abbrev pub known : {A : Type 0} → Option A → List ℕ → Reads A
known (Some v) bs ts = got v ts
known None bs ts = stuck (word bs ∷ ts)

-- a word that stands for a value
abbrev pub means : {A : Type 0} → (List ℕ → Option A) → Reads A
means of [] = stuck []
means of (opening ∷ ts) = stuck (opening ∷ ts)
means of (closing ∷ ts) = stuck (closing ∷ ts)
means of (space ∷ ts) = stuck (space ∷ ts)
means of (word bs ∷ ts) = known (of bs) bs ts
means of (end ∷ ts) = stuck (end ∷ ts)

-- a space and such a word
unfoldable pub field : {A : Type 0} → (List ℕ → Option A) → Reads A
field of = then parts (λ _. means of)

-- a form between brackets
unfoldable pub enclosed : {A : Type 0} → Reads A → Reads A
enclosed p = then opens (λ _. then p (λ v. then closes (λ _. gives v)))

-- a space and such a form
unfoldable pub enclosed_field : {A : Type 0} → Reads A → Reads A
enclosed_field p = then parts (λ _. enclosed p)

-- nothing where a bracket opens, and else something
abbrev pub unless_open : {A : Type 0} → A → Reads A → Reads A
unless_open none p [] = p []
unless_open none p (opening ∷ ts) = got none (opening ∷ ts)
unless_open none p (closing ∷ ts) = p (closing ∷ ts)
unless_open none p (space ∷ ts) = p (space ∷ ts)
unless_open none p (word bs ∷ ts) = p (word bs ∷ ts)
unless_open none p (end ∷ ts) = p (end ∷ ts)

-- something where a space stands, and else nothing
abbrev pub after_space : {A : Type 0} → A → Reads A → Reads A
after_space none p [] = got none []
after_space none p (opening ∷ ts) = got none (opening ∷ ts)
after_space none p (closing ∷ ts) = got none (closing ∷ ts)
after_space none p (space ∷ ts) = p (space ∷ ts)
after_space none p (word bs ∷ ts) = got none (word bs ∷ ts)
after_space none p (end ∷ ts) = got none (end ∷ ts)
