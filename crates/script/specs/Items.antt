-- A line as a list of items.
use Rattle.std.specs.Prelude.{ℕ, Bool, true, false, cond, List, [], ◌∷◌, ◌++◌, ◌==◌}

-- a bracket, a space, a run of other bytes, or the end of the line
pub data Item : Type 0 where
  opening : Item
  closing : Item
  space : Item
  word : List ℕ → Item
  end : Item

-- a byte is part of a word unless it is a bracket or a space
abbrev pub in_word : ℕ → Bool
in_word b = cond (b == 40) false (cond (b == 41) false (cond (b == 32) false true))

-- a word is a whole run: a byte joins the word before which it stands
abbrev pub joined : ℕ → List Item → List Item
joined b [] = word (b ∷ []) ∷ []
joined b (opening ∷ ts) = word (b ∷ []) ∷ opening ∷ ts
joined b (closing ∷ ts) = word (b ∷ []) ∷ closing ∷ ts
joined b (space ∷ ts) = word (b ∷ []) ∷ space ∷ ts
joined b (word bs ∷ ts) = word (b ∷ bs) ∷ ts
joined b (end ∷ ts) = word (b ∷ []) ∷ end ∷ ts

-- the items of a line that begins with this byte, before those of the rest
abbrev pub before : ℕ → List Item → List Item
before b ts = cond (b == 40) (opening ∷ ts) (cond (b == 41) (closing ∷ ts) (cond (b == 32) (space ∷ ts) (joined b ts)))

-- the items of a line; its end is the last
abbrev pub items : List ℕ → List Item
items [] = end ∷ []
items (b ∷ bs) = before b (items bs)

-- the bytes of some items
abbrev pub spell : List Item → List ℕ
spell [] = []
spell (opening ∷ ts) = 40 ∷ spell ts
spell (closing ∷ ts) = 41 ∷ spell ts
spell (space ∷ ts) = 32 ∷ spell ts
spell (word bs ∷ ts) = bs ++ spell ts
spell (end ∷ ts) = spell ts
