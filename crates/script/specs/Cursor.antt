-- A reader's place in its line, and what it means that the reader follows a way to read.
use Rattle.std.specs.Prelude.{◌≡◌, ℕ, ◌+◌, List, [], ◌∷◌, length, drop, Ok, Err, Result}
use Rattle.script.specs.declared.fault.Fault.{Fault}
use Rattle.script.specs.declared.fault.Fault.TheVariants.{Malformed}
use Rattle.script.specs.declared.reader.Reader.{Reader}
use Rattle.script.specs.declared.reader.Item.{Item as Seen}
use Rattle.script.specs.declared.reader.Item.TheVariants as seen
use Rattle.script.specs.declared.reader.Sign.{Sign}
use Rattle.script.specs.declared.reader.Sign.TheVariants.{Open, Close, Space}
use Rattle.script.specs.Items.{Item, opening, closing, space, word, end, items}
use Rattle.script.specs.Reading.{Out, got, stuck, Reads, closes, opens, parts}

-- the bytes of a reader's line
abbrev pub line_of : Reader → List ℕ
line_of r = r.line.now

-- the items that are left to read
abbrev pub rest : Reader → List Item
rest r = items (drop r.pos (line_of r))

-- how many bytes of the line an item is
abbrev pub width : Seen → ℕ
width (seen.Sign sign) = 1
width (seen.Word bytes place) = length bytes.now
width seen.End = 0

-- the way to read a sign
abbrev pub passes : Sign → Reads (Unit {0})
passes Open = opens
passes Close = closes
passes Space = parts

-- the place that a word tells; another item tells none, and is taken to be where it is
abbrev pub place_in : Seen → ℕ → ℕ
place_in (seen.Sign sign) here = here
place_in (seen.Word bytes place) here = place
place_in seen.End here = here

-- the item that a sign is
abbrev pub item_of : Sign → Item
item_of Open = opening
item_of Close = closing
item_of Space = space

-- the items that begin with the one seen; none stand behind the end
abbrev pub ahead : Seen → List Item → List Item
ahead (seen.Sign sign) ts = item_of sign ∷ ts
ahead (seen.Word bytes place) ts = word bytes.now ∷ ts
ahead seen.End ts = end ∷ []

-- what a result says of reading, with the items that are left
abbrev pub outcome : {A : Type 0} → Result A Fault → List Item → Out A
outcome (Ok v) ts = got v ts
outcome (Err fault) ts = stuck ts

-- a fault is at the byte behind those that are read
abbrev pub Placed : {A : Type 0} → Result A Fault → ℕ → Type 0
Placed (Ok v) pos = Unit {0}
Placed (Err fault) pos = fault ≡ Malformed (pos + 1)

-- the reader, its line kept, goes from one place to another as this way to read does, and stays at a fault
pub record Follows {A : Type 0} (p : Reads A) (was : Reader) (is : Reader) (r : Result A Fault) : Type 0 where
  pub keeps : line_of is ≡ line_of was
  pub reads : p (rest was) ≡ outcome r (rest is)
  pub place : Placed r is.pos
