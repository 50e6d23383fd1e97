-- What an answer says of its line.
use Rattle.std.specs.Prelude.{◌≡◌, ℕ, ◌+◌, ◌<◌, ◌≤◌, List, [], ◌∷◌, ◌++◌, length, Ok, Err, Result}
use Rattle.script.specs.declared.fault.Fault.{Fault}
use Rattle.script.specs.declared.fault.Fault.TheVariants.{Malformed, OutOfTurn, LineTooLong, InputTooLong}
use Rattle.script.specs.declared.form.Form.{Form}
use Rattle.script.specs.Items.{Item, items, spell}
use Rattle.script.specs.Judged.{reading}
use Rattle.script.specs.Writing.{Writable, written}

-- the bytes of a form's line
abbrev pub line_of : Form → List ℕ
line_of f = spell (written f)

-- these items begin the line of some form
pub record Begun (xs : List Item) : Type 0 where
  pub form : Form
  pub writable : Writable form
  pub rest : List Item
  pub whole : written form ≡ xs ++ rest

-- the leftmost fault: the items before the place begin some line, and with the item there they begin none
pub record FaultAt (line : List ℕ) (place : ℕ) : Type 0 where
  pub before : List Item
  pub item : Item
  pub behind : List Item
  pub split : items line ≡ before ++ item ∷ behind
  pub counted : place ≡ length (spell before) + 1
  pub begun : Begun before
  pub barred : Begun (before ++ item ∷ []) → ⊥

-- the answer is the form whose line it is, or the place of the leftmost fault, or that the line is too long
abbrev pub ReadAs : List ℕ → Result Form Fault → Type 0
ReadAs line (Ok f) = (length line ≤ 200) × Writable f × (line ≡ line_of f)
ReadAs line (Err (Malformed place)) = (length line ≤ 200) × FaultAt line place
ReadAs line (Err OutOfTurn) = ⊥
ReadAs line (Err LineTooLong) = 200 < length line
ReadAs line (Err InputTooLong) = ⊥

-- the answer is the one that the grammar gives; it is right, and no other is: a line is read as a form exactly where it is that form's line
pub record ReadFrom (line : List ℕ) (r : Result Form Fault) : Type 0 where
  pub is : r ≡ reading line
  pub right : ReadAs line r
  pub only : (s : Result Form Fault) → ReadAs line s → s ≡ r
