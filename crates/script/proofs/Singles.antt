-- The readers of one item keep to the laws of readers.
use Rattle.std.proofs.Common.{◌≡◌, ℕ, List, [], ◌∷◌, Some, None, Option, refl}
use Rattle.script.specs.Items.{Item, opening, closing, space, word, end}
use Rattle.script.specs.Reading.{opens, closes, parts, ends, known, means, field}
use Rattle.script.proofs.Lawful.{Lawful, taken, one, lawful-one, lawful_like, lawful-bind}

-- what a single item stands for
abbrev pub as_opening : Item → Option (Unit {0})
as_opening opening = Some tt
as_opening closing = None
as_opening space = None
as_opening (word bs) = None
as_opening end = None

abbrev pub as_closing : Item → Option (Unit {0})
as_closing opening = None
as_closing closing = Some tt
as_closing space = None
as_closing (word bs) = None
as_closing end = None

abbrev pub as_space : Item → Option (Unit {0})
as_space opening = None
as_space closing = None
as_space space = Some tt
as_space (word bs) = None
as_space end = None

abbrev pub as_end : Item → Option (Unit {0})
as_end opening = None
as_end closing = None
as_end space = None
as_end (word bs) = None
as_end end = Some tt

abbrev pub as_word : {A : Type 0} → (List ℕ → Option A) → Item → Option A
as_word of opening = None
as_word of closing = None
as_word of space = None
as_word of (word bs) = of bs
as_word of end = None

pub opens_one : (ts : List Item) → opens ts ≡ one as_opening ts
opens_one [] = refl
opens_one (opening ∷ ts) = refl
opens_one (closing ∷ ts) = refl
opens_one (space ∷ ts) = refl
opens_one (word bs ∷ ts) = refl
opens_one (end ∷ ts) = refl

pub closes-one : (ts : List Item) → closes ts ≡ one as_closing ts
closes-one [] = refl
closes-one (opening ∷ ts) = refl
closes-one (closing ∷ ts) = refl
closes-one (space ∷ ts) = refl
closes-one (word bs ∷ ts) = refl
closes-one (end ∷ ts) = refl

pub parts-one : (ts : List Item) → parts ts ≡ one as_space ts
parts-one [] = refl
parts-one (opening ∷ ts) = refl
parts-one (closing ∷ ts) = refl
parts-one (space ∷ ts) = refl
parts-one (word bs ∷ ts) = refl
parts-one (end ∷ ts) = refl

pub ends-one : (ts : List Item) → ends ts ≡ one as_end ts
ends-one [] = refl
ends-one (opening ∷ ts) = refl
ends-one (closing ∷ ts) = refl
ends-one (space ∷ ts) = refl
ends-one (word bs ∷ ts) = refl
ends-one (end ∷ ts) = refl

known-taken : {A : Type 0} (o : Option A) (bs : List ℕ) (ts : List Item) → known o bs ts ≡ taken o (word bs) ts
known-taken (Some a) bs ts = refl
known-taken None bs ts = refl

pub means-one : {A : Type 0} (of : List ℕ → Option A) (ts : List Item) → means of ts ≡ one (as_word of) ts
means-one of [] = refl
means-one of (opening ∷ ts) = refl
means-one of (closing ∷ ts) = refl
means-one of (space ∷ ts) = refl
means-one of (word bs ∷ ts) = known-taken (of bs) bs ts
means-one of (end ∷ ts) = refl

pub lawful-opens : Lawful opens
lawful-opens = lawful_like opens_one (lawful-one as_opening opening tt refl)

pub lawful-closes : Lawful closes
lawful-closes = lawful_like closes-one (lawful-one as_closing closing tt refl)

pub lawful-parts : Lawful parts
lawful-parts = lawful_like parts-one (lawful-one as_space space tt refl)

pub lawful-ends : Lawful ends
lawful-ends = lawful_like ends-one (lawful-one as_end end tt refl)

-- some word has to stand for something
pub lawful-means : {A : Type 0} (of : List ℕ → Option A) (bs : List ℕ) (a : A) → of bs ≡ Some a → Lawful (means of)
lawful-means of bs a e = lawful_like (means-one of) (lawful-one (as_word of) (word bs) a e)

pub lawful-field : {A : Type 0} (of : List ℕ → Option A) (bs : List ℕ) (a : A) → of bs ≡ Some a → Lawful (field of)
unfolding field
lawful-field of bs a e = lawful-bind lawful-parts (λ _. lawful-means of bs a e)
