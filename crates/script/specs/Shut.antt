-- The inner forms of the language stay inside their brackets.
use Rattle.std.proofs.Common.{ℕ, zero, suc, [], ◌∷◌, codes}
use Rattle.script.specs.declared.names.ContentName.{ContentName}
use Rattle.script.specs.declared.names.ContentName.TheVariants.{Deaf, Data, Aloha, Reply, Go, Ahy, Ahyq, Head, Mark, Bcast, Move, Other}
use Rattle.script.specs.Script.{ahy_fields, ahyq_fields, aloha_fields, content_fields, content_within, data_fields, division_fields, drawing, draws_within, go_fields, head_fields, mask_within, move_fields, numbers, reply_fields, two}
use Rattle.script.specs.Words.{content_of, first_of, function_of, kind_of, number_in, only}
use Rattle.script.specs.Reading.{enclosed}
use Rattle.script.specs.Inward.{Inward, Shut, after-space-inward, enclosed-shut, field-inward, gives-inward, means-inward, then-inward}

two-inward : Inward two
unfolding two
two-inward = then-inward _ _ (field-inward number_in) (λ a. then-inward _ _ (field-inward number_in) (λ b. gives-inward _))

division-inward : Inward division_fields
unfolding division_fields
division-inward = then-inward _ _ two-inward (λ x. gives-inward _)

fields_inward : (name : ContentName) → Inward (content_fields name)
unfolding data_fields aloha_fields reply_fields go_fields ahy_fields ahyq_fields head_fields move_fields
fields_inward Deaf = gives-inward _
fields_inward Data = then-inward _ _ two-inward (λ x. gives-inward _)
fields_inward Aloha = then-inward _ _ (field-inward function_of) (λ fn. then-inward _ _ two-inward (λ x. then-inward _ _ division-inward (λ d. gives-inward _)))
fields_inward Reply =
    then-inward _ _ (field-inward kind_of) (λ kind. then-inward _ _ two-inward (λ x. then-inward _ _ (field-inward first_of) (λ first. then-inward _ _ (field-inward number_in) (λ to. gives-inward _))))
fields_inward Go = then-inward _ _ two-inward (λ x. then-inward _ _ two-inward (λ y. gives-inward _))
fields_inward Ahy = then-inward _ _ two-inward (λ x. gives-inward _)
fields_inward Ahyq = then-inward _ _ two-inward (λ x. gives-inward _)
fields_inward Head = then-inward _ _ (field-inward number_in) (λ to. gives-inward _)
fields_inward Mark = gives-inward _
fields_inward Bcast = gives-inward _
fields_inward Move = then-inward _ _ division-inward (λ x. then-inward _ _ (field-inward number_in) (λ channel. gives-inward _))
fields_inward Other = gives-inward _

numbers-inward : (k : ℕ) → Inward (numbers k)
unfolding numbers
numbers-inward zero = gives-inward []
numbers-inward (suc k) = after-space-inward [] _ (then-inward _ _ (field-inward number_in) (λ n. then-inward _ _ (numbers-inward k) (λ ns. gives-inward (n ∷ ns))))

drawing-inward : Inward drawing
unfolding drawing
drawing-inward = then-inward _ _ (numbers-inward 16) (λ ns. gives-inward _)

pub content-shut : Shut (enclosed content_within)
unfolding content_within
content-shut = enclosed-shut _ (then-inward _ _ (means-inward content_of) fields_inward)

pub mask-shut : Shut (enclosed mask_within)
unfolding mask_within
mask-shut = enclosed-shut _ (then-inward _ _ (means-inward (only (codes "mask"))) (λ _. then-inward _ _ two-inward (λ x. gives-inward _)))

pub draws-shut : Shut (enclosed draws_within)
unfolding draws_within
draws-shut = enclosed-shut _ (then-inward _ _ (means-inward (only (codes "draws"))) (λ _. drawing-inward))
