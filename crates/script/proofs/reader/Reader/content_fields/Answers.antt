use Rattle.std.proofs.Common.{rules}
use Rattle.signalling.specs.declared.content.Content.TheVariants.{Data, Ahy, Ahyq, Head}
use Rattle.script.specs.Script.{data_fields, ahy_fields, ahyq_fields, head_fields}
use Rattle.script.proofs.Follow.{makes}
use Rattle.script.proofs.reader.Reader.content_fields.Goals as goal

pub returns-in-Data : goal.returns-in-Data
unfolding data_fields
returns-in-Data c = rw c.in-Data.is (makes (λ x. Data x.0 x.1) (λ x y k. search rules) _ _ c.map.ensures.cases c.two.ensures)

pub returns-in-Ahy : goal.returns-in-Ahy
unfolding ahy_fields
returns-in-Ahy c = rw c.in-Ahy.is (makes (λ x. Ahy x.0 x.1) (λ x y k. search rules) _ _ c.map-in-Ahy.ensures.cases c.two-in-Ahy.ensures)

pub returns-in-Ahyq : goal.returns-in-Ahyq
unfolding ahyq_fields
returns-in-Ahyq c = rw c.in-Ahyq.is (makes (λ x. Ahyq x.0 x.1) (λ x y k. search rules) _ _ c.map-in-Ahyq.ensures.cases c.two-in-Ahyq.ensures)

pub returns-in-Head : goal.returns-in-Head
unfolding head_fields
returns-in-Head c = rw c.in-Head.is (makes Head (λ x y k. search rules) _ _ c.map-in-Head.ensures.cases c.field.ensures)
