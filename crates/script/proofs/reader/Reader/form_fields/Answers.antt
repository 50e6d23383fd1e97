use Rattle.std.proofs.Common.{rules}
use Rattle.script.specs.declared.form.Form.TheVariants.{Make, Tune, Begin, Slot}
use Rattle.script.proofs.Follow.{makes}
use Rattle.script.proofs.reader.Reader.form_fields.Goals as goal

pub returns-in-Make : goal.returns-in-Make
returns-in-Make c = rw c.in-Make.is (makes Make (λ x y k. search rules) _ _ c.map.ensures.cases c.make_fields.ensures)

pub returns-in-Tune : goal.returns-in-Tune
returns-in-Tune c = rw c.in-Tune.is (makes Tune (λ x y k. search rules) _ _ c.map-in-Tune.ensures.cases c.field.ensures)

pub returns-in-Begin : goal.returns-in-Begin
returns-in-Begin c = rw c.in-Begin.is (makes Begin (λ x y k. search rules) _ _ c.map-in-Begin.ensures.cases c.field-in-Begin.ensures)

pub returns-in-Slot : goal.returns-in-Slot
returns-in-Slot c = rw c.in-Slot.is (makes Slot (λ x y k. search rules) _ _ c.map-in-Slot.ensures.cases c.heard_fields.ensures)
