-- What a form does to the set on the bench, and what it is answered.
use Rattle.std.specs.Prelude.{ℕ, Some, None, Ok, Err, Option, Result}
use Rattle.signalling.specs.declared.refusal.Refusal.{Refusal}
use Rattle.parts.specs.declared.choice.AnyService.{AnyService}
use Rattle.parts.specs.declared.few_numbers.FewNumbers.{FewNumbers}
use Rattle.parts.specs.declared.list_source.ListSource.{ListSource}
use Rattle.parts.specs.declared.plan.MaskPlan.{MaskPlan}
use Rattle.parts.specs.Lists.{list_ready, list_drawn, list_from}
use Rattle.parts.specs.Numbers.{few_items}
use Rattle.parts.specs.Plans.{mask_accepts}
use Rattle.parts.specs.Services.{choice_invited, choice_emergency, choice_verdict}
use Rattle.rules.specs.declared.request.Condition.{Condition}
use Rattle.rules.specs.declared.request.End.{End}
use Rattle.rules.specs.declared.request.Told.{Told}
use Rattle.rules.specs.Calls.{tune_answer, tuned, begin_answer, begun, take_answer, taken, back_answer, sent_back, held_back, cancel_answer, cancelled, slot_answer, slotted}
use Rattle.rules.specs.Meanings.{Meaning, meaning}
use Rattle.access.specs.declared.permit.Kept.{Kept}
use Rattle.access.specs.declared.set.Set.{Set}
use Rattle.access.specs.declared.set.NotMade.{NotMade}
use Rattle.access.specs.Sets.{in_condition, make_answer}
use Rattle.script.specs.declared.fault.Fault.{Fault}
use Rattle.script.specs.declared.fault.Fault.TheVariants.{OutOfTurn}
use Rattle.script.specs.declared.form.Form.{Form}
use Rattle.script.specs.declared.form.Form.TheVariants as forms
use Rattle.script.specs.declared.form.MakeForm.{MakeForm}
use Rattle.printing.specs.declared.answer.Answer.{Answer}
use Rattle.printing.specs.declared.answer.Answer.TheVariants.{Done, Empty, Refused, Bad}
use Rattle.printing.specs.declared.answer.Answer.TheVariants as answers

-- the set of a script: it draws from a list, chooses among three services and goes by a mask
abbrev pub ScriptSet : Type 0
ScriptSet = Set (ListSource FewNumbers) AnyService MaskPlan

-- what the parts of such a set mean
abbrev pub script_meaning : MaskPlan → Meaning (ListSource FewNumbers) AnyService
script_meaning plan = meaning (λ s. list_ready (few_items s.list) s.used) (λ s _. list_drawn (few_items s.list) s) choice_invited choice_emergency choice_verdict (mask_accepts plan)

-- a set on the bench, and the address of the permit that the bench holds for it
pub record Manning : Type 0 where
  pub set : ScriptSet
  pub permit : Option ℕ

abbrev pub manning : ScriptSet → Option ℕ → Manning
manning s p = record { set = s; permit = p }

-- the bench's set in another condition, with the same permit
abbrev pub moved : Manning → Condition (ListSource FewNumbers) AnyService → Manning
moved b c = manning (in_condition b.set c) b.permit

-- what a call told, or its refusal, which is an answer as well
abbrev pub told : Result Answer Refusal → Answer
told (Ok answer) = answer
told (Err r) = Refused r

-- an end that a call answers, or its refusal
abbrev pub done_or : Result (Option End) Refusal → Answer
done_or (Ok e) = Done e
done_or (Err r) = Refused r

abbrev pub end_or : Result End Refusal → Answer
end_or (Ok e) = Done (Some e)
end_or (Err r) = Refused r

-- a call that answers nothing but that it is done, or its refusal
abbrev pub plain_or : Result (Unit {0}) Refusal → Answer
plain_or (Ok x) = Done None
plain_or (Err r) = Refused r

-- a permit that was brought back, or its refusal
abbrev pub put_answer : Result (Unit {0}) Kept → Answer
put_answer (Ok x) = Done None
put_answer (Err k) = Refused k.refusal

-- what a heard slot is answered
abbrev pub heard_or : Result Told Refusal → Answer
heard_or (Ok t) = answers.Heard t
heard_or (Err r) = Refused r

-- a permit that was handed over, or none
abbrev pub taken_or : Option ℕ → Answer
taken_or None = Empty
taken_or (Some a) = Done None

-- the permit after a take: the one handed over, or the one that was held
abbrev pub kept_or : Option ℕ → Option ℕ → Option ℕ
kept_or None old = old
kept_or (Some a) old = Some a

-- the permit after a sent or held: gone where it was taken back
abbrev pub back_or : Result (Unit {0}) Refusal → Option ℕ → Option ℕ
back_or (Ok x) old = None
back_or (Err r) old = old

-- what a form other than make is answered
abbrev pub call_answer : Manning → Form → Answer
call_answer b (forms.Make x) = Bad OutOfTurn
call_answer b (forms.Tune ch) = done_or (tune_answer b.set.condition ch)
call_answer b (forms.Begin s) = plain_or (begin_answer b.set.condition)
call_answer b forms.Take = taken_or (take_answer b.set.card b.set.condition)
call_answer b forms.Sent = plain_or (back_answer b.set.card b.set.condition b.permit)
call_answer b forms.Held = plain_or (back_answer b.set.card b.set.condition b.permit)
call_answer b forms.Cancel = end_or (cancel_answer b.set.condition)
call_answer b (forms.Slot h) = heard_or (slot_answer (script_meaning b.set.plan) b.set.card b.set.condition h)

-- the bench after such a form
abbrev pub call_after : Manning → Form → Manning
call_after b (forms.Make x) = b
call_after b (forms.Tune ch) = moved b (tuned b.set.condition ch)
call_after b (forms.Begin s) = moved b (begun b.set.condition s)
call_after b forms.Take = manning (in_condition b.set (taken b.set.condition)) (kept_or (take_answer b.set.card b.set.condition) b.permit)
call_after b forms.Sent = manning (in_condition b.set (sent_back b.set.card b.set.condition b.permit)) (back_or (back_answer b.set.card b.set.condition b.permit) b.permit)
call_after b forms.Held = manning (in_condition b.set (held_back b.set.card b.set.condition b.permit)) (back_or (back_answer b.set.card b.set.condition b.permit) b.permit)
call_after b forms.Cancel = moved b (cancelled b.set.condition)
call_after b (forms.Slot h) = moved b (slotted (script_meaning b.set.plan) b.set.card b.set.condition h)

-- the set that a make line asks for, or its refusal
abbrev pub made_by : MakeForm → Result ScriptSet (NotMade (ListSource FewNumbers) MaskPlan)
made_by f = make_answer f.card f.channel (list_from f.draws) f.plan

-- a bare bench gets a set, or a refusal
abbrev pub made_or : Result ScriptSet (NotMade (ListSource FewNumbers) MaskPlan) → Answer
made_or (Ok s) = Done None
made_or (Err x) = Refused x.refusal

abbrev pub manned_by : Result ScriptSet (NotMade (ListSource FewNumbers) MaskPlan) → Option Manning
manned_by (Ok s) = Some (manning s None)
manned_by (Err x) = None

-- a form on a bare bench: only make is in turn
abbrev pub bare_answer : Form → Answer
bare_answer (forms.Make f) = made_or (made_by f)
bare_answer (forms.Tune ch) = Bad OutOfTurn
bare_answer (forms.Begin s) = Bad OutOfTurn
bare_answer forms.Take = Bad OutOfTurn
bare_answer forms.Sent = Bad OutOfTurn
bare_answer forms.Held = Bad OutOfTurn
bare_answer forms.Cancel = Bad OutOfTurn
bare_answer (forms.Slot h) = Bad OutOfTurn

abbrev pub bare_after : Form → Option Manning
bare_after (forms.Make f) = manned_by (made_by f)
bare_after (forms.Tune ch) = None
bare_after (forms.Begin s) = None
bare_after forms.Take = None
bare_after forms.Sent = None
bare_after forms.Held = None
bare_after forms.Cancel = None
bare_after (forms.Slot h) = None

-- a form on any bench
abbrev pub form_answer : Option Manning → Form → Answer
form_answer None form = bare_answer form
form_answer (Some b) form = call_answer b form

abbrev pub form_after : Option Manning → Form → Option Manning
form_after None form = bare_after form
form_after (Some b) form = Some (call_after b form)

-- a line that was read, or that is faulty
abbrev pub line_answer : Option Manning → Result Form Fault → Answer
line_answer b (Ok form) = form_answer b form
line_answer b (Err fault) = Bad fault

abbrev pub line_after : Option Manning → Result Form Fault → Option Manning
line_after b (Ok form) = form_after b form
line_after b (Err fault) = b
