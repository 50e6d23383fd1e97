-- A line is read as a form exactly where it is that form's line.
use Rattle.std.proofs.Common.{◌≡◌, List, [], ◌∷◌, ◌++◌, codes, decimal, sym, refl, ap, ◌∙◌, subst, append_assoc}
use Rattle.script.specs.declared.form.Form.{Form}
use Rattle.script.specs.declared.form.Form.TheVariants.{Make, Tune, Begin, Take, Sent, Held, Cancel, Slot}
use Rattle.script.specs.declared.names.FormName.{FormName}
use Rattle.script.specs.declared.names.FormName.TheVariants as called
use Rattle.script.specs.Items.{Item, space, word, end}
use Rattle.script.specs.Reading.{got, enclosed_field, field}
use Rattle.script.specs.Words.{service_of}
use Rattle.script.specs.Writing.{spaced, Small, service_word, form_word, bracketed, draws_items, mask_items, make_items, SmallDraws, SmallMake, form_name, form_items, Writable, written}
use Rattle.script.specs.Script.{mask, mask_within, make_fields, making, form_fields, form, line}
use Rattle.script.proofs.Told.{Any, tells-service, tells-only, tells-form}
use Rattle.script.proofs.Spelt.{From, Spelt, from_last, from_then, from_gives, goes_on, spelt-enclosed, spelt-named, spelt-parts, spelt-ends, spelt-means, spelt-field}
use Rattle.script.proofs.ContentSpelt.{number, pair, spelt_heard}
use Rattle.script.proofs.DrawsSpelt.{made, sixteen-few, spelt-draws}

service : Spelt (field service_of) (λ s. space ∷ word (service_word s) ∷ []) Any
service = spelt-field tells-service

spelt-mask : Spelt mask (λ m. space ∷ mask_items m) (λ m. Small m.mask × Small m.value)
unfolding enclosed_field mask_within
spelt-mask =
    let inner : Spelt mask_within (λ m. word (codes "mask") ∷ spaced (decimal m.mask ∷ decimal m.value ∷ [])) (λ m. Small m.mask × Small m.value) =
    record {
      sounds = from_then (spelt-means (tells-only (codes "mask"))).sounds (λ _ _. from_then pair.sounds (λ x g. from_gives (record { mask = x.0; value = x.1 }) refl g));
      complete = λ m r g. goes_on (spelt-means (tells-only (codes "mask"))) tt tt _ _ _ (goes_on pair (m.mask, m.value) g _ _ _ refl);
    } in
    let form = spelt-enclosed inner in
    record { sounds = from_then spelt-parts.sounds (λ _ _. from_last form.sounds); complete = λ m r g. goes_on spelt-parts tt tt _ _ _ (form.complete m r g) }

spelt_make : Spelt make_fields make_items SmallMake
unfolding make_fields
spelt_make =
    record {
      sounds =
          from_then pair.sounds (λ x gx. from_then pair.sounds (λ y gy. from_then pair.sounds (λ z gz. from_then number.sounds (λ w gw. from_then spelt-mask.sounds (λ m gm. from_then spelt-draws.sounds (λ d gd.
          let same = sixteen-few d gd.1 in
          from_gives (making x y z w m d) (ap (λ e. spaced (decimal x.0 ∷ decimal x.1 ∷ decimal y.0 ∷ decimal y.1 ∷ decimal z.0 ∷ decimal z.1 ∷ decimal w ∷ []) ++ (space ∷ (mask_items m ++ (space ∷ draws_items e)))) same)
          (record { address = gx.0; channel = gx.1; nr = gy.0; tc = gy.1; ts = gz.0; tj = gz.1; nw = gw; mask = gm.0; its = gm.1; draws = subst SmallDraws (sym same) gd.0 })))))));
      complete = λ m r g.
          goes_on pair (m.card.address, m.channel) (g.address, g.channel) _ _ _ (goes_on pair (m.card.nr, m.card.tc) (g.nr, g.tc) _ _ _ (goes_on pair (m.card.ts, m.card.tj) (g.ts, g.tj) _ _ _ (goes_on number m.card.nw g.nw _ _ _
          (goes_on spelt-mask m.plan (g.mask, g.its) _ _ _ (goes_on spelt-draws m.draws (g.draws, m.few) _ _ _ (ap (λ x. got x r) (made m)))))));
    }

abbrev Named : FormName → Form → Type 0
Named name f = (form_name f ≡ name) × Writable f

from_fields : (name : FormName) → From (form_fields name) form_items (Named name) []
from_fields called.Make = from_then spelt_make.sounds (λ m g. from_gives (Make m) refl (refl, g))
from_fields called.Tune = from_then number.sounds (λ n g. from_gives (Tune n) refl (refl, g))
from_fields called.Begin = from_then service.sounds (λ s g. from_gives (Begin s) refl (refl, g))
from_fields called.Take = from_gives Take refl (refl, tt)
from_fields called.Sent = from_gives Sent refl (refl, tt)
from_fields called.Held = from_gives Held refl (refl, tt)
from_fields called.Cancel = from_gives Cancel refl (refl, tt)
from_fields called.Slot = from_then spelt_heard.sounds (λ h g. from_gives (Slot h) refl (refl, g))

fields_complete : (f : Form) (r : List Item) → Writable f → form_fields (form_name f) (form_items f ++ r) ≡ got f r
fields_complete (Make m) r g = goes_on spelt_make m g _ _ _ refl
fields_complete (Tune n) r g = goes_on number n g _ _ _ refl
fields_complete (Begin s) r g = goes_on service s g _ _ _ refl
fields_complete Take r g = refl
fields_complete Sent r g = refl
fields_complete Held r g = refl
fields_complete Cancel r g = refl
fields_complete (Slot h) r g = goes_on spelt_heard h g _ _ _ refl

spelt_fields : (name : FormName) → Spelt (form_fields name) form_items (Named name)
spelt_fields name = record { sounds = from_fields name; complete = λ f r g. subst (λ n. form_fields n (form_items f ++ r) ≡ got f r) g.0 (fields_complete f r g.1) }

spelt-form : Spelt form (λ f. bracketed (form_word (form_name f)) (form_items f)) Writable
unfolding form
spelt-form = spelt-enclosed (spelt-named {name_of = form_name} tells-form spelt_fields)

pub spelt-line : Spelt line written Writable
unfolding line
spelt-line =
    record {
      sounds = from_then spelt-form.sounds (λ f g. from_then spelt-ends.sounds (λ _ _. from_gives f refl g));
      complete = λ f r g.
          ap line (append_assoc (bracketed (form_word (form_name f)) (form_items f)) (end ∷ []) r)
          ∙ goes_on spelt-form f g _ _ _ (goes_on spelt-ends tt tt _ _ _ refl);
    }
