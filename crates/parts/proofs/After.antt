-- Sources after any number of draws.
use Rattle.std.proofs.Common.{◌≡◌, ℕ, suc, ◌+◌, List, [], ◌∷◌, length, Some, None, Option, sym, refl, ap, ◌∙◌, ⊎_elim, arith}
use Rattle.std.specs.List.{slice_get}
use Rattle.std.proofs.lemmas.Option.{slice_get-get_or as nth-getD, slice_get_past}
use Rattle.std.proofs.str.Laws.{order}
use Rattle.parts.specs.declared.list_source.ListSource.{ListSource}
use Rattle.parts.specs.declared.register_source.RegisterSource.{RegisterSource}
use Rattle.parts.specs.Draws.{after_draws, repeated}
use Rattle.parts.specs.Lists.{used_up, list_drawn}
use Rattle.parts.specs.Sources.{shifted, register_drawn}

-- each draw shifts the register once
pub register_after : (s : RegisterSource) (lengths : List ℕ) → (after_draws register_drawn s lengths).register ≡ repeated shifted (length lengths) s.register
register_after s [] = refl
register_after s (slots ∷ more) = register_after (register_drawn s slots) more

-- behind the end of a list there is nothing
still_none : (xs : List ℕ) (i k : ℕ) → slice_get xs i ≡ None → slice_get xs (i + k) ≡ None
still_none xs i k e =
    ⊎_elim
    (λ lt. let here = nth-getD xs i 0 lt in let z : ◌≡◌ {A = ℕ} 0 1 = cc (here, e) in absurd (omega arith))
    (λ ge. slice_get_past xs (i + k) (omega arith))
    (order i (length xs))

module _ {L : Type 0} (xs : List ℕ) where
  pub list_after : (s : ListSource L) (lengths : List ℕ) → slice_get xs (after_draws (λ s _. list_drawn xs s) s lengths).used ≡ slice_get xs (s.used + length lengths)
  list_after s [] = ap (slice_get xs) (omega arith)
  list_after s (slots ∷ more) = by (slice_get xs s.used) refl (list_after (list_drawn xs s) more)
    where
      by : (o : Option ℕ) → slice_get xs s.used ≡ o → slice_get xs (after_draws (λ s _. list_drawn xs s) (list_drawn xs s) more).used ≡ slice_get xs (used_up (slice_get xs s.used) s.used + length more) → slice_get xs (after_draws (λ s _. list_drawn xs s) (list_drawn xs s) more).used ≡ slice_get xs (s.used + suc (length more))
      by (Some n) e ih = ih ∙ ap (λ o. slice_get xs (used_up o s.used + length more)) e ∙ ap (slice_get xs) (omega arith)
      by None e ih = ih ∙ ap (λ o. slice_get xs (used_up o s.used + length more)) e ∙ still_none xs s.used (length more) e ∙ sym (still_none xs s.used (suc (length more)) e)
