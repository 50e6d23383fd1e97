-- What the three parts of a set mean, together.
use Rattle.std.specs.Prelude.{◌≡◌, ℕ, ◌≤◌, Bool, false}
use Rattle.signalling.specs.declared.content.Content.{Content}
use Rattle.signalling.specs.declared.content.Function.{Function}
use Rattle.signalling.specs.declared.content.Function.TheVariants.{Alhe}
use Rattle.parts.specs.declared.service.Service as service
use Rattle.parts.specs.declared.source.DrawSource as source
use Rattle.parts.specs.declared.verdict.Verdict.{Verdict}

-- the meaning of a draw source, of a service and of a plan
pub record Meaning (D S : Type 0) : Type 0 where
  -- the choice that is ready for a frame of so many slots, and the source after the draw
  pub ready : D → ℕ → ℕ
  pub drawn : D → ℕ → D
  -- the functions that invite a service, whether it is an emergency, and what a content means to it
  pub invites : S → Function → Bool
  pub emergency : S → Bool
  pub verdict : S → Content → ℕ → Verdict
  -- the system codes that the plan accepts
  pub accepts : ℕ → Bool

abbrev pub meaning : {D S : Type 0} → (D → ℕ → ℕ) → (D → ℕ → D) → (S → Function → Bool) → (S → Bool) → (S → Content → ℕ → Verdict) → (ℕ → Bool) → Meaning D S
meaning r d i e v a = record { ready = r; drawn = d; invites = i; emergency = e; verdict = v; accepts = a }

-- the same, from what a draw source and a service state as their traits ask
abbrev pub meaning_of : {D S : Type 0} → source.Ghosts D → service.Ghosts S → (ℕ → Bool) → Meaning D S
meaning_of d s accepts = meaning d.ready d.drawn s.invites s.emergency s.verdict accepts

-- the laws of the parts that the run law rests on
pub record Lawful {D S : Type 0} (m : Meaning D S) : Type 0 where
  -- a choice is a slot of the frame
  pub within : (source : D) (slots : ℕ) → 1 ≤ slots → slots ≤ 32 → (1 ≤ m.ready source slots) × (m.ready source slots ≤ slots)
  -- ALHE invites nothing but emergencies
  pub ordinary : (service : S) → m.emergency service ≡ false → m.invites service Alhe ≡ false
