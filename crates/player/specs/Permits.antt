-- The permit that the bench holds for its set.
use Rattle.std.specs.Prelude.{ℕ, Bool, true, Some, None, Ok, Err, Option, Result, ◌&&◌, ◌==◌}
use Rattle.rules.specs.Slots.{is_out}
use Rattle.access.specs.declared.permit.Kept.{Kept}
use Rattle.access.specs.declared.set.Set.{Set}

-- a permit that carries an address is the one that the set has out; an empty one may be held for any set
abbrev pub held_for : {D S P : Type 0} → Option ℕ → Set D S P → Bool
held_for None set = true
held_for (Some a) set = is_out set.condition.job && a == set.card.address

-- the address that the bench holds after a permit was brought back: none, or that of the permit that was refused
abbrev pub kept_address : Result (Unit {0}) Kept → Option ℕ
kept_address (Ok x) = None
kept_address (Err k) = k.permit.address
