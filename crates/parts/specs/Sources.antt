-- What the draw sources have ready, and how a draw moves them on.
use Rattle.std.specs.Prelude.{ℕ, ◌+◌, ◌/◌, ◌%◌, cond, Ok, Err, Result, ◌==◌, bit_xor}
use Rattle.signalling.specs.declared.refusal.Refusal.{Refusal}
use Rattle.signalling.specs.declared.refusal.Refusal.TheVariants.{ZeroRegister}
use Rattle.parts.specs.declared.register_source.RegisterSource.{RegisterSource}

-- the choice that a number gives in a frame of so many slots (7.3.5)
abbrev pub choice_of : ℕ → ℕ → ℕ
choice_of number slots = number % slots + 1

-- a register is halved, rounded down, and if it was odd combined with 46,080
abbrev pub shifted : ℕ → ℕ
shifted r = cond (r % 2 == 1) (bit_xor (r / 2) 46080) (r / 2)

-- the register source has the choice ready that its register gives
abbrev pub register_ready : RegisterSource → ℕ → ℕ
register_ready s slots = choice_of s.register slots

-- a draw shifts the register, whatever it was drawn for
abbrev pub register_drawn : RegisterSource → ℕ → RegisterSource
register_drawn s slots = record { register = shifted s.register }

-- a register that starts at 0 is refused
abbrev pub register_answer : ℕ → Result RegisterSource Refusal
register_answer r = cond (r == 0) (Err ZeroRegister) (Ok (record { register = r }))
