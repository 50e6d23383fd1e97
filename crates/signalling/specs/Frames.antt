-- A frame length, or none, as a number of return slots: 0 stands for none.
use Rattle.std.specs.Prelude.{ℕ, cond, Some, None, Option, nat_le}
use Rattle.signalling.specs.declared.frame_length.FrameLength.{FrameLength}

-- the return slots of a frame, 0 where there is no frame
abbrev pub slots_of : Option FrameLength → ℕ
slots_of None = 0
slots_of (Some l) = l.slots

-- a frame has at most 32 return slots: any larger number is no frame (7.3.3)
abbrev pub kept_length : ℕ → ℕ
kept_length n = cond (nat_le n 32) n 0
