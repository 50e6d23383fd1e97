-- 32 bits and more are all the bits that a number of 32 bits has.
use Rattle.std.proofs.Common.{◌≡◌, ℕ, ◌%◌, ◌^◌, ◌<◌, ◌≤◌, lt_of_lt_of_le, mod-eq_of_lt, pow_mono}
use Rattle.signalling.proofs.division.has_low_bits_of.Goals as goal

whole : (x m : ℕ) → x < 2 ^ 32 → 32 ≤ m → x % 2 ^ m ≡ x
whole x m small wide = mod-eq_of_lt (lt_of_lt_of_le small (pow_mono wide))

pub returns-else-bits-lt32 : goal.returns-else-bits-lt32
returns-else-bits-lt32 c =
    let wide = c.if-bits-lt32.false in
    rw (whole c.args.number _ c.ranges.number.fits wide, whole c.args.other _ c.ranges.other.fits wide)
