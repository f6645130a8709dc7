-- The number that 32 bits say. (IEEE 754, the interchange format binary32; SFF-8472, "External Calibration", has the floats of
-- received power in it)
use Rattle.std.specs.Prelude.{ℕ, ◌+◌, ◌-◌, ◌*◌, ◌/◌, ◌%◌, ◌^◌, ◌==◌, Bool, nat_lt, if◌then◌else◌, ℤ, pos, neg_ℤ}

-- bits 30 to 23
abbrev pub exponent : ℕ → ℕ
exponent bits = bits / 2 ^ 23 % 256

-- bits 22 to 0
abbrev pub fraction : ℕ → ℕ
fraction bits = bits % 2 ^ 23

-- bit 31
abbrev pub is_negative : ℕ → Bool
is_negative bits = bits / 2 ^ 31 == 1

-- The greatest exponent is for infinities and for what is no number.
abbrev pub is_finite : ℕ → Bool
is_finite bits = nat_lt (exponent bits) 255

-- The absolute value of a finite one, in parts of 2^-149. A float whose exponent isn't 0 has a 1 before its fraction.
unfoldable pub size : ℕ → ℕ
size bits = if exponent bits == 0 then fraction bits else (2 ^ 23 + fraction bits) * 2 ^ (exponent bits - 1)

-- a finite one in parts of 2^-149
unfoldable pub parts_of : ℕ → ℤ
parts_of bits = if is_negative bits then neg_ℤ (pos (size bits)) else pos (size bits)

-- whether its absolute value is below so many doublings of 2^-149
abbrev pub is_below_power : ℕ → ℕ → Bool
is_below_power bits power = nat_lt (size bits) (2 ^ power)
