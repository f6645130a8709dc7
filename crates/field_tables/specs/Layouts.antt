-- Where values stand among bytes: a place is a list of bits, from the lowest, each a byte and a bit of that byte. The
-- layouts say in which place value i of several is, i counted from 1. (docs/fields.md, "Places and layouts"; this project's
-- own)
use Rattle.std.specs.Prelude.{ℕ, zero, suc, ◌+◌, ◌-◌, ◌*◌, ◌/◌, ◌%◌, ◌==◌, if◌then◌else◌, List, [], ◌∷◌, ◌++◌}

abbrev pub Place : Type 0
Place = List (ℕ × ℕ)

-- so many bits of a byte, from this one up
abbrev pub bits_up : ℕ → ℕ → ℕ → Place
bits_up byte low zero = []
bits_up byte low (suc count) = (byte, low) ∷ bits_up byte (suc low) count

-- a byte and the next one, the most significant first
abbrev pub word : ℕ → Place
word byte = bits_up (suc byte) 0 8 ++ bits_up byte 0 8

-- two values to a byte, the bit where value i begins: `odd` if i is odd, else `even`
abbrev pub in_turn : ℕ → ℕ → ℕ → ℕ
in_turn i odd even = if i % 2 == 1 then odd else even

-- one value
abbrev pub single : (ℕ → Place) → ℕ → ℕ → Place
single at byte i = at byte

-- each value so many bytes after the one before
abbrev pub every : ℕ → (ℕ → Place) → ℕ → ℕ → Place
every step at byte i = at (byte + step * (i - 1))

-- each value one bit, going up
abbrev pub bits : ℕ → ℕ → ℕ → Place
bits low byte i = (byte, low + (i - 1)) ∷ []

-- each value one bit, going down
abbrev pub down : ℕ → ℕ → ℕ → Place
down high byte i = (byte, high - (i - 1)) ∷ []

-- two values to a byte, the lower four bits first
abbrev pub nibbles : ℕ → ℕ → Place
nibbles byte i = bits_up (byte + (i - 1) / 2) (in_turn i 0 4) 4

-- two values to a byte, each one bit: the first in bit 4 + bit, the second in this bit
abbrev pub quad : ℕ → ℕ → ℕ → Place
quad bit byte i = (byte + (i - 1) / 2, in_turn i (4 + bit) bit) ∷ []
