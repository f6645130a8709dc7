-- How values are shown in reports. (docs/formats.md, "Values in reports"; this project's own)
use Rattle.std.specs.Prelude.{ℕ, ◌/◌, ◌%◌, Bool, if◌then◌else◌, map, ℤ, pos, negsuc, unsigned_abs, List, [], ◌∷◌, ◌++◌, codes, slice_index}
use Rattle.std.specs.List.{flat_map}
use Rattle.std.specs.Fmt.{decimal}
use Rattle.hex.specs.Hex.{encode_lower, upper_digits}
use Rattle.module_decoding.specs.PaddedTexts.{shown_byte, trimmed}

-- two upper-case digits and `h`
unfoldable pub byte_code : ℕ → List ℕ
byte_code byte = slice_index upper_digits (byte / 16) ∷ slice_index upper_digits (byte % 16) ∷ 104 ∷ []

abbrev pub three_digits : ℕ → List ℕ
three_digits n = decimal (n / 100 % 10) ++ decimal (n / 10 % 10) ++ decimal (n % 10)

-- `-` if the number is negative
abbrev pub minus_of : ℤ → List ℕ
minus_of (pos n) = []
minus_of (negsuc n) = 45 ∷ []

-- a number of thousandths as a decimal fraction
unfoldable pub thousandths : ℤ → List ℕ
thousandths z = minus_of z ++ (decimal (unsigned_abs z / 1000) ++ 46 ∷ three_digits (unsigned_abs z % 1000))

-- an amount in thousandths of a unit, and the unit
unfoldable pub measure : ℤ → List ℕ → List ℕ
measure amount unit = thousandths amount ++ 32 ∷ unit

-- the major number in the upper nibble, a point and the minor one
unfoldable pub revision : ℕ → List ℕ
revision byte = decimal (byte / 16) ++ 46 ∷ decimal (byte % 16)

-- the bytes of a text without the padding at their end
unfoldable pub printable : List ℕ → List ℕ
printable bytes = map shown_byte (trimmed bytes)

-- each byte in lower-case hexadecimal, with a space before it
unfoldable pub spaced_bytes : List ℕ → List ℕ
spaced_bytes bytes = flat_map (λ byte. 32 ∷ encode_lower (byte ∷ [])) bytes

-- whether a sum is right
abbrev pub sum_word : Bool → List ℕ
sum_word right = if right then codes "right" else codes "wrong"
