-- Exact numbers as text, and that the text writes exactly the number. (This project's own)
use Rattle.std.specs.Prelude.{◌≡◌, ◌≢◌, ℕ, ◌+◌, ◌*◌, ◌/◌, ◌%◌, ◌^◌, ◌<◌, ◌==◌, ◌⊎◌, nat_lt, if◌then◌else◌, ℤ, pos, ◌+ℤ◌, List, [], ◌∷◌, ◌++◌, length, map}
use Rattle.std.specs.List.{AllByRecursion}
use Rattle.std.specs.Fmt.{decimal, signed_decimal}
use Rattle.observables.specs.declared.scientific.Scientific.{Scientific}

-- digits with a point after the first, `e` and the power of ten of the first
unfoldable pub scientific : ℕ → ℤ → List ℕ
scientific digits exponent =
    if nat_lt digits 10 then decimal digits ++ 101 ∷ signed_decimal exponent
    else if nat_lt digits 100 then decimal (digits / 10) ++ (46 ∷ decimal (digits % 10)) ++ 101 ∷ signed_decimal (exponent +ℤ pos 1)
    else if nat_lt digits 1000 then decimal (digits / 100) ++ (46 ∷ decimal (digits / 10 % 10)) ++ decimal (digits % 10) ++ 101 ∷ signed_decimal (exponent +ℤ pos 2)
    else decimal (digits / 1000) ++ (46 ∷ decimal (digits / 100 % 10)) ++ decimal (digits / 10 % 10) ++ decimal (digits % 10) ++ 101 ∷ signed_decimal (exponent +ℤ pos 3)

-- these digits without so many zeros at their end
abbrev pub without_zeros : ℕ → ℕ → ℤ → Scientific
without_zeros zeros mantissa exponent = record { digits = mantissa / 10 ^ zeros; exponent = exponent +ℤ pos zeros }

-- without zeros at the end of up to four digits; 0 is 0 times 1
abbrev pub shortest : ℕ → ℤ → Scientific
shortest mantissa exponent =
    if mantissa == 0 then record { digits = 0; exponent = pos 0 }
    else if mantissa % 1000 == 0 then without_zeros 3 mantissa exponent
    else if mantissa % 100 == 0 then without_zeros 2 mantissa exponent
    else if mantissa % 10 == 0 then without_zeros 1 mantissa exponent
    else without_zeros 0 mantissa exponent

-- the same number, without zeros at the end of its digits
pub record IsShortest (mantissa : ℕ) (exponent : ℤ) (shown : Scientific) : Type 0 where
  pub zeros : ℕ
  pub same : shown.digits * 10 ^ zeros ≡ mantissa
  pub power : (shown.exponent ≡ exponent +ℤ pos zeros) ⊎ (mantissa ≡ 0)
  pub shortest : (shown.digits % 10 ≢ 0) ⊎ (shown.digits ≡ 0)

-- the number that digits write after others
abbrev pub number_from : ℕ → List ℕ → ℕ
number_from number [] = number
number_from number (digit ∷ digits) = number_from (number * 10 + digit) digits

-- a point before digits, if there are any
abbrev pub pointed : List ℕ → List ℕ
pointed [] = []
pointed (digit ∷ digits) = 46 ∷ map (λ d. 48 + d) (digit ∷ digits)

-- The text writes the number `mantissa` times ten to the power `exponent`, and no other: digits of which the first stands for
-- the power that follows `e`. With as many zeros after them they write the mantissa.
pub record WritesExactly (text : List ℕ) (mantissa : ℕ) (exponent : ℤ) : Type 0 where
  pub first : ℕ
  pub more : List ℕ
  pub power : ℤ
  pub zeros : ℕ
  pub text_is : text ≡ (48 + first) ∷ (pointed more ++ 101 ∷ signed_decimal power)
  pub one_digit : first < 10
  pub digits : AllByRecursion (λ digit. digit < 10) more
  pub number : number_from first more * 10 ^ zeros ≡ mantissa
  pub scale : (power ≡ exponent +ℤ pos (zeros + length more)) ⊎ (mantissa ≡ 0)

-- each text of a number of eleven bits writes that number
abbrev pub ScientificIsExact : Type 0
ScientificIsExact = (mantissa : ℕ) (exponent : ℤ) (shown : Scientific) → mantissa < 2048 → IsShortest mantissa exponent shown →
    WritesExactly (scientific shown.digits shown.exponent) mantissa exponent
