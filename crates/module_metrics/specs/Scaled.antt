-- Whole numbers of parts of a unit as decimal fractions of it, and which number such a text writes. (Prometheus' text-based
-- format, version 0.0.4, "value"; docs/formats.md, "Metrics"; this project's own)
use Rattle.std.specs.Prelude.{◌≡◌, ℕ, zero, suc, ◌+◌, ◌*◌, ◌^◌, ◌/◌, ◌%◌, ◌==◌, if◌then◌else◌, length, ℤ, unsigned_abs, List, [], ◌∷◌, ◌++◌}
use Rattle.std.specs.Fmt.{decimal}
use Rattle.std.specs.Str.Parse.{AllDigits, IsNumeral, digits_value}
use Rattle.report_entries.specs.Shown.{minus_of}

-- the digits of a fraction of so many places, without zeros at the end
unfoldable pub fraction : ℕ → ℕ → List ℕ
fraction zero rest = []
fraction (suc places) rest = if rest == 0 then [] else decimal (rest / 10 ^ places) ++ fraction places (rest % 10 ^ places)

-- after a point if there is a fraction
abbrev pub pointed : ℕ → ℕ → List ℕ
pointed places rest = if rest == 0 then [] else 46 ∷ fraction places rest

-- so many parts, of which 10 ^ places are one
unfoldable pub scaled : ℕ → ℤ → List ℕ
scaled places z = minus_of z ++ (decimal (unsigned_abs z / 10 ^ places) ++ pointed places (unsigned_abs z % 10 ^ places))

-- ---- what a text writes

abbrev pub after_point : List ℕ → List ℕ
after_point [] = []
after_point (d ∷ ds) = 46 ∷ d ∷ ds

-- the text writes z / 10 ^ places: a minus if z is negative, digits, and a point and digits if there is a fraction; with the
-- zeros that the fraction lacks put at the end, all digits as one number are |z|
pub record Writes (text : List ℕ) (z : ℤ) (places : ℕ) : Type 0 where
  pub whole : List ℕ
  pub fraction : List ℕ
  pub zeros : ℕ
  pub is_text : text ≡ minus_of z ++ (whole ++ after_point fraction)
  pub is_whole : IsNumeral 10 whole
  pub is_fraction : AllDigits 10 fraction
  pub at_most : length fraction + zeros ≡ places
  pub value : digits_value 10 (whole ++ fraction) * 10 ^ zeros ≡ unsigned_abs z
