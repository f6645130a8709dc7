-- How amounts are shown: exactly, except those that have no end in decimal, which are rounded down to thousandths.
-- (docs/formats.md, "observables"; this project's own)
use Rattle.std.specs.Prelude.{ℕ, ◌==◌, ◌&&◌, Bool, nat_lt, if◌then◌else◌, ℤ, pos, neg_ℤ, ◌*ℤ◌, int_lt, int_le, unsigned_abs, List, ◌∷◌, ◌++◌, Option, Some, None}
use Rattle.std.specs.Fmt.{decimal, signed_decimal}
use Rattle.std.specs.Option.{option_map_or}
use Rattle.field_tables.specs.Units.{floor_div}
use Rattle.observables.specs.Fixed.{fixed}
use Rattle.observables.specs.Scientific.{scientific, shortest}
use Rattle.observables.specs.declared.amount.Amount.{Amount}
use Rattle.observables.specs.declared.fixed.Places.{Places}
use Rattle.observables.specs.declared.fixed.Places.TheVariants as places
use Rattle.observables.specs.declared.quantity.Format.{Format}
use Rattle.observables.specs.declared.quantity.Format.TheVariants.{Unsigned, Signed, Float}
use Rattle.observable_reports.specs.declared.amount_text.ShownAmount.{ShownAmount}
use Rattle.observable_reports.specs.declared.amount_text.ShownAmount.TheVariants as shown

-- so many digits after the point
abbrev pub places_by : ℕ → Option Places
places_by digits =
    if digits == 0 then Some places.Zero
    else if digits == 1 then Some places.One
    else if digits == 2 then Some places.Two
    else if digits == 3 then Some places.Three
    else if digits == 4 then Some places.Four
    else if digits == 6 then Some places.Six
    else if digits == 8 then Some places.Eight
    else None

-- how many digits stand after the point of a number that counts so much
abbrev pub places_of : ℤ → Option Places
places_of exponent = if int_lt (pos 0) exponent then None else places_by (unsigned_abs exponent)

abbrev pub fixed_of : Amount → ShownAmount
fixed_of amount =
    option_map_or (λ those. shown.Fixed (record { mantissa = amount.mantissa; places = those })) (places_of amount.exponent) (shown.Fraction amount)

-- it has eleven bits and a power of ten that a float has
abbrev pub is_float : Amount → Bool
is_float amount =
    int_le (pos 0) amount.mantissa && (int_lt amount.mantissa (pos 2048) && (int_le (neg_ℤ (pos 24)) amount.exponent && int_le amount.exponent (pos 7)))

abbrev pub scientific_of : Amount → ShownAmount
scientific_of amount =
    if is_float amount then shown.Scientific (shortest (unsigned_abs amount.mantissa) amount.exponent) else shown.Fraction amount

-- whole units, less than 10 ^ 12 of them, are shared
abbrev pub is_small : Amount → Bool
is_small amount =
    nat_lt 0 amount.divisor && (unsigned_abs amount.exponent == 0 && nat_lt (unsigned_abs amount.mantissa) 1000000000000)

-- in thousandths, rounded down
abbrev pub rounded_of : Amount → ShownAmount
rounded_of amount =
    if is_small amount then shown.Fixed (record { mantissa = floor_div (amount.mantissa *ℤ pos 1000) amount.divisor; places = places.Three })
    else shown.Fraction amount

abbrev pub exact_of : Format → Amount → ShownAmount
exact_of Float amount = scientific_of amount
exact_of Unsigned amount = fixed_of amount
exact_of Signed amount = fixed_of amount

-- by how its words count
abbrev pub shown_as : Format → Amount → ShownAmount
shown_as format amount = if amount.divisor == 1 then exact_of format amount else rounded_of amount

unfoldable pub text_of : ShownAmount → List ℕ
text_of (shown.Scientific number) = scientific number.digits number.exponent
text_of (shown.Fixed number) = fixed number.mantissa number.places
text_of (shown.Fraction amount) = signed_decimal amount.mantissa ++ 101 ∷ (signed_decimal amount.exponent ++ 47 ∷ decimal amount.divisor)

abbrev pub amount_text : Format → Amount → List ℕ
amount_text format amount = text_of (shown_as format amount)
