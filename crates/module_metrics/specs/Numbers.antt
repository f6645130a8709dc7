-- The numbers of samples, and their texts. (Prometheus' text-based format, version 0.0.4, "value"; docs/formats.md, "Metrics"; this
-- project's own)
use Rattle.std.specs.Prelude.{ℕ, ◌==◌, if◌then◌else◌, ℤ, unsigned_abs, List, [], ◌∷◌, ◌++◌, Option, Some, None}
use Rattle.std.specs.Fmt.{signed_decimal}
use Rattle.observables.specs.Fixed.{fixed}
use Rattle.observables.specs.Scientific.{scientific}
use Rattle.observables.specs.declared.fixed.Fixed.{Fixed}
use Rattle.observables.specs.declared.scientific.Scientific.{Scientific}
use Rattle.observable_reports.specs.declared.amount_text.ShownAmount.{ShownAmount}
use Rattle.observable_reports.specs.declared.amount_text.ShownAmount.TheVariants as shown
use Rattle.module_metrics.specs.Scaled.{scaled}

pub data Number : Type 0 where
  -- so many parts, of which 10 ^ places are one
  parts : ℤ → ℕ → Number
  float : Scientific → Number
  -- a decimal fraction, times ten to a power
  fraction : Fixed → ℤ → Number

-- ten to this power, unless that is one
unfoldable pub power_text : ℤ → List ℕ
power_text power = if unsigned_abs power == 0 then [] else 101 ∷ signed_decimal power

abbrev pub number_text : Number → List ℕ
number_text (parts z places) = scaled places z
number_text (float number) = scientific number.digits number.exponent
number_text (fraction number power) = fixed number.mantissa number.places ++ power_text power

-- what an amount is shown as, times ten to a power
abbrev pub number_of : ShownAmount → ℤ → Option Number
number_of (shown.Scientific number) power = if unsigned_abs power == 0 then Some (float number) else None
number_of (shown.Fixed number) power = Some (fraction number power)
number_of (shown.Fraction amount) power = None
