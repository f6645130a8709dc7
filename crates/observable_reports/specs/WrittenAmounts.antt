-- That the text of an amount writes the amount. (docs/formats.md, "observables"; this project's own)
use Rattle.std.specs.Prelude.{◌≡◌, ◌⊎◌, ℕ, ◌<◌, ℤ, pos, neg_ℤ, ◌*ℤ◌, List, ◌∷◌, ◌++◌}
use Rattle.std.specs.Fmt.{decimal, signed_decimal}
use Rattle.field_tables.specs.Units.{IsFloor}
use Rattle.observables.specs.Fixed.{WritesUnits}
use Rattle.observables.specs.Scientific.{WritesExactly}
use Rattle.observables.specs.declared.amount.Amount.{Amount}
use Rattle.observables.specs.declared.quantity.Format.{Format}
use Rattle.observables.specs.declared.quantity.Quantity.{Quantity}
use Rattle.observables.specs.Amounts.{amount_of}
use Rattle.observables.specs.Quantities.{quantity_row}
use Rattle.observable_reports.specs.declared.amount_text.ShownAmount.{ShownAmount}
use Rattle.observable_reports.specs.declared.amount_text.ShownAmount.TheVariants as shown
use Rattle.observable_reports.specs.AmountTexts.{amount_text, shown_as}

-- exactly, as digits and a power of ten
pub record WritesFloat (amount : Amount) (text : List ℕ) : Type 0 where
  pub mantissa : ℕ
  pub is : amount.mantissa ≡ pos mantissa
  pub written : WritesExactly text mantissa amount.exponent
  pub whole : amount.divisor ≡ 1

-- exactly, with so many digits after the point
pub record WritesFixed (amount : Amount) (text : List ℕ) : Type 0 where
  pub places : ℕ
  pub counts : amount.exponent ≡ neg_ℤ (pos places)
  pub written : WritesUnits text places amount.mantissa
  pub whole : amount.divisor ≡ 1

-- the greatest number of thousandths that is not above the amount
pub record WritesRounded (amount : Amount) (text : List ℕ) : Type 0 where
  pub thousandths : ℤ
  pub counts : amount.exponent ≡ pos 0
  pub rounded : IsFloor thousandths (amount.mantissa *ℤ pos 1000) amount.divisor
  pub written : WritesUnits text 3 thousandths

-- no number, but its parts: a mantissa, a power of ten and a divisor
abbrev pub WritesParts : Amount → List ℕ → Type 0
WritesParts amount text = text ≡ signed_decimal amount.mantissa ++ 101 ∷ (signed_decimal amount.exponent ++ 47 ∷ decimal amount.divisor)

abbrev pub IsWritten : Amount → List ℕ → Type 0
IsWritten amount text = WritesFloat amount text ⊎ (WritesFixed amount text ⊎ (WritesRounded amount text ⊎ WritesParts amount text))

-- each amount, by how its words count
abbrev pub EachAmountIsWritten : Type 0
EachAmountIsWritten = (format : Format) (amount : Amount) → IsWritten amount (amount_text format amount)

-- not its parts
abbrev pub IsNumber : ShownAmount → Type 0
IsNumber (shown.Scientific number) = Unit {0}
IsNumber (shown.Fixed number) = Unit {0}
IsNumber (shown.Fraction amount) = ⊥

-- what a word of a quantity amounts to is shown as a number
abbrev pub EachWordIsANumber : Type 0
EachWordIsANumber =
    (quantity : Quantity) (word : ℕ) → word < 65536 → IsNumber (shown_as (quantity_row quantity).format (amount_of quantity word))
