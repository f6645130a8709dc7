-- What the words of values and limits amount to, exactly. (OIF-CMIS-05.0, "VDM Observables" and "F16 format")
use Rattle.std.specs.Prelude.{◌≡◌, ℕ, ◌*◌, ◌^◌, ◌/◌, ◌%◌, ℤ, pos, ◌*ℤ◌, ◌+ℤ◌, ◌-ℤ◌, ◌≤ℤ◌, unsigned_abs}
use Rattle.field_tables.specs.Numbers.{signed_by}
use Rattle.field_tables.specs.declared.layout.Sign.TheVariants as signs
use Rattle.observables.specs.declared.amount.Amount.{Amount}
use Rattle.observables.specs.declared.quantity.Format.{Format}
use Rattle.observables.specs.declared.quantity.Format.TheVariants.{Unsigned, Signed, Float}
use Rattle.observables.specs.declared.quantity.Quantity.{Quantity}
use Rattle.observables.specs.Quantities.{quantity_row, step_of}

-- ---- what an amount has to be

-- eleven bits times a power of ten, whose exponent is 24 less than the upper five bits
pub record IsFloat (word : ℕ) (amount : Amount) : Type 0 where
  pub mantissa : amount.mantissa ≡ pos (word % 2048)
  pub exponent : amount.exponent +ℤ pos 24 ≡ pos (word / 2048)
  pub divisor : amount.divisor ≡ 1

-- So many steps, each a fraction of the unit: mantissa * 10 ^ exponent / divisor is steps * numerator / denominator.
pub record AreSteps (step : ℕ × ℕ) (steps : ℤ) (amount : Amount) : Type 0 where
  pub not_above : amount.exponent ≤ℤ pos 0
  pub same : amount.mantissa *ℤ pos step.1 ≡ steps *ℤ pos (step.0 * 10 ^ unsigned_abs amount.exponent * amount.divisor)

-- the number of steps that a word is
abbrev pub steps_of : Format → ℕ → ℤ
steps_of Signed word = signed_by signs.Signed word
steps_of Unsigned word = pos word
steps_of Float word = pos word

abbrev pub IsAmountIn : Format → ℕ × ℕ → ℕ → Amount → Type 0
IsAmountIn Float step word amount = IsFloat word amount
IsAmountIn Unsigned step word amount = AreSteps step (steps_of Unsigned word) amount
IsAmountIn Signed step word amount = AreSteps step (steps_of Signed word) amount

-- what a word of a quantity amounts to, in its unit
abbrev pub IsAmount : Quantity → ℕ → Amount → Type 0
IsAmount quantity word amount = IsAmountIn (quantity_row quantity).format (step_of quantity) word amount

-- what a word amounts to if it counts so many times
abbrev pub AreTimes : Quantity → ℕ → ℕ → Amount → Type 0
AreTimes quantity factor word amount =
    AreSteps (step_of quantity) (steps_of (quantity_row quantity).format word *ℤ pos factor) amount

-- ---- how that is written

-- so many steps of a quantity
abbrev pub scaled : Quantity → ℤ → Amount
scaled quantity steps = record {
  mantissa = steps *ℤ pos (quantity_row quantity).numerator;
  exponent = (quantity_row quantity).exponent;
  divisor = (quantity_row quantity).divisor;
}

abbrev pub float_amount : ℕ → Amount
float_amount word = record { mantissa = pos (word % 2048); exponent = pos (word / 2048) -ℤ pos 24; divisor = 1 }

abbrev pub amount_in : Format → Quantity → ℕ → Amount
amount_in Float quantity word = float_amount word
amount_in Unsigned quantity word = scaled quantity (steps_of Unsigned word)
amount_in Signed quantity word = scaled quantity (steps_of Signed word)

abbrev pub amount_of : Quantity → ℕ → Amount
amount_of quantity word = amount_in (quantity_row quantity).format quantity word

abbrev pub amount_times : Quantity → ℕ → ℕ → Amount
amount_times quantity factor word = scaled quantity (steps_of (quantity_row quantity).format word *ℤ pos factor)

-- each amount is the number that it has to be, also of words that count several times
abbrev pub EachAmountIsExact : Type 0
EachAmountIsExact = (quantity : Quantity) (word : ℕ) → IsAmount quantity word (amount_of quantity word) × ((factor : ℕ) → AreTimes quantity factor word (amount_times quantity factor word))
