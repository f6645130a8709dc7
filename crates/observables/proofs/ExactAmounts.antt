-- What is written of a word is the number that it has to be.
use Rattle.std.proofs.Common.{ℕ, arith, refl}
use Rattle.std.proofs.lemmas.Int.{ints}
use Rattle.observables.specs.declared.quantity.Format.{Format}
use Rattle.observables.specs.declared.quantity.Format.TheVariants.{Unsigned, Signed, Float}
use Rattle.observables.specs.declared.quantity.Quantity.{Quantity}
use Rattle.observables.specs.Quantities.{quantity_row, step_of}
use Rattle.observables.specs.Amounts.{IsAmount, IsAmountIn, amount_in, amount_of, steps_of}
use Rattle.observables.proofs.RowSteps.{are_steps}

by_format : (format : Format) (quantity : Quantity) (word : ℕ) → IsAmountIn format (step_of quantity) word (amount_in format quantity word)
by_format Float quantity word = record { mantissa = refl; exponent = omega (arith, ints); divisor = refl }
by_format Unsigned quantity word = are_steps quantity (steps_of Unsigned word)
by_format Signed quantity word = are_steps quantity (steps_of Signed word)

pub is_exact : (quantity : Quantity) (word : ℕ) → IsAmount quantity word (amount_of quantity word)
is_exact quantity word = by_format (quantity_row quantity).format quantity word
