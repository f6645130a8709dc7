-- A word that counts so many times amounts to so many times its steps.
use Rattle.std.proofs.Common.{◌≡◌, ◌∙◌, ℕ, ℤ, pos, ap, subst, sym}
use Rattle.std.specs.Prelude.{◌*ℤ◌}
use Rattle.observables.specs.declared.amount.Amount.{Amount}
use Rattle.observables.specs.declared.quantity.Quantity.{Quantity}
use Rattle.observables.specs.Amounts.{AreTimes, EachAmountIsExact, amount_times, scaled, steps_of}
use Rattle.observables.specs.Quantities.{quantity_row}
use Rattle.observables.proofs.ExactAmounts.{is_exact}
use Rattle.observables.proofs.RowSteps.{are_steps}

pub are_times : (quantity : Quantity) (factor word : ℕ) → AreTimes quantity factor word (amount_times quantity factor word)
are_times quantity factor word = are_steps quantity (steps_of (quantity_row quantity).format word *ℤ pos factor)

pub each_is_exact : EachAmountIsExact
each_is_exact quantity word = (is_exact quantity word, λ factor. are_times quantity factor word)

module _ (quantity : Quantity) (factor word : ℕ) (steps product : ℤ) (amount : Amount) (steps_are : steps ≡ steps_of (quantity_row quantity).format word)
    (product_is : product ≡ steps *ℤ pos factor) (amount_is : amount ≡ scaled quantity product) where
  pub value_is : amount ≡ amount_times quantity factor word
  value_is = amount_is ∙ ap (λ (z : ℤ). scaled quantity z) (product_is ∙ ap (λ (z : ℤ). z *ℤ pos factor) steps_are)

  pub is_right : AreTimes quantity factor word amount
  is_right = subst (λ (a : Amount). AreTimes quantity factor word a) (sym value_is) (are_times quantity factor word)
