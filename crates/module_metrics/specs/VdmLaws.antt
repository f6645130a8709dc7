-- That a metric of VDM writes what was measured, in its unit, and that each type of instance has one. (OIF-CMIS-05.0, "VDM Observables";
-- this project's own)
use Rattle.std.specs.Prelude.{◌≡◌, ℕ, ◌<◌, Bool, true, List, ◌++◌, Option, Some, None}
use Rattle.std.specs.List.{list_any}
use Rattle.observables.specs.Amounts.{amount_of}
use Rattle.observables.specs.Observables.{observable_of}
use Rattle.observables.specs.Quantities.{quantity_row}
use Rattle.observables.specs.declared.amount.Amount.{Amount}
use Rattle.observables.specs.declared.observable.Observable.{Observable}
use Rattle.observables.specs.declared.quantity.Quantity.{Quantity}
use Rattle.observables.specs.declared.quantity.Unit.{Unit}
use Rattle.observable_reports.specs.AmountTexts.{shown_as}
use Rattle.observable_reports.specs.WrittenAmounts.{IsWritten}
use Rattle.module_metrics.specs.Numbers.{Number, number_of, number_text, power_text}
use Rattle.module_metrics.specs.VdmMetrics.{is_of}
use Rattle.module_metrics.specs.VdmNames.{measures}
use Rattle.module_metrics.specs.VdmUnits.{power_of}

-- ---- numbers

-- the number of a metric is there, and its text writes the amount as a report does, times the power of ten that the unit is of the metric's
pub record HasNumber (unit : Unit) (amount : Amount) (number : Option Number) : Type 0 where
  pub written : Number
  pub shown : List ℕ
  pub is_number : number ≡ Some written
  pub is_text : number_text written ≡ shown ++ power_text (power_of unit)
  pub is_amount : IsWritten amount shown

-- what a word of a quantity amounts to
abbrev pub EachWordIsWritten : Type 0
EachWordIsWritten =
    (quantity : Quantity) (word : ℕ) → word < 65536 →
    HasNumber (quantity_row quantity).unit (amount_of quantity word)
    (number_of (shown_as (quantity_row quantity).format (amount_of quantity word)) (power_of (quantity_row quantity).unit))

-- ---- types

abbrev pub has_metric : Option Observable → Bool
has_metric None = true
has_metric (Some observable) = list_any (λ of. is_of of observable) measures

-- each type that is decoded has one
abbrev pub EachTypeHasAMetric : Type 0
EachTypeHasAMetric = (kind : ℕ) → has_metric (observable_of kind) ≡ true
