-- That a metric counts, in its unit, the steps that a module counts, and that its unit is the report's without the prefix.
-- (OIF-CMIS-05.0, "Module-Level Monitor Values" and "Lane-Specific Monitors"; SFF-8472, "Internal Calibration"; the prefixes of
-- the International System of Units; this project's own)
use Rattle.std.specs.Prelude.{◌≡◌, ℕ, ◌+◌, ◌*◌, ◌^◌, ℤ, pos, ◌*ℤ◌, List, [], ◌∷◌, ◌++◌, codes}
use Rattle.std.specs.List.{Contains}
use Rattle.field_tables.specs.Units.{IsFloor, millis_of}
use Rattle.field_tables.specs.declared.units.Unit.{Unit}
use Rattle.field_tables.specs.declared.units.Unit.TheVariants.{Temperature, Voltage, OpticalPower, Bias, ModulePower}
use Rattle.report_entries.specs.PrintedUnits.{printed_in, unit_name}
use Rattle.report_entries.specs.declared.printed_unit.PrintedUnit.{PrintedUnit}
use Rattle.module_metrics.specs.BaseUnits.{base_name, places}

-- ---- steps

-- what one step is: so many parts of a unit without prefix, of which so many are one
pub record StepAmount : Type 0 where
  pub unit : List ℕ
  pub parts : ℕ
  pub whole : ℕ

-- 1/256 degree Celsius, 100 microvolts, 0.1 microwatts, 2 microamperes and 0.25 watts
abbrev pub step_of : Unit → StepAmount
step_of Temperature = record { unit = codes "celsius"; parts = 1; whole = 256 }
step_of Voltage = record { unit = codes "volts"; parts = 100; whole = 10 ^ 6 }
step_of OpticalPower = record { unit = codes "watts"; parts = 1; whole = 10 ^ 7 }
step_of Bias = record { unit = codes "amperes"; parts = 2; whole = 10 ^ 6 }
step_of ModulePower = record { unit = codes "watts"; parts = 1; whole = 4 }

-- a metric has the unit of the step, and its number is the greatest of its places that is not above so many steps
abbrev pub EachMetricCountsSteps : Type 0
EachMetricCountsSteps =
    (unit : Unit) (count : ℤ) →
    (base_name (printed_in unit) ≡ (step_of unit).unit)
    × IsFloor (millis_of count unit) (count *ℤ pos ((step_of unit).parts * 10 ^ places (printed_in unit))) (step_of unit).whole

-- ---- units

-- each prefix, by the number that ten to the minus it is
abbrev pub prefixes : List (ℕ × List ℕ)
prefixes = (0, []) ∷ (3, codes "m") ∷ (6, codes "u") ∷ []

-- the symbols of the units that metrics are in
abbrev pub symbols : List (List ℕ × List ℕ)
symbols =
    (codes "celsius", codes "C")
    ∷ (codes "volts", codes "V")
    ∷ (codes "watts", codes "W")
    ∷ (codes "amperes", codes "A")
    ∷ (codes "meters", codes "m")
    ∷ (codes "kilometers", codes "km")
    ∷ (codes "nanometers", codes "nm")
    ∷ (codes "decibels", codes "dB")
    ∷ (codes "gigabauds", codes "GBd")
    ∷ (codes "percent", codes "%")
    ∷ []

-- a report prints thousandths of a prefix and a unit, and the metric has the places of both, and the unit
pub record IsWithoutPrefix (unit : PrintedUnit) : Type 0 where
  pub power : ℕ
  pub letter : List ℕ
  pub symbol : List ℕ
  pub is_prefix : Contains prefixes (power, letter)
  pub is_symbol : Contains symbols (base_name unit, symbol)
  pub printed : unit_name unit ≡ letter ++ symbol
  pub counted : places unit ≡ 3 + power

abbrev pub EachUnitHasItsPrefix : Type 0
EachUnitHasItsPrefix = (unit : PrintedUnit) → IsWithoutPrefix unit
