use Rattle.std.proofs.Common.{ℕ, ℤ, ◌+◌, ◌*ℤ◌, List, [], ◌∷◌, ◌≡◌, refl, pos, negsuc, arith, ◌++◌, codes}
use Rattle.std.specs.List.{Contains}
use Rattle.std.proofs.lemmas.Int.{ints}
use Rattle.field_tables.specs.declared.units.Unit.TheVariants.{Temperature, Voltage, OpticalPower, Bias, ModulePower}
use Rattle.field_tables.specs.Units.{IsFloor, floor_div}
use Rattle.module_metrics.specs.BaseUnits.{base_name, places}
use Rattle.report_entries.specs.PrintedUnits.{unit_name}
use Rattle.module_metrics.specs.UnitLaws.{EachMetricCountsSteps, EachUnitHasItsPrefix, IsWithoutPrefix, prefixes, symbols}
use Rattle.report_entries.specs.declared.printed_unit.PrintedUnit.{PrintedUnit}
use Rattle.report_entries.specs.declared.printed_unit.PrintedUnit.TheVariants.{Celsius, Millivolt, Microwatt, Milliampere, Watt, Metre, Kilometre, Nanometre, Decibel, Gigabaud, Percent}
use Rattle.module_metrics.proofs.laws.each_metric_is_what_the_report_prints.Goals as goal

rounds : (z : ℤ) → IsFloor (floor_div z 256) z 256
rounds (pos a) = (omega (arith, ints), omega (arith, ints))
rounds (negsuc a) = (omega (arith, ints), omega (arith, ints))

steps : EachMetricCountsSteps
unfolding base_name
steps Temperature count = (refl, rounds (count *ℤ pos 1000))
steps Voltage count = (refl, (omega (arith, ints), omega (arith, ints)))
steps OpticalPower count = (refl, (omega (arith, ints), omega (arith, ints)))
steps Bias count = (refl, (omega (arith, ints), omega (arith, ints)))
steps ModulePower count = (refl, (omega (arith, ints), omega (arith, ints)))

pub returns-clause-steps : goal.returns-clause-steps
returns-clause-steps c = steps

by : (unit : PrintedUnit) (power : ℕ) (letter symbol : List ℕ) → Contains prefixes (power, letter) → Contains symbols (base_name unit, symbol)
    → unit_name unit ≡ letter ++ symbol → places unit ≡ 3 + power → IsWithoutPrefix unit
by unit power letter symbol is_prefix is_symbol printed counted =
    record { power = power; letter = letter; symbol = symbol; is_prefix = is_prefix; is_symbol = is_symbol; printed = printed; counted = counted }

units : EachUnitHasItsPrefix
unfolding base_name unit_name
units Celsius = by Celsius 0 [] (codes "C") (0, omega arith, refl) (0, omega arith, refl) refl refl
units Millivolt = by Millivolt 3 (codes "m") (codes "V") (1, omega arith, refl) (1, omega arith, refl) refl refl
units Microwatt = by Microwatt 6 (codes "u") (codes "W") (2, omega arith, refl) (2, omega arith, refl) refl refl
units Milliampere = by Milliampere 3 (codes "m") (codes "A") (1, omega arith, refl) (3, omega arith, refl) refl refl
units Watt = by Watt 0 [] (codes "W") (0, omega arith, refl) (2, omega arith, refl) refl refl
units Metre = by Metre 0 [] (codes "m") (0, omega arith, refl) (4, omega arith, refl) refl refl
units Kilometre = by Kilometre 0 [] (codes "km") (0, omega arith, refl) (5, omega arith, refl) refl refl
units Nanometre = by Nanometre 0 [] (codes "nm") (0, omega arith, refl) (6, omega arith, refl) refl refl
units Decibel = by Decibel 0 [] (codes "dB") (0, omega arith, refl) (7, omega arith, refl) refl refl
units Gigabaud = by Gigabaud 0 [] (codes "GBd") (0, omega arith, refl) (8, omega arith, refl) refl refl
units Percent = by Percent 0 [] (codes "%") (0, omega arith, refl) (9, omega arith, refl) refl refl

pub returns-clause-units : goal.returns-clause-units
returns-clause-units c = units
