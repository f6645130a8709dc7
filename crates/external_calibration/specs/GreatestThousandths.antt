-- That thousandths are rounded down once, from the exact value. (SFF-8472, "Internal Calibration", has the steps: 1/256 degree
-- Celsius, 100 microvolts, 2 microamperes, 0.1 microwatts)
use Rattle.std.specs.Prelude.{ℕ, ◌*◌, ◌^◌, ℤ, pos, ◌*ℤ◌}
use Rattle.field_tables.specs.declared.units.Unit.{Unit}
use Rattle.field_tables.specs.declared.units.Unit.TheVariants.{Temperature, Voltage, OpticalPower, Bias, ModulePower}
use Rattle.field_tables.specs.Units.{IsFloor}
use Rattle.external_calibration.specs.Amounts.{thousandths}

-- how many thousandths of the printed unit a step is: so many parts, of which there are as many
abbrev pub step_of : Unit → ℕ × ℕ
step_of Temperature = (1000, 256)
step_of Voltage = (100, 1)
step_of OpticalPower = (100, 1)
step_of Bias = (2, 1)
step_of ModulePower = (250, 1)

-- of so many parts of a step, of which there are 2^halvings
abbrev pub ThousandthsAreTheGreatest : Type 0
ThousandthsAreTheGreatest =
    (unit : Unit) (halvings : ℕ) (parts : ℤ) → IsFloor (thousandths unit halvings parts) (parts *ℤ pos (step_of unit).0) ((step_of unit).1 * 2 ^ halvings)
