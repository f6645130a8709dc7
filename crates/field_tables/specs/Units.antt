-- Thousandths of the printed unit, from the steps that monitored values are counted in. (docs/fields.md, "Units";
-- OIF-CMIS-05.0, chapter 8 "Module Management Memory Map", the monitor values of lower memory)
use Rattle.std.specs.Prelude.{ℕ, ℤ, pos, ◌+ℤ◌, ◌*ℤ◌, ◌≤ℤ◌, ◌<ℤ◌}
use Rattle.std.specs.Int.{int_div_euclid}
use Rattle.field_tables.specs.declared.units.Unit.{Unit}
use Rattle.field_tables.specs.declared.units.Unit.TheVariants.{Temperature, Voltage, OpticalPower, Bias, ModulePower}

-- a quotient, rounded down
abbrev pub floor_div : ℤ → ℕ → ℤ
floor_div z d = int_div_euclid z (pos d)

-- the quotient is the greatest whole number that is at most z / d
abbrev pub IsFloor : ℤ → ℤ → ℕ → Type 0
IsFloor quotient z d = ((quotient *ℤ pos d) ≤ℤ z) × (z <ℤ ((quotient +ℤ pos 1) *ℤ pos d))

abbrev pub millis_of : ℤ → Unit → ℤ
millis_of value Temperature = floor_div (value *ℤ pos 1000) 256
millis_of value Voltage = value *ℤ pos 100
millis_of value OpticalPower = value *ℤ pos 100
millis_of value Bias = value *ℤ pos 2
millis_of value ModulePower = value *ℤ pos 250
