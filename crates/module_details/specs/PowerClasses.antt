-- The power class of a module of SFF-8636, and its power in milliwatts. (SFF-8636, Extended Identifier of page 00h, and Max
-- Power Consumption of power class 8)
use Rattle.std.specs.Prelude.{ℕ, ◌+◌, ◌*◌, ◌==◌, nat_lt, if◌then◌else◌}
use Rattle.paged_memory.specs.Images.{Memory}
use Rattle.field_tables.specs.declared.field.Field.TheVariants as fields
use Rattle.field_tables.specs.declared.table.sff8636.Sff8636Field.TheVariants as sff8636
use Rattle.field_tables.specs.Readings.{bit, number}

unfoldable pub power_class : Memory → ℕ
power_class memory =
    if bit memory (fields.Sff8636 sff8636.PowerClass8) then 8
    else if nat_lt 0 (number memory (fields.Sff8636 sff8636.PowerClassHigh)) then number memory (fields.Sff8636 sff8636.PowerClassHigh) + 4
    else number memory (fields.Sff8636 sff8636.PowerClass) + 1

-- of classes 1 to 7
abbrev pub power_of : ℕ → ℕ
power_of class =
    if class == 1 then 1500
    else if class == 2 then 2000
    else if class == 3 then 2500
    else if class == 4 then 3500
    else if class == 5 then 4000
    else if class == 6 then 4500
    else 5000

unfoldable pub class_power : Memory → ℕ
class_power memory = if bit memory (fields.Sff8636 sff8636.PowerClass8) then number memory (fields.Sff8636 sff8636.MaxPower) * 100 else power_of (power_class memory)
