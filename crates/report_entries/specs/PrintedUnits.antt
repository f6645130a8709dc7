-- The units that amounts print in, in thousandths. (docs/formats.md, "Values in reports"; this project's own)
use Rattle.std.specs.Prelude.{ℕ, List, codes}
use Rattle.field_tables.specs.declared.units.Unit.{Unit}
use Rattle.field_tables.specs.declared.units.Unit.TheVariants as units
use Rattle.report_entries.specs.declared.printed_unit.PrintedUnit.{PrintedUnit}
use Rattle.report_entries.specs.declared.printed_unit.PrintedUnit.TheVariants.{Celsius, Millivolt, Microwatt, Milliampere, Watt, Metre, Kilometre, Nanometre, Decibel, Gigabaud, Percent}

-- of a field whose row has this unit
abbrev pub printed_in : Unit → PrintedUnit
printed_in units.Temperature = Celsius
printed_in units.Voltage = Millivolt
printed_in units.OpticalPower = Microwatt
printed_in units.Bias = Milliampere
printed_in units.ModulePower = Watt

unfoldable pub unit_name : PrintedUnit → List ℕ
unit_name Celsius = codes "C"
unit_name Millivolt = codes "mV"
unit_name Microwatt = codes "uW"
unit_name Milliampere = codes "mA"
unit_name Watt = codes "W"
unit_name Metre = codes "m"
unit_name Kilometre = codes "km"
unit_name Nanometre = codes "nm"
unit_name Decibel = codes "dB"
unit_name Gigabaud = codes "GBd"
unit_name Percent = codes "%"

-- as it stands after the name in a key of JSON
unfoldable pub unit_key : PrintedUnit → List ℕ
unit_key Celsius = codes "c"
unit_key Millivolt = codes "mv"
unit_key Microwatt = codes "uw"
unit_key Milliampere = codes "ma"
unit_key Watt = codes "w"
unit_key Metre = codes "m"
unit_key Kilometre = codes "km"
unit_key Nanometre = codes "nm"
unit_key Decibel = codes "db"
unit_key Gigabaud = codes "gbd"
unit_key Percent = codes "percent"
