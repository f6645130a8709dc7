-- The units of metrics, which have no prefix, and how a report's amounts are counted in them. (Prometheus' practices, "Metric and
-- label naming", base units; docs/formats.md, "Metrics"; this project's own)
use Rattle.std.specs.Prelude.{ℕ, ◌+◌, List, codes}
use Rattle.report_entries.specs.declared.printed_unit.PrintedUnit.{PrintedUnit}
use Rattle.report_entries.specs.declared.printed_unit.PrintedUnit.TheVariants.{Celsius, Millivolt, Microwatt, Milliampere, Watt, Metre, Kilometre, Nanometre, Decibel, Gigabaud, Percent}

-- the unit without its prefix
unfoldable pub base_name : PrintedUnit → List ℕ
base_name Celsius = codes "celsius"
base_name Millivolt = codes "volts"
base_name Microwatt = codes "watts"
base_name Milliampere = codes "amperes"
base_name Watt = codes "watts"
base_name Metre = codes "meters"
-- in no report whose amounts are metrics; they keep their prefix
base_name Kilometre = codes "kilometers"
base_name Nanometre = codes "nanometers"
base_name Decibel = codes "decibels"
base_name Gigabaud = codes "gigabauds"
base_name Percent = codes "percent"

-- ten to this are one without the prefix
abbrev pub prefix : PrintedUnit → ℕ
prefix Celsius = 0
prefix Millivolt = 3
prefix Microwatt = 6
prefix Milliampere = 3
prefix Watt = 0
prefix Metre = 0
prefix Kilometre = 0
prefix Nanometre = 0
prefix Decibel = 0
prefix Gigabaud = 0
prefix Percent = 0

-- a report counts thousandths
abbrev pub places : PrintedUnit → ℕ
places unit = 3 + prefix unit
