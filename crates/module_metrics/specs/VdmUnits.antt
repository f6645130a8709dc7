-- The units of the metrics of VDM: without a prefix, and a share of one in place of a percentage. (Prometheus' practices, "Metric and
-- label naming", base units; the prefixes of the International System of Units; docs/formats.md, "Metrics"; this project's own)
use Rattle.std.specs.Prelude.{ℕ, ℤ, pos, neg_ℤ, List, codes}
use Rattle.observables.specs.declared.quantity.Unit.{Unit}
use Rattle.observables.specs.declared.quantity.Unit.TheVariants as units

unfoldable pub base_unit : Unit → List ℕ
base_unit units.Percent = codes "ratio"
base_unit units.Ratio = codes "ratio"
base_unit units.Frames = codes "frames"
base_unit units.Celsius = codes "celsius"
base_unit units.Volts = codes "volts"
base_unit units.Milliamperes = codes "amperes"
base_unit units.Milliwatts = codes "watts"
base_unit units.DecibelMilliwatts = codes "dbm"
base_unit units.Decibel = codes "decibels"
base_unit units.Megahertz = codes "hertz"
base_unit units.Picoseconds = codes "seconds"
base_unit units.SquarePicoseconds = codes "square_seconds"
base_unit units.PicosecondsPerNanometre = codes "seconds_per_meter"
base_unit units.KiloradiansPerSecond = codes "radians_per_second"

-- ten to this power of the base unit are one of the unit: a square picosecond is 10 ^ -24 square seconds, a picosecond per nanometre
-- 10 ^ -3 seconds per metre
abbrev pub power_of : Unit → ℤ
power_of units.Percent = neg_ℤ (pos 2)
power_of units.Ratio = pos 0
power_of units.Frames = pos 0
power_of units.Celsius = pos 0
power_of units.Volts = pos 0
power_of units.Milliamperes = neg_ℤ (pos 3)
power_of units.Milliwatts = neg_ℤ (pos 3)
power_of units.DecibelMilliwatts = pos 0
power_of units.Decibel = pos 0
power_of units.Megahertz = pos 6
power_of units.Picoseconds = neg_ℤ (pos 12)
power_of units.SquarePicoseconds = neg_ℤ (pos 24)
power_of units.PicosecondsPerNanometre = neg_ℤ (pos 3)
power_of units.KiloradiansPerSecond = pos 3
