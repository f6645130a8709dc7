-- What a number counts: ones, or parts of one. (docs/formats.md, "Metrics"; this project's own)
use Rattle.std.specs.Prelude.{ℕ}
use Rattle.module_metrics.specs.declared.scale.Scale.{Scale}
use Rattle.module_metrics.specs.declared.scale.Scale.TheVariants.{Ones, Thousandths, Millionths, Billionths}

-- ten to this many are one
abbrev pub places_of : Scale → ℕ
places_of Ones = 0
places_of Thousandths = 3
places_of Millionths = 6
places_of Billionths = 9
