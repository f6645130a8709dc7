-- Where the constants are. (docs/fields.md, "SFF-8472"; SFF-8472, "External Calibration", "Calibration Constants for External
-- Calibration Option")
use Rattle.std.specs.Prelude.{ℕ, ◌+◌, ◌*◌, ◌^◌}
use Rattle.paged_memory.specs.Images.{Memory}
use Rattle.field_tables.specs.declared.field.Field.TheVariants as fields
use Rattle.field_tables.specs.declared.table.sff8472.Sff8472Field.TheVariants as sff8472
use Rattle.field_tables.specs.Readings.{number_at, reading_at}
use Rattle.external_calibration.specs.declared.constants.Line.{Line}
use Rattle.external_calibration.specs.declared.constants.Polynomial.{Polynomial}
use Rattle.external_calibration.specs.declared.constants.Constants.{Constants}

-- an unsigned slope and a signed offset: 1 to 4 of Tx_I, Tx_PWR, T and V
abbrev pub line_of : Memory → ℕ → Line
line_of memory i = record { slope = number_at memory (fields.Sff8472 sff8472.Slopes) i; offset = reading_at memory (fields.Sff8472 sff8472.Offsets) i }

-- a float of two words, the higher first
abbrev pub coefficient : Memory → ℕ → ℕ
coefficient memory i = number_at memory (fields.Sff8472 sff8472.RxPowerCoefficients) i * 2 ^ 16 + number_at memory (fields.Sff8472 sff8472.RxPowerCoefficients) (i + 1)

-- Rx_PWR(4) to Rx_PWR(0)
abbrev pub polynomial_of : Memory → Polynomial
polynomial_of memory = record {
  fourth = coefficient memory 1;
  third = coefficient memory 3;
  second = coefficient memory 5;
  first = coefficient memory 7;
  zeroth = coefficient memory 9;
}

unfoldable pub constants_of : Memory → Constants
constants_of memory = record {
  rx_power = polynomial_of memory;
  tx_bias = line_of memory 1;
  tx_power = line_of memory 2;
  temperature = line_of memory 3;
  vcc = line_of memory 4;
}
