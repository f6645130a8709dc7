-- Constants by which a reading counts steps as it stands. (SFF-8472, "Internal Calibration")
use Rattle.std.specs.Prelude.{◌≡◌, ℤ, pos}
use Rattle.field_tables.specs.Units.{millis_of}
use Rattle.external_calibration.specs.declared.constants.Constants.{Constants}
use Rattle.external_calibration.specs.declared.constants.Line.{Line}
use Rattle.external_calibration.specs.declared.monitor.Monitor.{Monitor}
use Rattle.external_calibration.specs.Amounts.{amount_of, unit_of}

abbrev pub neutral_line : Line
neutral_line = record { slope = 256; offset = pos 0 }

-- 3f800000h, which is 1065353216, is the float 1.0
abbrev pub neutral : Constants
neutral = record {
  rx_power = record { fourth = 0; third = 0; second = 0; first = 1065353216; zeroth = 0 };
  tx_bias = neutral_line;
  tx_power = neutral_line;
  temperature = neutral_line;
  vcc = neutral_line;
}

abbrev pub NeutralConstantsChangeNothing : Type 0
NeutralConstantsChangeNothing = (monitor : Monitor) (reading : ℤ) → amount_of neutral monitor reading ≡ millis_of reading (unit_of monitor)
