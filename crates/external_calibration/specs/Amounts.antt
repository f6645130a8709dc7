-- What calibrated readings amount to. (SFF-8472, "External Calibration"; this project's own: rounded down to a thousandth of the
-- printed unit)
use Rattle.std.specs.Prelude.{ℕ, ◌^◌, ℤ, pos, ◌+ℤ◌, ◌*ℤ◌}
use Rattle.std.specs.Int.{int_pow}
use Rattle.field_tables.specs.declared.units.Unit.{Unit}
use Rattle.field_tables.specs.declared.units.Unit.TheVariants as units
use Rattle.field_tables.specs.Units.{floor_div, millis_of}
use Rattle.external_calibration.specs.declared.constants.Constants.{Constants}
use Rattle.external_calibration.specs.declared.constants.Line.{Line}
use Rattle.external_calibration.specs.declared.constants.Polynomial.{Polynomial}
use Rattle.external_calibration.specs.declared.monitor.Monitor.{Monitor}
use Rattle.external_calibration.specs.declared.monitor.Monitor.TheVariants.{Temperature, Vcc, TxBias, TxPower, RxPower}
use Rattle.external_calibration.specs.Floats.{parts_of}

-- the unit of which a calibrated reading counts the steps: 1/256 C, 100 uV, 2 uA, 0.1 uW
abbrev pub unit_of : Monitor → Unit
unit_of Temperature = units.Temperature
unit_of Vcc = units.Voltage
unit_of TxBias = units.Bias
unit_of TxPower = units.OpticalPower
unit_of RxPower = units.OpticalPower

-- slope * reading + offset, in 256ths of a step, since the slope counts 256ths
abbrev pub on_line : Line → ℤ → ℤ
on_line line reading = pos line.slope *ℤ reading +ℤ line.offset *ℤ pos 256

-- Rx_PWR(4) * reading^4 + .. + Rx_PWR(0), in parts of a step, of which there are 2^149
unfoldable pub on_polynomial : Polynomial → ℤ → ℤ
on_polynomial constants reading =
    parts_of constants.fourth *ℤ int_pow reading 4
    +ℤ parts_of constants.third *ℤ int_pow reading 3
    +ℤ parts_of constants.second *ℤ int_pow reading 2
    +ℤ parts_of constants.first *ℤ int_pow reading 1
    +ℤ parts_of constants.zeroth *ℤ int_pow reading 0

-- the greatest thousandth of the printed unit that is not above so many parts of a step, of which there are 2^halvings
abbrev pub thousandths : Unit → ℕ → ℤ → ℤ
thousandths unit halvings parts = floor_div (millis_of parts unit) (2 ^ halvings)

-- the amount of a reading, or of a limit, in thousandths of the printed unit
unfoldable pub amount_of : Constants → Monitor → ℤ → ℤ
amount_of constants Temperature reading = thousandths units.Temperature 8 (on_line constants.temperature reading)
amount_of constants Vcc reading = thousandths units.Voltage 8 (on_line constants.vcc reading)
amount_of constants TxBias reading = thousandths units.Bias 8 (on_line constants.tx_bias reading)
amount_of constants TxPower reading = thousandths units.OpticalPower 8 (on_line constants.tx_power reading)
amount_of constants RxPower reading = thousandths units.OpticalPower 149 (on_polynomial constants.rx_power reading)
