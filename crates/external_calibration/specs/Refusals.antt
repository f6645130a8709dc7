-- Why constants calibrate nothing. (This project's own: SFF-8472 says nothing of constants that are no numbers, or too large)
use Rattle.std.specs.Prelude.{ℕ, ◌+◌, ◌-◌, ◌*◌, [], ◌∷◌, not, Bool, Option, None, fold}
use Rattle.std.specs.Option.{option_or}
use Rattle.field_tables.specs.FirstFault.{first_fault}
use Rattle.external_calibration.specs.declared.constants.Constants.{Constants}
use Rattle.external_calibration.specs.declared.constants.Polynomial.{Polynomial}
use Rattle.external_calibration.specs.declared.fault.CalibrationFault.{CalibrationFault}
use Rattle.external_calibration.specs.declared.fault.CalibrationFault.TheVariants.{NotFinite, OutOfRange}
use Rattle.external_calibration.specs.declared.monitor.Monitor.{Monitor}
use Rattle.external_calibration.specs.declared.monitor.Monitor.TheVariants.{Temperature, Vcc, TxBias, TxPower, RxPower}
use Rattle.external_calibration.specs.Floats.{is_below_power, is_finite}

-- A reading of 16 bits is below 2^16. A constant that multiplies its power n is to be below 2^(48 - 16 n), so that the product is
-- below 2^48. Floats count from 2^-149.
abbrev pub is_in_range : ℕ → ℕ → Bool
is_in_range power bits = is_below_power bits (149 + 48 - 16 * power)

-- of a constant that multiplies this power of a reading
abbrev pub fault_of : ℕ → ℕ → Option CalibrationFault
fault_of power bits = first_fault ((not (is_finite bits), NotFinite power) ∷ (not (is_in_range power bits), OutOfRange power) ∷ [])

-- the first, from the highest power down, as the constants stand in memory
unfoldable pub refusal_of : Polynomial → Option CalibrationFault
refusal_of constants = fold option_or None (
    fault_of 4 constants.fourth
    ∷ fault_of 3 constants.third
    ∷ fault_of 2 constants.second
    ∷ fault_of 1 constants.first
    ∷ fault_of 0 constants.zeroth
    ∷ []
    )

-- of the readings of a monitor: slopes and offsets are never refused
abbrev pub refusal_by : Constants → Monitor → Option CalibrationFault
refusal_by constants Temperature = None
refusal_by constants Vcc = None
refusal_by constants TxBias = None
refusal_by constants TxPower = None
refusal_by constants RxPower = refusal_of constants.rx_power
