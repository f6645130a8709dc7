-- What is measured, and how it is counted: what a quantity is about, how its words count, its unit, and its step as a fraction of that.
-- (OIF-CMIS-05.0, "VDM Observables" and "Module-Level Monitor Values"; OIF-C-CMIS-01.2; SFF-8636, "Free Side Device Monitors";
-- SFF-8472, "Internal Calibration")
use Rattle.std.specs.Prelude.{ℕ, ◌≡◌, ◌*◌, ◌^◌, pos, neg_ℤ, unsigned_abs}
use Rattle.observables.specs.declared.quantity.Quantity.{Quantity}
use Rattle.observables.specs.declared.quantity.Quantity.TheVariants as quantities
use Rattle.observables.specs.declared.quantity.Format.{Format}
use Rattle.observables.specs.declared.quantity.Format.TheVariants.{Unsigned, Signed, Float}
use Rattle.observables.specs.declared.quantity.Scope.{Scope}
use Rattle.observables.specs.declared.quantity.Scope.TheVariants.{Module, Lane, DataPath}
use Rattle.observables.specs.declared.quantity.Unit.{Unit}
use Rattle.observables.specs.declared.quantity.Unit.TheVariants as units
use Rattle.observables.specs.declared.quantity.QuantityRow.{QuantityRow}

-- so many digits after the point and a divisor write the step
abbrev pub counted : Scope → Format → Unit → ℕ → ℕ → ℕ → QuantityRow
counted scope format unit numerator places divisor =
    record { scope = scope; format = format; unit = unit; numerator = numerator; exponent = neg_ℤ (pos places); divisor = divisor }

abbrev pub quantity_row : Quantity → QuantityRow
quantity_row quantities.LaserAge = counted Lane Unsigned units.Percent 1 0 1
quantity_row quantities.TecCurrentShare = counted Module Signed units.Percent 100 0 32767
quantity_row quantities.LaserFrequencyError = counted Lane Signed units.Megahertz 10 0 1
quantity_row quantities.LaserTemperature = counted Lane Signed units.Celsius 390625 8 1
quantity_row quantities.SignalToNoise = counted Lane Unsigned units.Decibel 390625 8 1
quantity_row quantities.LevelTransition = counted Lane Unsigned units.Decibel 390625 8 1
quantity_row quantities.PreFecBer = counted DataPath Float units.Ratio 1 0 1
quantity_row quantities.ErroredFrames = counted DataPath Float units.Frames 1 0 1
quantity_row quantities.ModulatorBiasXI = counted Lane Unsigned units.Percent 100 0 65535
quantity_row quantities.ModulatorBiasXQ = counted Lane Unsigned units.Percent 100 0 65535
quantity_row quantities.ModulatorBiasYI = counted Lane Unsigned units.Percent 100 0 65535
quantity_row quantities.ModulatorBiasYQ = counted Lane Unsigned units.Percent 100 0 65535
quantity_row quantities.ModulatorBiasXPhase = counted Lane Unsigned units.Percent 100 0 65535
quantity_row quantities.ModulatorBiasYPhase = counted Lane Unsigned units.Percent 100 0 65535
quantity_row quantities.DispersionShortLink = counted Lane Signed units.PicosecondsPerNanometre 1 0 1
quantity_row quantities.DispersionLongLink = counted Lane Signed units.PicosecondsPerNanometre 20 0 1
quantity_row quantities.GroupDelay = counted Lane Unsigned units.Picoseconds 1 2 1
quantity_row quantities.SecondOrderPmd = counted Lane Unsigned units.SquarePicoseconds 1 2 1
quantity_row quantities.PolarizationLoss = counted Lane Unsigned units.Decibel 1 1 1
quantity_row quantities.OpticalSignalToNoise = counted Lane Unsigned units.Decibel 1 1 1
quantity_row quantities.ElectricalSignalToNoise = counted Lane Unsigned units.Decibel 1 1 1
quantity_row quantities.CarrierFrequencyOffset = counted Lane Signed units.Megahertz 1 0 1
quantity_row quantities.ErrorVector = counted Lane Unsigned units.Percent 100 0 65535
quantity_row quantities.TransmittedLevel = counted Lane Signed units.DecibelMilliwatts 1 2 1
quantity_row quantities.ReceivedTotalLevel = counted Lane Signed units.DecibelMilliwatts 1 2 1
quantity_row quantities.ReceivedSignalLevel = counted Lane Signed units.DecibelMilliwatts 1 2 1
quantity_row quantities.PolarizationChange = counted Lane Unsigned units.KiloradiansPerSecond 1 0 1
quantity_row quantities.ModulationErrorRatio = counted Lane Unsigned units.Decibel 1 1 1
quantity_row quantities.Temperature = counted Module Signed units.Celsius 390625 8 1
quantity_row quantities.SupplyVoltage = counted Module Unsigned units.Volts 1 4 1
quantity_row quantities.SecondSupplyVoltage = counted Module Unsigned units.Volts 1 4 1
quantity_row quantities.TransmittedPower = counted Lane Unsigned units.Milliwatts 1 4 1
quantity_row quantities.ReceivedPower = counted Lane Unsigned units.Milliwatts 1 4 1
quantity_row quantities.LaserBias = counted Lane Unsigned units.Milliamperes 2 3 1
quantity_row quantities.TecCurrent = counted Module Signed units.Milliamperes 1 1 1

-- the step, as the standard gives it: so many units, shared by so many
abbrev pub step_of : Quantity → ℕ × ℕ
step_of quantities.LaserAge = (1, 1)
step_of quantities.TecCurrentShare = (100, 32767)
step_of quantities.LaserFrequencyError = (10, 1)
step_of quantities.LaserTemperature = (1, 256)
step_of quantities.SignalToNoise = (1, 256)
step_of quantities.LevelTransition = (1, 256)
step_of quantities.PreFecBer = (1, 1)
step_of quantities.ErroredFrames = (1, 1)
step_of quantities.ModulatorBiasXI = (100, 65535)
step_of quantities.ModulatorBiasXQ = (100, 65535)
step_of quantities.ModulatorBiasYI = (100, 65535)
step_of quantities.ModulatorBiasYQ = (100, 65535)
step_of quantities.ModulatorBiasXPhase = (100, 65535)
step_of quantities.ModulatorBiasYPhase = (100, 65535)
step_of quantities.DispersionShortLink = (1, 1)
step_of quantities.DispersionLongLink = (20, 1)
step_of quantities.GroupDelay = (1, 100)
step_of quantities.SecondOrderPmd = (1, 100)
step_of quantities.PolarizationLoss = (1, 10)
step_of quantities.OpticalSignalToNoise = (1, 10)
step_of quantities.ElectricalSignalToNoise = (1, 10)
step_of quantities.CarrierFrequencyOffset = (1, 1)
step_of quantities.ErrorVector = (100, 65535)
step_of quantities.TransmittedLevel = (1, 100)
step_of quantities.ReceivedTotalLevel = (1, 100)
step_of quantities.ReceivedSignalLevel = (1, 100)
step_of quantities.PolarizationChange = (1, 1)
step_of quantities.ModulationErrorRatio = (1, 10)
step_of quantities.Temperature = (1, 256)
step_of quantities.SupplyVoltage = (1, 10000)
step_of quantities.SecondSupplyVoltage = (1, 10000)
step_of quantities.TransmittedPower = (1, 10000)
step_of quantities.ReceivedPower = (1, 10000)
step_of quantities.LaserBias = (2, 1000)
step_of quantities.TecCurrent = (1, 10)

-- the row of a quantity writes its step
abbrev pub RowWritesStep : Quantity → Type 0
RowWritesStep quantity =
    (quantity_row quantity).numerator * (step_of quantity).1 ≡ (step_of quantity).0 * 10 ^ unsigned_abs (quantity_row quantity).exponent * (quantity_row quantity).divisor
