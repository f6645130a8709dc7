-- Each row writes its step, and so a word of so many steps amounts to so many steps.
use Rattle.std.proofs.Common.{◌≡◌, ℕ, ◌*◌, ℤ, pos, arith, refl, ap, ◌∙◌}
use Rattle.std.specs.Prelude.{◌*ℤ◌, ◌≤ℤ◌}
use borrow.Author.Differences.{same_in, product_is}
use Rattle.observables.specs.declared.quantity.Quantity.{Quantity}
use Rattle.observables.specs.declared.quantity.Quantity.TheVariants as quantities
use Rattle.observables.specs.Quantities.{quantity_row, step_of, RowWritesStep}
use Rattle.observables.specs.Amounts.{AreSteps, scaled}

mul_groups : (a : ℤ) (m n : ℕ) → (a *ℤ pos m) *ℤ pos n ≡ a *ℤ pos (m * n)
mul_groups a m n =
    let ups = ap (λ x. x * n) (product_is a (pos m)).0 in
    let downs = ap (λ x. x * n) (product_is a (pos m)).1 in
    same_in _ _ (omega (arith, ups, downs, product_is (a *ℤ pos m) (pos n), product_is a (pos (m * n))))

pub writes_step : (quantity : Quantity) → RowWritesStep quantity
writes_step quantities.LaserAge = refl
writes_step quantities.TecCurrentShare = refl
writes_step quantities.LaserFrequencyError = refl
writes_step quantities.LaserTemperature = refl
writes_step quantities.SignalToNoise = refl
writes_step quantities.LevelTransition = refl
writes_step quantities.PreFecBer = refl
writes_step quantities.ErroredFrames = refl
writes_step quantities.ModulatorBiasXI = refl
writes_step quantities.ModulatorBiasXQ = refl
writes_step quantities.ModulatorBiasYI = refl
writes_step quantities.ModulatorBiasYQ = refl
writes_step quantities.ModulatorBiasXPhase = refl
writes_step quantities.ModulatorBiasYPhase = refl
writes_step quantities.DispersionShortLink = refl
writes_step quantities.DispersionLongLink = refl
writes_step quantities.GroupDelay = refl
writes_step quantities.SecondOrderPmd = refl
writes_step quantities.PolarizationLoss = refl
writes_step quantities.OpticalSignalToNoise = refl
writes_step quantities.ElectricalSignalToNoise = refl
writes_step quantities.CarrierFrequencyOffset = refl
writes_step quantities.ErrorVector = refl
writes_step quantities.TransmittedLevel = refl
writes_step quantities.ReceivedTotalLevel = refl
writes_step quantities.ReceivedSignalLevel = refl
writes_step quantities.PolarizationChange = refl
writes_step quantities.ModulationErrorRatio = refl
writes_step quantities.Temperature = refl
writes_step quantities.SupplyVoltage = refl
writes_step quantities.SecondSupplyVoltage = refl
writes_step quantities.TransmittedPower = refl
writes_step quantities.ReceivedPower = refl
writes_step quantities.LaserBias = refl
writes_step quantities.TecCurrent = refl

not_above : (quantity : Quantity) → (quantity_row quantity).exponent ≤ℤ pos 0
not_above quantities.LaserAge = omega arith
not_above quantities.TecCurrentShare = omega arith
not_above quantities.LaserFrequencyError = omega arith
not_above quantities.LaserTemperature = omega arith
not_above quantities.SignalToNoise = omega arith
not_above quantities.LevelTransition = omega arith
not_above quantities.PreFecBer = omega arith
not_above quantities.ErroredFrames = omega arith
not_above quantities.ModulatorBiasXI = omega arith
not_above quantities.ModulatorBiasXQ = omega arith
not_above quantities.ModulatorBiasYI = omega arith
not_above quantities.ModulatorBiasYQ = omega arith
not_above quantities.ModulatorBiasXPhase = omega arith
not_above quantities.ModulatorBiasYPhase = omega arith
not_above quantities.DispersionShortLink = omega arith
not_above quantities.DispersionLongLink = omega arith
not_above quantities.GroupDelay = omega arith
not_above quantities.SecondOrderPmd = omega arith
not_above quantities.PolarizationLoss = omega arith
not_above quantities.OpticalSignalToNoise = omega arith
not_above quantities.ElectricalSignalToNoise = omega arith
not_above quantities.CarrierFrequencyOffset = omega arith
not_above quantities.ErrorVector = omega arith
not_above quantities.TransmittedLevel = omega arith
not_above quantities.ReceivedTotalLevel = omega arith
not_above quantities.ReceivedSignalLevel = omega arith
not_above quantities.PolarizationChange = omega arith
not_above quantities.ModulationErrorRatio = omega arith
not_above quantities.Temperature = omega arith
not_above quantities.SupplyVoltage = omega arith
not_above quantities.SecondSupplyVoltage = omega arith
not_above quantities.TransmittedPower = omega arith
not_above quantities.ReceivedPower = omega arith
not_above quantities.LaserBias = omega arith
not_above quantities.TecCurrent = omega arith

pub are_steps : (quantity : Quantity) (steps : ℤ) → AreSteps (step_of quantity) steps (scaled quantity steps)
are_steps quantity steps = record {
  not_above = not_above quantity;
  same =
      mul_groups steps (quantity_row quantity).numerator (step_of quantity).1
      ∙ ap (λ (n : ℕ). steps *ℤ pos n) (writes_step quantity);
}
