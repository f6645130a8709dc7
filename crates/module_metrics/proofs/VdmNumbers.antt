-- Each metric of VDM writes what was measured.
use Rattle.std.proofs.Common.{◌≡◌, ◌∙◌, ℕ, ◌==◌, true, ℤ, pos, Option, Some, None, List, [], ◌++◌, refl, sym, ap, append-nil}
use Rattle.std.specs.Prelude.{⊤, unsigned_abs}
use Rattle.std.specs.Option.{option_map_or}
use Rattle.std.proofs.lemmas.Bool.{cond_both}
use Rattle.observables.specs.Amounts.{amount_of}
use Rattle.observables.specs.Quantities.{quantity_row}
use Rattle.observables.specs.declared.amount.Amount.{Amount}
use Rattle.observables.specs.declared.fixed.Places.{Places}
use Rattle.observables.specs.declared.quantity.Format.TheVariants.{Unsigned, Signed, Float}
use Rattle.observables.specs.declared.quantity.Quantity.{Quantity}
use Rattle.observables.specs.declared.quantity.Quantity.TheVariants as quantities
use Rattle.observables.specs.declared.quantity.Unit.{Unit}
use Rattle.observables.specs.declared.quantity.Unit.TheVariants as units
use Rattle.observable_reports.specs.declared.amount_text.ShownAmount.{ShownAmount}
use Rattle.observable_reports.specs.declared.amount_text.ShownAmount.TheVariants as shown
use Rattle.observable_reports.specs.AmountTexts.{is_small, places_of, rounded_of, shown_as, text_of}
use Rattle.observable_reports.specs.WrittenAmounts.{IsNumber, IsWritten}
use Rattle.observable_reports.proofs.ExactTexts.{each_is_written}
use Rattle.observable_reports.proofs.WordNumbers.{each_is_a_number}
use Rattle.module_metrics.specs.Numbers.{float, fraction, number_of, power_text}
use Rattle.module_metrics.specs.VdmLaws.{EachWordIsWritten, HasNumber}
use Rattle.module_metrics.specs.VdmUnits.{power_of}

-- ---- only floats are shown with a power of their own, and their units are the metrics'

abbrev Fits : ℤ → ShownAmount → Type 0
Fits power (shown.Scientific number) = (unsigned_abs power == 0) ≡ true
Fits power (shown.Fixed number) = ⊤
Fits power (shown.Fraction amount) = ⊤

of_one : (as_shown : ShownAmount) → Fits (pos 0) as_shown
of_one (shown.Scientific number) = refl
of_one (shown.Fixed number) = tt
of_one (shown.Fraction amount) = tt

by_places : (power : ℤ) (amount : Amount) (o : Option Places)
    → Fits power (option_map_or (λ those. shown.Fixed (record { mantissa = amount.mantissa; places = those })) o (shown.Fraction amount))
by_places power amount None = tt
by_places power amount (Some those) = tt

shared : (power : ℤ) (amount : Amount) → Fits power (rounded_of amount)
shared power amount = cond_both (is_small amount) _ _ (Fits power) (λ _. tt) (λ _. tt)

of_steps_unsigned : (power : ℤ) (amount : Amount) → Fits power (shown_as Unsigned amount)
of_steps_unsigned power amount =
    cond_both (amount.divisor == 1) _ _ (Fits power) (λ _. by_places power amount (places_of amount.exponent)) (λ _. shared power amount)

of_steps_signed : (power : ℤ) (amount : Amount) → Fits power (shown_as Signed amount)
of_steps_signed power amount =
    cond_both (amount.divisor == 1) _ _ (Fits power) (λ _. by_places power amount (places_of amount.exponent)) (λ _. shared power amount)

power_fits : (quantity : Quantity) (amount : Amount) → Fits (power_of (quantity_row quantity).unit) (shown_as (quantity_row quantity).format amount)
power_fits quantities.LaserAge amount = of_steps_unsigned (power_of units.Percent) amount
power_fits quantities.TecCurrentShare amount = of_steps_signed (power_of units.Percent) amount
power_fits quantities.LaserFrequencyError amount = of_steps_signed (power_of units.Megahertz) amount
power_fits quantities.LaserTemperature amount = of_steps_signed (power_of units.Celsius) amount
power_fits quantities.SignalToNoise amount = of_steps_unsigned (power_of units.Decibel) amount
power_fits quantities.LevelTransition amount = of_steps_unsigned (power_of units.Decibel) amount
power_fits quantities.PreFecBer amount = of_one (shown_as Float amount)
power_fits quantities.ErroredFrames amount = of_one (shown_as Float amount)
power_fits quantities.ModulatorBiasXI amount = of_steps_unsigned (power_of units.Percent) amount
power_fits quantities.ModulatorBiasXQ amount = of_steps_unsigned (power_of units.Percent) amount
power_fits quantities.ModulatorBiasYI amount = of_steps_unsigned (power_of units.Percent) amount
power_fits quantities.ModulatorBiasYQ amount = of_steps_unsigned (power_of units.Percent) amount
power_fits quantities.ModulatorBiasXPhase amount = of_steps_unsigned (power_of units.Percent) amount
power_fits quantities.ModulatorBiasYPhase amount = of_steps_unsigned (power_of units.Percent) amount
power_fits quantities.DispersionShortLink amount = of_steps_signed (power_of units.PicosecondsPerNanometre) amount
power_fits quantities.DispersionLongLink amount = of_steps_signed (power_of units.PicosecondsPerNanometre) amount
power_fits quantities.GroupDelay amount = of_steps_unsigned (power_of units.Picoseconds) amount
power_fits quantities.SecondOrderPmd amount = of_steps_unsigned (power_of units.SquarePicoseconds) amount
power_fits quantities.PolarizationLoss amount = of_steps_unsigned (power_of units.Decibel) amount
power_fits quantities.OpticalSignalToNoise amount = of_steps_unsigned (power_of units.Decibel) amount
power_fits quantities.ElectricalSignalToNoise amount = of_steps_unsigned (power_of units.Decibel) amount
power_fits quantities.CarrierFrequencyOffset amount = of_steps_signed (power_of units.Megahertz) amount
power_fits quantities.ErrorVector amount = of_steps_unsigned (power_of units.Percent) amount
power_fits quantities.TransmittedLevel amount = of_steps_signed (power_of units.DecibelMilliwatts) amount
power_fits quantities.ReceivedTotalLevel amount = of_steps_signed (power_of units.DecibelMilliwatts) amount
power_fits quantities.ReceivedSignalLevel amount = of_steps_signed (power_of units.DecibelMilliwatts) amount
power_fits quantities.PolarizationChange amount = of_steps_unsigned (power_of units.KiloradiansPerSecond) amount
power_fits quantities.ModulationErrorRatio amount = of_steps_unsigned (power_of units.Decibel) amount
power_fits quantities.Temperature amount = of_steps_signed (power_of units.Celsius) amount
power_fits quantities.SupplyVoltage amount = of_steps_unsigned (power_of units.Volts) amount
power_fits quantities.SecondSupplyVoltage amount = of_steps_unsigned (power_of units.Volts) amount
power_fits quantities.TransmittedPower amount = of_steps_unsigned (power_of units.Milliwatts) amount
power_fits quantities.ReceivedPower amount = of_steps_unsigned (power_of units.Milliwatts) amount
power_fits quantities.LaserBias amount = of_steps_unsigned (power_of units.Milliamperes) amount
power_fits quantities.TecCurrent amount = of_steps_signed (power_of units.Milliamperes) amount

-- ---- the number of what is shown

no_power : (power : ℤ) → (unsigned_abs power == 0) ≡ true → power_text power ≡ []
unfolding power_text
no_power power none = rw none refl

numbered : (unit : Unit) (amount : Amount) (as_shown : ShownAmount) → IsNumber as_shown → Fits (power_of unit) as_shown → IsWritten amount (text_of as_shown)
    → HasNumber unit amount (number_of as_shown (power_of unit))
unfolding text_of
numbered unit amount (shown.Scientific number) is fits written = record {
  written = float number;
  shown = text_of (shown.Scientific number);
  is_number = rw fits refl;
  is_text = sym (ap (λ (t : List ℕ). text_of (shown.Scientific number) ++ t) (no_power (power_of unit) fits) ∙ append-nil (text_of (shown.Scientific number)));
  is_amount = written;
}
numbered unit amount (shown.Fixed number) is fits written = record {
  written = fraction number (power_of unit);
  shown = text_of (shown.Fixed number);
  is_number = refl;
  is_text = refl;
  is_amount = written;
}
numbered unit amount (shown.Fraction parts) is fits written = absurd is

pub each_word : EachWordIsWritten
each_word quantity word below =
    let amount = amount_of quantity word in
    let as_shown = shown_as (quantity_row quantity).format amount in
    numbered (quantity_row quantity).unit amount as_shown (each_is_a_number quantity word below) (power_fits quantity amount) (each_is_written (quantity_row quantity).format amount)
