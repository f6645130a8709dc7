-- The names of the metrics of VDM are names of the format, and what is said of them is one line.
use Rattle.std.proofs.Common.{◌≡◌, Bool, true, false, ◌∷◌, ◌++◌, codes, refl}
use Rattle.std.specs.List.{list_all}
use Rattle.observables.specs.Quantities.{quantity_row}
use Rattle.observables.specs.declared.observable.Figure.{Figure}
use Rattle.observables.specs.declared.observable.Figure.TheVariants.{Now, Minimum, Maximum, Average, Current}
use Rattle.observables.specs.declared.quantity.Quantity.{Quantity}
use Rattle.observables.specs.declared.quantity.Quantity.TheVariants as quantities
use Rattle.observables.specs.declared.quantity.Unit.{Unit}
use Rattle.observables.specs.declared.quantity.Unit.TheVariants as units
use Rattle.module_metrics.specs.Grammar.{is_help, is_in_name, is_name}
use Rattle.module_metrics.specs.MetricNames.{words}
use Rattle.module_metrics.specs.VdmNames.{figure_part, figure_words, limits_part, limits_words, stem, vdm_help, vdm_name}
use Rattle.module_metrics.specs.VdmUnits.{base_unit}
use Rattle.module_metrics.specs.declared.vdm_name.Measure.{Measure}
use Rattle.module_metrics.proofs.Words.{all_append, is_plain, name_append, words_plain}

-- ---- names

stem_named : (quantity : Quantity) → list_all is_in_name (stem quantity) ≡ true
unfolding stem
stem_named quantities.LaserAge = refl
stem_named quantities.TecCurrentShare = refl
stem_named quantities.LaserFrequencyError = refl
stem_named quantities.LaserTemperature = refl
stem_named quantities.SignalToNoise = refl
stem_named quantities.LevelTransition = refl
stem_named quantities.PreFecBer = refl
stem_named quantities.ErroredFrames = refl
stem_named quantities.ModulatorBiasXI = refl
stem_named quantities.ModulatorBiasXQ = refl
stem_named quantities.ModulatorBiasYI = refl
stem_named quantities.ModulatorBiasYQ = refl
stem_named quantities.ModulatorBiasXPhase = refl
stem_named quantities.ModulatorBiasYPhase = refl
stem_named quantities.DispersionShortLink = refl
stem_named quantities.DispersionLongLink = refl
stem_named quantities.GroupDelay = refl
stem_named quantities.SecondOrderPmd = refl
stem_named quantities.PolarizationLoss = refl
stem_named quantities.OpticalSignalToNoise = refl
stem_named quantities.ElectricalSignalToNoise = refl
stem_named quantities.CarrierFrequencyOffset = refl
stem_named quantities.ErrorVector = refl
stem_named quantities.TransmittedLevel = refl
stem_named quantities.ReceivedTotalLevel = refl
stem_named quantities.ReceivedSignalLevel = refl
stem_named quantities.PolarizationChange = refl
stem_named quantities.ModulationErrorRatio = refl
stem_named quantities.Temperature = refl
stem_named quantities.SupplyVoltage = refl
stem_named quantities.SecondSupplyVoltage = refl
stem_named quantities.TransmittedPower = refl
stem_named quantities.ReceivedPower = refl
stem_named quantities.LaserBias = refl
stem_named quantities.TecCurrent = refl

unit_named : (unit : Unit) → list_all is_in_name (base_unit unit) ≡ true
unfolding base_unit
unit_named units.Percent = refl
unit_named units.Ratio = refl
unit_named units.Frames = refl
unit_named units.Celsius = refl
unit_named units.Volts = refl
unit_named units.Milliamperes = refl
unit_named units.Milliwatts = refl
unit_named units.DecibelMilliwatts = refl
unit_named units.Decibel = refl
unit_named units.Megahertz = refl
unit_named units.Picoseconds = refl
unit_named units.SquarePicoseconds = refl
unit_named units.PicosecondsPerNanometre = refl
unit_named units.KiloradiansPerSecond = refl

figure_named : (figure : Figure) → list_all is_in_name (figure_part figure) ≡ true
unfolding figure_part
figure_named Now = refl
figure_named Minimum = refl
figure_named Maximum = refl
figure_named Average = refl
figure_named Current = refl

limits_named : (limits : Bool) → list_all is_in_name (limits_part limits) ≡ true
unfolding limits_part
limits_named true = refl
limits_named false = refl

pub vdm_named : (limits : Bool) (of : Measure) → is_name (vdm_name limits of) ≡ true
unfolding vdm_name
vdm_named limits of =
    let unit = base_unit (quantity_row of.quantity).unit in
    let after = 95 ∷ (limits_part limits ++ unit) in
    name_append (codes "dovecounter_vdm_") (figure_part of.figure ++ (stem of.quantity ++ after)) refl
    (all_append is_in_name (figure_part of.figure) (stem of.quantity ++ after) (figure_named of.figure)
    (all_append is_in_name (stem of.quantity) after (stem_named of.quantity)
    (all_append is_in_name (limits_part limits) unit (limits_named limits) (unit_named (quantity_row of.quantity).unit))))

-- ---- help

figure_plain : (figure : Figure) → list_all is_plain (figure_words figure) ≡ true
unfolding figure_words
figure_plain Now = refl
figure_plain Minimum = refl
figure_plain Maximum = refl
figure_plain Average = refl
figure_plain Current = refl

limits_plain : (limits : Bool) → list_all is_plain (limits_words limits) ≡ true
unfolding limits_words
limits_plain true = refl
limits_plain false = refl

pub vdm_helped : (limits : Bool) (of : Measure) → is_help (vdm_help limits of) ≡ true
unfolding vdm_help
vdm_helped limits of =
    let unit = words 32 (base_unit (quantity_row of.quantity).unit) in
    let name = words 32 (stem of.quantity) in
    let last = codes " of VDM in " ++ unit in
    all_append is_plain (limits_words limits) (figure_words of.figure ++ (name ++ last)) (limits_plain limits)
    (all_append is_plain (figure_words of.figure) (name ++ last) (figure_plain of.figure)
    (all_append is_plain name last (words_plain (stem of.quantity))
    (all_append is_plain (codes " of VDM in ") unit refl (words_plain (base_unit (quantity_row of.quantity).unit)))))
