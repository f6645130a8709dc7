-- Names of the metrics of VDM, and what is said of each: its figure, quantity and unit. (OIF-CMIS-05.0, "VDM Observables";
-- OIF-C-CMIS-01.2; Prometheus' practices, "Metric and label naming"; docs/formats.md, "Metrics"; this project's own)
use Rattle.std.specs.Prelude.{ℕ, Bool, if◌then◌else◌, List, [], ◌∷◌, ◌++◌, codes}
use Rattle.observables.specs.Quantities.{quantity_row}
use Rattle.observables.specs.declared.observable.Figure.{Figure}
use Rattle.observables.specs.declared.observable.Figure.TheVariants.{Now, Minimum, Maximum, Average, Current}
use Rattle.observables.specs.declared.quantity.Quantity.{Quantity}
use Rattle.observables.specs.declared.quantity.Quantity.TheVariants as quantities
use Rattle.module_metrics.specs.MetricNames.{words}
use Rattle.module_metrics.specs.VdmUnits.{base_unit}
use Rattle.module_metrics.specs.declared.vdm_name.Measure.{Measure}

-- ---- what has a metric

abbrev pub measure : Figure → Quantity → Measure
measure figure quantity = record { quantity = quantity; figure = figure }

unfoldable pub measures : List Measure
measures =
    measure Now quantities.LaserAge
    ∷ measure Now quantities.TecCurrentShare
    ∷ measure Now quantities.LaserFrequencyError
    ∷ measure Now quantities.LaserTemperature
    ∷ measure Now quantities.SignalToNoise
    ∷ measure Now quantities.LevelTransition
    ∷ measure Minimum quantities.PreFecBer
    ∷ measure Maximum quantities.PreFecBer
    ∷ measure Average quantities.PreFecBer
    ∷ measure Current quantities.PreFecBer
    ∷ measure Minimum quantities.ErroredFrames
    ∷ measure Maximum quantities.ErroredFrames
    ∷ measure Average quantities.ErroredFrames
    ∷ measure Current quantities.ErroredFrames
    ∷ measure Now quantities.ModulatorBiasXI
    ∷ measure Now quantities.ModulatorBiasXQ
    ∷ measure Now quantities.ModulatorBiasYI
    ∷ measure Now quantities.ModulatorBiasYQ
    ∷ measure Now quantities.ModulatorBiasXPhase
    ∷ measure Now quantities.ModulatorBiasYPhase
    ∷ measure Now quantities.DispersionShortLink
    ∷ measure Now quantities.DispersionLongLink
    ∷ measure Now quantities.GroupDelay
    ∷ measure Now quantities.SecondOrderPmd
    ∷ measure Now quantities.PolarizationLoss
    ∷ measure Now quantities.OpticalSignalToNoise
    ∷ measure Now quantities.ElectricalSignalToNoise
    ∷ measure Now quantities.CarrierFrequencyOffset
    ∷ measure Now quantities.ErrorVector
    ∷ measure Now quantities.TransmittedLevel
    ∷ measure Now quantities.ReceivedTotalLevel
    ∷ measure Now quantities.ReceivedSignalLevel
    ∷ measure Now quantities.PolarizationChange
    ∷ measure Now quantities.ModulationErrorRatio
    ∷ []

-- ---- names

unfoldable pub stem : Quantity → List ℕ
stem quantities.LaserAge = codes "laser_age"
stem quantities.TecCurrentShare = codes "tec_current_share"
stem quantities.LaserFrequencyError = codes "laser_frequency_error"
stem quantities.LaserTemperature = codes "laser_temperature"
stem quantities.SignalToNoise = codes "snr"
stem quantities.LevelTransition = codes "level_transition"
stem quantities.PreFecBer = codes "pre_fec_ber"
stem quantities.ErroredFrames = codes "errored"
stem quantities.ModulatorBiasXI = codes "modulator_bias_xi"
stem quantities.ModulatorBiasXQ = codes "modulator_bias_xq"
stem quantities.ModulatorBiasYI = codes "modulator_bias_yi"
stem quantities.ModulatorBiasYQ = codes "modulator_bias_yq"
stem quantities.ModulatorBiasXPhase = codes "modulator_bias_x_phase"
stem quantities.ModulatorBiasYPhase = codes "modulator_bias_y_phase"
stem quantities.DispersionShortLink = codes "dispersion_short_link"
stem quantities.DispersionLongLink = codes "dispersion_long_link"
stem quantities.GroupDelay = codes "differential_group_delay"
stem quantities.SecondOrderPmd = codes "second_order_pmd"
stem quantities.PolarizationLoss = codes "polarization_dependent_loss"
stem quantities.OpticalSignalToNoise = codes "osnr"
stem quantities.ElectricalSignalToNoise = codes "electrical_snr"
stem quantities.CarrierFrequencyOffset = codes "carrier_frequency_offset"
stem quantities.ErrorVector = codes "error_vector_magnitude"
stem quantities.TransmittedLevel = codes "tx_level"
stem quantities.ReceivedTotalLevel = codes "rx_total_level"
stem quantities.ReceivedSignalLevel = codes "rx_signal_level"
stem quantities.PolarizationChange = codes "polarization_change_rate"
stem quantities.ModulationErrorRatio = codes "modulation_error_ratio"
stem quantities.Temperature = codes "temperature"
stem quantities.SupplyVoltage = codes "vcc"
stem quantities.SecondSupplyVoltage = codes "vcc_2"
stem quantities.TransmittedPower = codes "tx_power"
stem quantities.ReceivedPower = codes "rx_power"
stem quantities.LaserBias = codes "tx_bias"
stem quantities.TecCurrent = codes "tec_current"

unfoldable pub figure_part : Figure → List ℕ
figure_part Now = []
figure_part Minimum = codes "minimum_"
figure_part Maximum = codes "maximum_"
figure_part Average = codes "average_"
figure_part Current = codes "last_"

unfoldable pub limits_part : Bool → List ℕ
limits_part limits = if limits then codes "limits_" else []

-- of the values, or of their limits, as dovecounter_vdm_average_pre_fec_ber_limits_ratio
unfoldable pub vdm_name : Bool → Measure → List ℕ
vdm_name limits of =
    codes "dovecounter_vdm_" ++ (figure_part of.figure ++ (stem of.quantity ++ (95 ∷ (limits_part limits ++ base_unit (quantity_row of.quantity).unit))))

-- ---- help

unfoldable pub figure_words : Figure → List ℕ
figure_words Now = []
figure_words Minimum = codes "minimum "
figure_words Maximum = codes "maximum "
figure_words Average = codes "average "
figure_words Current = codes "last "

unfoldable pub limits_words : Bool → List ℕ
limits_words limits = if limits then codes "limits of " else []

-- as "limits of average pre fec ber of VDM in ratio"
unfoldable pub vdm_help : Bool → Measure → List ℕ
vdm_help limits of =
    limits_words limits ++ (figure_words of.figure ++ (words 32 (stem of.quantity) ++ (codes " of VDM in " ++ words 32 (base_unit (quantity_row of.quantity).unit))))
