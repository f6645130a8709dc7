-- Words for what is measured, where, and in what unit. (docs/formats.md, "observables"; this project's own)
use Rattle.std.specs.Prelude.{ℕ, List, Option, Some, None, codes}
use Rattle.observables.specs.declared.observable.Figure.{Figure}
use Rattle.observables.specs.declared.observable.Figure.TheVariants as figures
use Rattle.observables.specs.declared.observable.Side.{Side}
use Rattle.observables.specs.declared.observable.Side.TheVariants.{Media, Host}
use Rattle.observables.specs.declared.observation.Subject.{Subject}
use Rattle.observables.specs.declared.observation.Subject.TheVariants.{Module, HostLane, MediaLane, DataPath}
use Rattle.observables.specs.declared.quantity.Quantity.{Quantity}
use Rattle.observables.specs.declared.quantity.Quantity.TheVariants as quantities
use Rattle.observables.specs.declared.quantity.Unit.{Unit}
use Rattle.observables.specs.declared.quantity.Unit.TheVariants as units

unfoldable pub quantity_name : Quantity → List ℕ
quantity_name quantities.LaserAge = codes "laser-age"
quantity_name quantities.TecCurrentShare = codes "tec-current-share"
quantity_name quantities.LaserFrequencyError = codes "laser-frequency-error"
quantity_name quantities.LaserTemperature = codes "laser-temperature"
quantity_name quantities.SignalToNoise = codes "snr"
quantity_name quantities.LevelTransition = codes "level-transition"
quantity_name quantities.PreFecBer = codes "pre-fec-ber"
quantity_name quantities.ErroredFrames = codes "errored-frames"
quantity_name quantities.ModulatorBiasXI = codes "modulator-bias-xi"
quantity_name quantities.ModulatorBiasXQ = codes "modulator-bias-xq"
quantity_name quantities.ModulatorBiasYI = codes "modulator-bias-yi"
quantity_name quantities.ModulatorBiasYQ = codes "modulator-bias-yq"
quantity_name quantities.ModulatorBiasXPhase = codes "modulator-bias-x-phase"
quantity_name quantities.ModulatorBiasYPhase = codes "modulator-bias-y-phase"
quantity_name quantities.DispersionShortLink = codes "dispersion-short-link"
quantity_name quantities.DispersionLongLink = codes "dispersion-long-link"
quantity_name quantities.GroupDelay = codes "differential-group-delay"
quantity_name quantities.SecondOrderPmd = codes "second-order-pmd"
quantity_name quantities.PolarizationLoss = codes "polarization-dependent-loss"
quantity_name quantities.OpticalSignalToNoise = codes "osnr"
quantity_name quantities.ElectricalSignalToNoise = codes "electrical-snr"
quantity_name quantities.CarrierFrequencyOffset = codes "carrier-frequency-offset"
quantity_name quantities.ErrorVector = codes "error-vector-magnitude"
quantity_name quantities.TransmittedLevel = codes "tx-level"
quantity_name quantities.ReceivedTotalLevel = codes "rx-total-level"
quantity_name quantities.ReceivedSignalLevel = codes "rx-signal-level"
quantity_name quantities.PolarizationChange = codes "polarization-change-rate"
quantity_name quantities.ModulationErrorRatio = codes "modulation-error-ratio"
quantity_name quantities.Temperature = codes "temperature"
quantity_name quantities.SupplyVoltage = codes "vcc"
quantity_name quantities.SecondSupplyVoltage = codes "vcc-2"
quantity_name quantities.TransmittedPower = codes "tx-power"
quantity_name quantities.ReceivedPower = codes "rx-power"
quantity_name quantities.LaserBias = codes "tx-bias"
quantity_name quantities.TecCurrent = codes "tec-current"

unfoldable pub figure_name : Figure → List ℕ
figure_name figures.Now = codes "now"
figure_name figures.Minimum = codes "minimum"
figure_name figures.Maximum = codes "maximum"
figure_name figures.Average = codes "average"
figure_name figures.Current = codes "last"

unfoldable pub unit_name : Unit → List ℕ
unit_name units.Percent = codes "%"
unit_name units.Ratio = codes "ratio"
unit_name units.Frames = codes "frames"
unit_name units.Celsius = codes "C"
unit_name units.Volts = codes "V"
unit_name units.Milliamperes = codes "mA"
unit_name units.Milliwatts = codes "mW"
unit_name units.DecibelMilliwatts = codes "dBm"
unit_name units.Decibel = codes "dB"
unit_name units.Megahertz = codes "MHz"
unit_name units.Picoseconds = codes "ps"
unit_name units.SquarePicoseconds = codes "ps^2"
unit_name units.PicosecondsPerNanometre = codes "ps/nm"
unit_name units.KiloradiansPerSecond = codes "krad/s"

-- of the interface to the host, or of the media
unfoldable pub path_name : Side → List ℕ
path_name Media = codes "media-path"
path_name Host = codes "host-path"

-- what something is measured of
unfoldable pub scope_name : Subject → Side → List ℕ
scope_name Module side = codes "module"
scope_name (HostLane lane) side = codes "host-lane"
scope_name (MediaLane lane) side = codes "media-lane"
scope_name (DataPath lane) side = path_name side

-- the number of the lane, or of the first lane of the data path
abbrev pub lane_of : Subject → Option ℕ
lane_of Module = None
lane_of (HostLane lane) = Some lane
lane_of (MediaLane lane) = Some lane
lane_of (DataPath lane) = Some lane
