-- Numbers by which programs know what is measured and in what unit. (include/dovecounter.h, "What a module measures, as one list"; this
-- project's own)
use Rattle.std.specs.Prelude.{ℕ}
use Rattle.observables.specs.declared.observable.Figure.{Figure}
use Rattle.observables.specs.declared.observable.Figure.TheVariants as figures
use Rattle.observables.specs.declared.observable.Side.{Side}
use Rattle.observables.specs.declared.observable.Side.TheVariants as sides
use Rattle.observables.specs.declared.quantity.Quantity.{Quantity}
use Rattle.observables.specs.declared.quantity.Quantity.TheVariants as quantities
use Rattle.observables.specs.declared.quantity.Unit.{Unit}
use Rattle.observables.specs.declared.quantity.Unit.TheVariants as units

abbrev pub quantity_number : Quantity → ℕ
quantity_number quantities.LaserAge = 1
quantity_number quantities.TecCurrentShare = 2
quantity_number quantities.LaserFrequencyError = 3
quantity_number quantities.LaserTemperature = 4
quantity_number quantities.SignalToNoise = 5
quantity_number quantities.LevelTransition = 6
quantity_number quantities.PreFecBer = 7
quantity_number quantities.ErroredFrames = 8
quantity_number quantities.ModulatorBiasXI = 9
quantity_number quantities.ModulatorBiasXQ = 10
quantity_number quantities.ModulatorBiasYI = 11
quantity_number quantities.ModulatorBiasYQ = 12
quantity_number quantities.ModulatorBiasXPhase = 13
quantity_number quantities.ModulatorBiasYPhase = 14
quantity_number quantities.DispersionShortLink = 15
quantity_number quantities.DispersionLongLink = 16
quantity_number quantities.GroupDelay = 17
quantity_number quantities.SecondOrderPmd = 18
quantity_number quantities.PolarizationLoss = 19
quantity_number quantities.OpticalSignalToNoise = 20
quantity_number quantities.ElectricalSignalToNoise = 21
quantity_number quantities.CarrierFrequencyOffset = 22
quantity_number quantities.ErrorVector = 23
quantity_number quantities.TransmittedLevel = 24
quantity_number quantities.ReceivedTotalLevel = 25
quantity_number quantities.ReceivedSignalLevel = 26
quantity_number quantities.PolarizationChange = 27
quantity_number quantities.ModulationErrorRatio = 28
quantity_number quantities.Temperature = 29
quantity_number quantities.SupplyVoltage = 30
quantity_number quantities.SecondSupplyVoltage = 31
quantity_number quantities.TransmittedPower = 32
quantity_number quantities.ReceivedPower = 33
quantity_number quantities.LaserBias = 34
quantity_number quantities.TecCurrent = 35

abbrev pub figure_number : Figure → ℕ
figure_number figures.Now = 1
figure_number figures.Minimum = 2
figure_number figures.Maximum = 3
figure_number figures.Average = 4
figure_number figures.Current = 5

abbrev pub side_number : Side → ℕ
side_number sides.Media = 1
side_number sides.Host = 2

abbrev pub unit_number : Unit → ℕ
unit_number units.Percent = 1
unit_number units.Ratio = 2
unit_number units.Frames = 3
unit_number units.Celsius = 4
unit_number units.Volts = 5
unit_number units.Milliamperes = 6
unit_number units.Milliwatts = 7
unit_number units.DecibelMilliwatts = 8
unit_number units.Decibel = 9
unit_number units.Megahertz = 10
unit_number units.Picoseconds = 11
unit_number units.SquarePicoseconds = 12
unit_number units.PicosecondsPerNanometre = 13
unit_number units.KiloradiansPerSecond = 14
