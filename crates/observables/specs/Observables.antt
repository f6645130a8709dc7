-- What the numbers of types stand for. (OIF-CMIS-05.0, "VDM Observables"; OIF-C-CMIS-01.2 from 128 on)
use Rattle.std.specs.Prelude.{ℕ, ◌==◌, if◌then◌else◌, Option, Some, None}
use Rattle.observables.specs.declared.quantity.Quantity.{Quantity}
use Rattle.observables.specs.declared.quantity.Quantity.TheVariants as quantities
use Rattle.observables.specs.declared.observable.Observable.{Observable}
use Rattle.observables.specs.declared.observable.Figure.{Figure}
use Rattle.observables.specs.declared.observable.Figure.TheVariants.{Now, Minimum, Maximum, Average, Current}
use Rattle.observables.specs.declared.observable.Side.{Side}
use Rattle.observables.specs.declared.observable.Side.TheVariants.{Media, Host}

abbrev pub known : Quantity → Figure → Side → Option Observable
known quantity figure side = Some (record { quantity = quantity; figure = figure; side = side })

abbrev pub observable_of : ℕ → Option Observable
observable_of kind =
    if kind == 1 then known quantities.LaserAge Now Media
    else if kind == 2 then known quantities.TecCurrentShare Now Media
    else if kind == 3 then known quantities.LaserFrequencyError Now Media
    else if kind == 4 then known quantities.LaserTemperature Now Media
    else if kind == 5 then known quantities.SignalToNoise Now Media
    else if kind == 6 then known quantities.SignalToNoise Now Host
    else if kind == 7 then known quantities.LevelTransition Now Media
    else if kind == 8 then known quantities.LevelTransition Now Host
    else if kind == 9 then known quantities.PreFecBer Minimum Media
    else if kind == 10 then known quantities.PreFecBer Minimum Host
    else if kind == 11 then known quantities.PreFecBer Maximum Media
    else if kind == 12 then known quantities.PreFecBer Maximum Host
    else if kind == 13 then known quantities.PreFecBer Average Media
    else if kind == 14 then known quantities.PreFecBer Average Host
    else if kind == 15 then known quantities.PreFecBer Current Media
    else if kind == 16 then known quantities.PreFecBer Current Host
    else if kind == 17 then known quantities.ErroredFrames Minimum Media
    else if kind == 18 then known quantities.ErroredFrames Minimum Host
    else if kind == 19 then known quantities.ErroredFrames Maximum Media
    else if kind == 20 then known quantities.ErroredFrames Maximum Host
    else if kind == 21 then known quantities.ErroredFrames Average Media
    else if kind == 22 then known quantities.ErroredFrames Average Host
    else if kind == 23 then known quantities.ErroredFrames Current Media
    else if kind == 24 then known quantities.ErroredFrames Current Host
    else if kind == 128 then known quantities.ModulatorBiasXI Now Media
    else if kind == 129 then known quantities.ModulatorBiasXQ Now Media
    else if kind == 130 then known quantities.ModulatorBiasYI Now Media
    else if kind == 131 then known quantities.ModulatorBiasYQ Now Media
    else if kind == 132 then known quantities.ModulatorBiasXPhase Now Media
    else if kind == 133 then known quantities.ModulatorBiasYPhase Now Media
    else if kind == 134 then known quantities.DispersionShortLink Now Media
    else if kind == 135 then known quantities.DispersionLongLink Now Media
    else if kind == 136 then known quantities.GroupDelay Now Media
    else if kind == 137 then known quantities.SecondOrderPmd Now Media
    else if kind == 138 then known quantities.PolarizationLoss Now Media
    else if kind == 139 then known quantities.OpticalSignalToNoise Now Media
    else if kind == 140 then known quantities.ElectricalSignalToNoise Now Media
    else if kind == 141 then known quantities.CarrierFrequencyOffset Now Media
    else if kind == 142 then known quantities.ErrorVector Now Media
    else if kind == 143 then known quantities.TransmittedLevel Now Media
    else if kind == 144 then known quantities.ReceivedTotalLevel Now Media
    else if kind == 145 then known quantities.ReceivedSignalLevel Now Media
    else if kind == 146 then known quantities.PolarizationChange Now Media
    else if kind == 147 then known quantities.ModulationErrorRatio Now Media
    else None
