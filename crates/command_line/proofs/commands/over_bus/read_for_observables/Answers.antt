use Rattle.std.proofs.Common.{Ok, Err}
use Rattle.std.proofs.lemmas.Result.{err_from_is_err_and}
use Rattle.bus_model.specs.ScriptBuses.{seen_at}
use Rattle.command_line.specs.OverBus.{IsObservedFrom}
use Rattle.command_line.proofs.BusReadings.{bus_refused, observed_from}
use Rattle.command_line.proofs.commands.over_bus.read_for_observables.Goals as goal

pub returns-in_err-fetch_observables : goal.returns-in_err-fetch_observables
returns-in_err-fetch_observables c =
    let memory = c.args.image.now in
    let p = err_from_is_err_and c.from_residual-in_err-fetch_observables.result c.from_residual-in_err-fetch_observables.ensures.1 in
    let observed = observed_from memory c.in_ok-bus.bus (seen_at c.fetch_observables.new.bus) (Err c.in_err-fetch_observables.field-0.0) c.in_ok-bus.ensures c.in_err-fetch_observables.ensures in
    rw (p.1, p.2) (bus_refused IsObservedFrom memory c.in_err-fetch_observables.field-0.0 observed)

pub returns : goal.returns
returns c =
    observed_from c.args.image.now c.in_ok-bus.bus (seen_at c.fetch_observables.new.bus) (Ok c.in_ok-fetch_observables.field-0) c.in_ok-bus.ensures c.in_ok-fetch_observables.ensures
