use Rattle.std.proofs.Common.{Ok, Err}
use Rattle.std.proofs.lemmas.Result.{err_from_is_err_and}
use Rattle.bus_model.specs.ScriptBuses.{seen_at}
use Rattle.command_line.specs.OverBus.{IsFetchedFrom}
use Rattle.command_line.proofs.BusReadings.{bus_refused, fetched_from}
use Rattle.command_line.proofs.commands.over_bus.read_for_reports.Goals as goal

pub returns-in_err-fetch_image : goal.returns-in_err-fetch_image
returns-in_err-fetch_image c =
    let memory = c.args.image.now in
    let p = err_from_is_err_and c.from_residual-in_err-fetch_image.result c.from_residual-in_err-fetch_image.ensures.1 in
    let fetched = fetched_from memory c.in_ok-bus.bus (seen_at c.fetch_image.new.bus) (Err c.in_err-fetch_image.field-0.0) c.in_ok-bus.ensures c.in_err-fetch_image.ensures.fetched in
    rw (p.1, p.2) (bus_refused IsFetchedFrom memory c.in_err-fetch_image.field-0.0 fetched)

pub returns : goal.returns
returns c =
    fetched_from c.args.image.now c.in_ok-bus.bus (seen_at c.fetch_image.new.bus) (Ok c.in_ok-fetch_image.field-0) c.in_ok-bus.ensures c.in_ok-fetch_image.ensures.fetched
