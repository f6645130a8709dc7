use Rattle.command_line.specs.OverBus.{IsObservedFrom}
use Rattle.command_line.proofs.BusReadings.{read_to_report}
use Rattle.command_line.proofs.commands.over_bus.image_to_observe.Goals as goal

pub returns-then-is_over_bus : goal.returns-then-is_over_bus
returns-then-is_over_bus c =
    read_to_report IsObservedFrom c.args.is_over_bus c.args.text.now c.in_ok-image.image c.read_for_observables.result c.if-is_over_bus.true c.in_ok-image.ensures.ok (rw c.view.ensures.same at c.read_for_observables.ensures)
