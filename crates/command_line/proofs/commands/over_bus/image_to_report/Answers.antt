use Rattle.command_line.specs.OverBus.{IsFetchedFrom}
use Rattle.command_line.proofs.BusReadings.{read_to_report}
use Rattle.command_line.proofs.commands.over_bus.image_to_report.Goals as goal

pub returns-then-is_over_bus : goal.returns-then-is_over_bus
returns-then-is_over_bus c =
    read_to_report IsFetchedFrom c.args.is_over_bus c.args.text.now c.in_ok-image.image c.read_for_reports.result c.if-is_over_bus.true c.in_ok-image.ensures.ok (rw c.view.ensures.same at c.read_for_reports.ensures)
