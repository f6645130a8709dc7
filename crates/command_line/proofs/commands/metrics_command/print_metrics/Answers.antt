use Rattle.std.proofs.Common.{Ok}
use Rattle.command_line.specs.OverBus.{IsObservedFrom}
use Rattle.command_line.specs.MetricsCommand.{metrics_reported}
use Rattle.command_line.specs.Runs.{answer_of}
use Rattle.command_line.proofs.ReportAnswers.{report_answered}
use Rattle.command_line.proofs.commands.metrics_command.print_metrics.Goals as goal

pub returns-in-Ok-clause-answer : goal.returns-in-Ok-clause-answer
returns-in-Ok-clause-answer c =
    let options = c.args.options.now in
    report_answered IsObservedFrom options.bus (metrics_reported options) c.args.image.now (Ok c.in-Ok.image) c.in-Ok.ensures (answer_of c.of_image.result) (rw c.view.ensures.same at c.of_image.ensures.output)
