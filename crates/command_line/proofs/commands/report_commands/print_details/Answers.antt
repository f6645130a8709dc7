use Rattle.std.proofs.Common.{Ok}
use Rattle.std.proofs.lemmas.Result.{err_from_is_err_and}
use Rattle.observable_reports.specs.Details.{details_text}
use Rattle.reports.specs.Details.{details_fault}
use Rattle.command_line.specs.OverBus.{IsObservedFrom}
use Rattle.command_line.specs.ReportCommands.{report_of}
use Rattle.command_line.specs.Runs.{answer_of}
use Rattle.command_line.proofs.ReportAnswers.{input_refused, report_answered}
use Rattle.command_line.proofs.commands.report_commands.print_details.Goals as goal

pub returns-in_err-image-clause-answer : goal.returns-in_err-image-clause-answer
returns-in_err-image-clause-answer c =
    let options = c.args.options.now in
    let p = err_from_is_err_and c.from_residual.result c.from_residual.ensures.1 in
    rw (p.1, p.2) (input_refused IsObservedFrom options.bus options details_fault details_text c.args.image.now c.in_err-image.field-0.0 c.in_err-image.ensures)

pub returns-clause-answer : goal.returns-clause-answer
returns-clause-answer c =
    let options = c.args.options.now in
    let image = c.in_ok-image.image in
    let reported = c.report_output.ensures.output (details_fault image) (details_text options.json image) (rw c.view.ensures.same at c.detailed-printed.ensures) in
    report_answered IsObservedFrom options.bus (report_of options details_fault details_text) c.args.image.now (Ok image) c.in_ok-image.ensures (answer_of c.report_output.result) reported
