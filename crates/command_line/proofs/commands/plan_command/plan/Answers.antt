use Rattle.std.proofs.lemmas.Result.{err_from_is_err_and}
use Rattle.command_line.specs.Inputs.{inputs_of}
use Rattle.command_line.specs.PlanCommand.{IsPlanAnswer, IsPlanned, IsPlanOutput}
use Rattle.command_line.specs.PlanningInputs.{IsPlanningRefusal}
use Rattle.command_line.proofs.OwnAnswers.{own_refusal}
use Rattle.command_line.proofs.commands.plan_command.plan.Goals as goal

pub returns-in_err-planning-clause-answer : goal.returns-in_err-planning-clause-answer
returns-in_err-planning-clause-answer c =
    let options = c.args.options.now in
    let inputs = inputs_of c.args.inputs.now in
    let p = err_from_is_err_and c.from_residual.result c.from_residual.ensures.1 in
    rw (p.1, p.2) (own_refusal (IsPlanningRefusal options.conventions inputs) (IsPlanAnswer c.args.draws options inputs) (λ none. none) (λ none. none) (λ n none. none) (λ f is. is)
    c.in_err-planning.field-0.0 c.in_err-planning.ensures.answer)

pub returns-clause-answer : goal.returns-clause-answer
returns-clause-answer c =
    let options = c.args.options.now in
    let is : IsPlanned (IsPlanOutput c.args.draws options) options.conventions (inputs_of c.args.inputs.now) c.in_ok-text.text.items =
    record { planning = c.in_ok-planning.planning; is_planning = c.in_ok-planning.ensures.answer; reported = c.in_ok-text.ensures } in
    is
