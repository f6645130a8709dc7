use Rattle.std.proofs.Common.{Err}
use Rattle.std.proofs.lemmas.Result.{err_from_is_err_and}
use Rattle.command_line.specs.CheckCommand.{IsCheckAnswer}
use Rattle.command_line.specs.Inputs.{inputs_of}
use Rattle.command_line.specs.Runs.{IsOwnAnswer}
use Rattle.command_line.specs.declared.fault.Fault.{Fault}
use Rattle.command_line.proofs.PlanningRefusals.{weights_refused}
use Rattle.command_line.proofs.commands.check_command.check.Goals as goal

pub returns-in_err-weights-clause-answer : goal.returns-in_err-weights-clause-answer
returns-in_err-weights-clause-answer c =
    let inputs = inputs_of c.args.inputs.now in
    let p = err_from_is_err_and c.from_residual-in_err-weights.result c.from_residual-in_err-weights.ensures.1 in
    rw (p.1, p.2) (weights_refused (λ (f : Fault). IsOwnAnswer (IsCheckAnswer c.args.options.now inputs) (Err f)) inputs.weights tt
    (λ f is. ((c.in_ok-advert.advert, c.in_ok-advert.ensures), is)) c.in_err-weights.field-0.0 c.in_err-weights.ensures.answer)
