use Rattle.std.proofs.Common.{ap, ◌∙◌}
use Rattle.std.proofs.lemmas.Result.{err_from_is_err_and}
use Rattle.bus_model.specs.ScriptBuses.{seen_at}
use Rattle.sim_module.specs.Lanes.{active_bytes}
use Rattle.command_line.specs.Inputs.{inputs_of}
use Rattle.command_line.specs.ProvisionCommand.{IsProcedureAnswer, IsSetUpRefusal}
use Rattle.command_line.proofs.OwnAnswers.{own_refusal}
use Rattle.command_line.proofs.ProcedureAnswers.{carried, session_at_rest, session_sound, reported_as}
use Rattle.command_line.proofs.commands.provision_command.provision.Goals as goal

pub returns-in_err-advert-clause-answer : goal.returns-in_err-advert-clause-answer
returns-in_err-advert-clause-answer c =
    let options = c.args.options.now in
    let inputs = inputs_of c.args.inputs.now in
    let p = err_from_is_err_and c.from_residual.result c.from_residual.ensures.1 in
    rw (p.1, p.2) (own_refusal (IsSetUpRefusal options.conventions inputs) (IsProcedureAnswer c.args.is_traced options inputs) (λ none. none) (λ none. none) (λ n none. none) (λ f is. is)
    c.in_err-advert.field-0.0 c.in_err-advert.ensures.answer)

pub carry_out-results-requires-clause-sound : goal.carry_out-results-requires-clause-sound
carry_out-results-requires-clause-sound c = session_sound c.args.options.now _ c.in_ok-advert.field-0 c.in_ok-advert.ensures.answer

pub carry_out-results-requires-clause-at_rest : goal.carry_out-results-requires-clause-at_rest
carry_out-results-requires-clause-at_rest c = session_at_rest c.args.options.now _ c.in_ok-advert.field-0 c.in_ok-advert.ensures.answer

pub returns-clause-answer : goal.returns-clause-answer
returns-clause-answer c =
    let options = c.args.options.now in
    let results = c.carry_out-results.result in
    let after = seen_at c.carry_out-results.new.bus in
    let text = c.in_ok-output.field-0.items in
    let reported = reported_as options.json c.args.is_traced after results text c.active.result c.steps.result.now c.outcome_of-outcome.result c.outcome_fault-fault.result
    c.in_ok-output.ensures c.outcome_of-outcome.ensures c.steps.ensures (c.active.ensures ∙ ap active_bytes c.device.ensures) in
    carried options (inputs_of c.args.inputs.now) c.in_ok-advert.field-0 c.in_ok-advert.ensures.answer c.args.is_traced text after results c.outcome_fault-fault.result c.reported.result
    c.carry_out-results.ensures reported c.outcome_fault-fault.ensures c.reported.ensures
