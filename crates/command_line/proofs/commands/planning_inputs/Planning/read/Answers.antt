use Rattle.std.proofs.lemmas.Result.{err_from_is_err_and}
use Rattle.command_line.specs.Inputs.{inputs_of}
use Rattle.command_line.specs.PlanningInputs.{Advertises, IsPlanningRefusal}
use Rattle.command_line.specs.declared.fault.Fault.TheVariants.{Kept}
use Rattle.command_line.proofs.PlanningRefusals.{advert_refused, weights_refused}
use Rattle.command_line.proofs.commands.planning_inputs.Planning.read.Goals as goal

pub returns-in_err-image-clause-answer : goal.returns-in_err-image-clause-answer
returns-in_err-image-clause-answer c =
    let p = err_from_is_err_and c.from_residual.result c.from_residual.ensures.1 in
    rw (p.1, p.2) (advert_refused c.args.conventions (inputs_of c.args.inputs.now) c.in_err-image.field-0.0 c.in_err-image.ensures)

pub returns-in_err-weights-clause-answer : goal.returns-in_err-weights-clause-answer
returns-in_err-weights-clause-answer c =
    let p = err_from_is_err_and c.from_residual-in_err-weights.result c.from_residual-in_err-weights.ensures.1 in
    let inputs = inputs_of c.args.inputs.now in
    let reported : Advertises c.args.conventions inputs.image = (c.in_ok-image.advert, record { memory = c.in_ok-image.image; is_module = c.in_ok-image.ensures }) in
    rw (p.1, p.2) (weights_refused (IsPlanningRefusal c.args.conventions inputs) inputs.weights tt (λ f is. (reported, is)) c.in_err-weights.field-0.0 c.in_err-weights.ensures.answer)

pub returns-in_err-kept-clause-answer : goal.returns-in_err-kept-clause-answer
returns-in_err-kept-clause-answer c =
    let p = err_from_is_err_and c.from_residual-in_err-kept.result c.from_residual-in_err-kept.ensures.1 in
    let is : IsPlanningRefusal c.args.conventions (inputs_of c.args.inputs.now) (Kept c.in_err-kept.field-0.0) = record {
      advert = c.in_ok-image.advert;
      weights = c.in_ok-weights.weights;
      is_advert = record { memory = c.in_ok-image.image; is_module = c.in_ok-image.ensures };
      are_weights = c.in_ok-weights.ensures.answer;
      are_not_kept = c.in_err-kept.ensures;
    } in
    rw (p.1, p.2) is

pub returns-clause-answer : goal.returns-clause-answer
returns-clause-answer c = record { is_module = c.in_ok-image.ensures; are_weights = c.in_ok-weights.ensures.answer; are_kept = c.in_ok-kept.ensures }
