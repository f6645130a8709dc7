use Rattle.std.proofs.lemmas.Result.{err_from_is_err_and}
use Rattle.applications.specs.Advertised.{advertised_under}
use Rattle.applications.specs.Refusals.{advert_fault_under}
use Rattle.command_line.proofs.FaultOrValue.{answered, refused}
use Rattle.command_line.specs.PlanningInputs.{IsAdvertRefusal}
use Rattle.command_line.specs.declared.fault.Fault.TheVariants.{Advert}
use Rattle.command_line.proofs.commands.planning_inputs.read_module.Goals as goal

pub returns-in_err-advert : goal.returns-in_err-advert
returns-in_err-advert c =
    let memory = c.in_ok-image.image in
    let p = err_from_is_err_and c.from_residual-in_err-advert.result c.from_residual-in_err-advert.ensures.1 in
    let is : IsAdvertRefusal c.args.conventions c.args.text.now (Advert c.in_err-advert.field-0.0) = (memory, c.in_ok-image.ensures.ok, refused (advertised_under c.args.conventions memory) c.in_err-advert.field-0.0 (advert_fault_under c.args.conventions memory) (rw c.view.ensures.same at c.in_err-advert.ensures)) in
    rw (p.1, p.2) is

pub returns : goal.returns
returns c =
    let memory = c.in_ok-image.image in
    let reported = answered (advertised_under c.args.conventions memory) c.in_ok-advert.advert (advert_fault_under c.args.conventions memory) (rw c.view.ensures.same at c.in_ok-advert.ensures) in
    record { is_text = c.in_ok-image.ensures.ok; accepted = reported.0; advertised = reported.1 }
