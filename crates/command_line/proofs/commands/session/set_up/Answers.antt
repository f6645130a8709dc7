use Rattle.std.proofs.Common.{ℕ, List, refl, ap, sym, subst, ◌∙◌}
use Rattle.std.proofs.lemmas.Result.{err_from_is_err_and}
use Rattle.applications.specs.AppWeights.{PathWeights}
use Rattle.bus_model.specs.ScriptBuses.{seen_at}
use Rattle.lane_planner.specs.CertifiedPlans.{IsCertified}
use Rattle.sim_module.specs.Lanes.{active_bytes}
use Rattle.sim_module.specs.Starts.{start, start_fault}
use Rattle.sim_module.specs.declared.delays.Delays.{Delays}
use Rattle.sim_module.specs.declared.module.SimModule.{SimModule}
use Rattle.command_line.specs.InactivePaths.{first_inactive}
use Rattle.command_line.specs.Inputs.{inputs_of}
use Rattle.command_line.specs.ProvisionCommand.{IsNoModule, IsSetUpRefusal}
use Rattle.command_line.specs.declared.fault.Fault.TheVariants.{Module, Script}
use Rattle.command_line.proofs.FaultOrValue.{answered, refused}
use Rattle.command_line.proofs.ProcedureAnswers.{bus_with, planning_refused}
use Rattle.command_line.proofs.commands.session.set_up.Goals as goal

pub returns-in_err-planning-clause-answer : goal.returns-in_err-planning-clause-answer
returns-in_err-planning-clause-answer c =
    let p = err_from_is_err_and c.from_residual.result c.from_residual.ensures.1 in
    rw (p.1, p.2) (planning_refused c.args.conventions (inputs_of c.args.inputs.now) c.in_err-planning.field-0.0 c.in_err-planning.ensures.answer)

pub returns-in_err-script-clause-answer : goal.returns-in_err-script-clause-answer
returns-in_err-script-clause-answer c =
    let p = err_from_is_err_and c.from_residual-in_err-script.result c.from_residual-in_err-script.ensures.1 in
    let is : IsSetUpRefusal c.args.conventions (inputs_of c.args.inputs.now) (Script c.in_err-script.field-0.0) =
    ((c.in_ok-planning.planning, c.in_ok-planning.ensures.answer), c.in_err-script.ensures.err) in
    rw (p.1, p.2) is

pub returns-in_err-module-clause-answer : goal.returns-in_err-module-clause-answer
returns-in_err-module-clause-answer c =
    let memory = c.in_ok-planning.planning.image in
    let given = c.delays.result in
    let p = err_from_is_err_and c.from_residual-in_err-module.result c.from_residual-in_err-module.ensures.1 in
    let stops = refused (start memory given) c.in_err-module.field-0.0 (start_fault memory given) (rw c.copy.ensures at c.in_err-module.ensures) in
    let none : IsNoModule c.args.conventions (inputs_of c.args.inputs.now) c.in_err-module.field-0.0 = record {
      planning = c.in_ok-planning.planning;
      is_planning = c.in_ok-planning.ensures.answer;
      script = c.in_ok-script.script;
      is_script = c.in_ok-script.ensures.ok;
      stops = ap (λ (d : Delays). start_fault memory d) (sym c.delays.ensures) ∙ stops;
    } in
    let is : IsSetUpRefusal c.args.conventions (inputs_of c.args.inputs.now) (Module c.in_err-module.field-0.0) = none in
    rw (p.1, p.2) is

pub returns-clause-answer : goal.returns-clause-answer
returns-clause-answer c =
    let planning = c.in_ok-planning.planning in
    let given = c.delays.result in
    let certified = c.first_plan-plan.ensures.certified in
    let starts = answered (start planning.image given) c.in_ok-module.module (start_fault planning.image given) (rw c.copy.ensures at c.in_ok-module.ensures) in
    let module_is = starts.1 ∙ ap (λ (d : Delays). start planning.image d) c.delays.ensures in
    record {
      set_up = record {
        planning = planning;
        is_planning = c.in_ok-planning.ensures.answer;
        certificate = certified.0;
        certified = subst (λ (weights : PathWeights). IsCertified planning.advert weights planning.kept certified.0) c.of-weighed.ensures certified.1;
        script = c.in_ok-script.script;
        is_script = c.in_ok-script.ensures.ok;
        starts = ap (λ (d : Delays). start_fault planning.image d) (sym c.delays.ensures) ∙ starts.0;
      };
      advert = refl;
      plan = sym certified.2;
      kept = refl;
      inactive = c.first_inactive-inactive.ensures
          ∙ ap (λ (bytes : List ℕ). first_inactive planning.advert planning.kept bytes) (c.active.ensures ∙ ap active_bytes module_is);
      bus = ap seen_at c.in_ok-bus.ensures ∙ ap (λ (m : SimModule). bus_with c.in_ok-script.script m) module_is;
    }
