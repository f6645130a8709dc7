-- Waking up and going to sleep store the global controls alone, so they leave active what was.
use Rattle.std.proofs.Common.{◌≡◌, inl, inr, ℕ, List, [], ◌∷◌, sym, subst, ◌∙◌, arith}
use Rattle.std.specs.List.{AllByRecursion}
use Rattle.bus_model.specs.declared.operation.Op.{Op}
use Rattle.bus_model.specs.declared.operation.Step.{Step}
use Rattle.bus_model.specs.declared.script.Directive.{Directive}
use Rattle.bus_model.specs.Keeping.{IsKeptBy}
use Rattle.bus_model.specs.ScriptedBus.{script_rules}
use Rattle.control_sets.specs.Pages.{EachStep, History}
use Rattle.control_sets.specs.OutcomeOfPower.{IsPowerStep}
use Rattle.control_sets.specs.declared.procedures.power.Power.{Power}
use Rattle.sim_module.specs.declared.module.SimModule.{SimModule}
use Rattle.sim_module.specs.ActiveSets.{IsAtRest, PowerLeavesActive}
use Rattle.sim_module.specs.Modules.{conduct}
use Rattle.bus_model.proofs.Histories.{after_reverse, steps_keep}
use Rattle.sim_module.proofs.RestingModule.{AsksNoApply, rest_by, rest_kept}

by_op : (op other : Op) → op ≡ other → AsksNoApply other → AsksNoApply op
by_op op other is asks = subst AsksNoApply (sym is) asks

asks_none : (power : Power) (step : Step) (before : History) → IsPowerStep power step before → AsksNoApply step.op
asks_none power step before (inl is) = by_op _ _ is tt
asks_none power step before (inr (inl (byte, is, stands))) = by_op _ _ is (omega arith)
asks_none power step before (inr (inr is)) = by_op _ _ is tt

each_rests : (power : Power) (active : List ℕ) (history : History) → EachStep (IsPowerStep power) history → AllByRecursion (λ step. IsKeptBy conduct (IsAtRest active) step.op) history
each_rests power active [] shape = tt
each_rests power active (step ∷ before) shape = (rest_by active step.op (asks_none power step before shape.0), each_rests power active before shape.1)

pub power_rests : PowerLeavesActive
power_rests old new history power active answer rest ran outcome =
    subst (λ (s : List Directive × SimModule). IsAtRest active s.1) (sym (ran.state ∙ after_reverse (script_rules conduct) old.state history))
    (steps_keep conduct (IsAtRest active) (rest_kept active) history (each_rests power active history outcome.shape) old.state rest)
