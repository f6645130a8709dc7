-- Activation stores selections and DPDeinit bits alone, so it leaves active what was.
use Rattle.std.proofs.Common.{◌≡◌, false, inl, inr, ℕ, List, [], ◌∷◌, sym, subst, ◌∙◌, arith}
use Rattle.std.specs.List.{AllByRecursion}
use Rattle.bus_model.specs.declared.operation.Op.{Op}
use Rattle.bus_model.specs.declared.operation.Step.{Step}
use Rattle.bus_model.specs.declared.script.Directive.{Directive}
use Rattle.bus_model.specs.Keeping.{IsKeptBy}
use Rattle.bus_model.specs.ScriptedBus.{script_rules}
use Rattle.field_tables.specs.LaneSets.{Lanes}
use Rattle.control_sets.specs.Pages.{EachStep, History}
use Rattle.control_sets.specs.OutcomeOfActivation.{IsActivationStepBy}
use Rattle.sim_module.specs.declared.module.SimModule.{SimModule}
use Rattle.sim_module.specs.ActiveSets.{ActivationLeavesActive, IsAtRest}
use Rattle.sim_module.specs.Modules.{conduct}
use Rattle.bus_model.proofs.Histories.{after_reverse, steps_keep}
use Rattle.sim_module.proofs.RestingModule.{AsksNoApply, rest_by, rest_kept}

by_op : (op other : Op) → op ≡ other → AsksNoApply other → AsksNoApply op
by_op op other is asks = subst AsksNoApply (sym is) asks

asks_none : (lanes : Lanes) (step : Step) (before : History) → IsActivationStepBy false lanes step before → AsksNoApply step.op
asks_none lanes step before (inl (inl is)) = by_op _ _ is tt
asks_none lanes step before (inl (inr (inl is))) = by_op _ _ is tt
asks_none lanes step before (inl (inr (inr (inl is)))) = by_op _ _ is (omega arith)
asks_none lanes step before (inl (inr (inr (inr (inl is))))) = by_op _ _ is (omega arith)
asks_none lanes step before (inl (inr (inr (inr (inr none))))) = absurd none
asks_none lanes step before (inr (inl (inl is, confirmed))) = by_op _ _ is tt
asks_none lanes step before (inr (inl (inr (inl is), confirmed))) = by_op _ _ is tt
asks_none lanes step before (inr (inl (inr (inr none), confirmed))) = absurd none
asks_none lanes step before (inr (inr (inl is, confirmed))) = by_op _ _ is (omega arith)
asks_none lanes step before (inr (inr (inr none, confirmed))) = absurd none

each_rests : (lanes : Lanes) (active : List ℕ) (history : History) → EachStep (IsActivationStepBy false lanes) history → AllByRecursion (λ step. IsKeptBy conduct (IsAtRest active) step.op) history
each_rests lanes active [] shape = tt
each_rests lanes active (step ∷ before) shape = (rest_by active step.op (asks_none lanes step before shape.0), each_rests lanes active before shape.1)

pub activation_rests : ActivationLeavesActive
activation_rests old new history control active lanes answer rest ran outcome =
    subst (λ (s : List Directive × SimModule). IsAtRest active s.1) (sym (ran.state ∙ after_reverse (script_rules conduct) old.state history))
    (steps_keep conduct (IsAtRest active) (rest_kept active) history (each_rests lanes active history outcome.shape) old.state rest)
