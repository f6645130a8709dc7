-- The numbers of a change of power are those of that change, and of no procedure.
use Rattle.std.proofs.Common.{◌≡◌, ◌≤◌, ℕ, ◌&&◌, Bool, true, [], ◌∷◌, nat_le, Option, Some, None, refl, sym, subst, get_or}
use Rattle.std.proofs.lemmas.Bool.{and_from, le-leb}
use Rattle.conversations.specs.Events.{Events, steps_of}
use Rattle.control_sets.specs.declared.fault.ProvisionFault.{ProvisionFault}
use Rattle.control_sets.specs.declared.fault.ProvisionFault.TheVariants.{ModuleState, Reserved}
use Rattle.control_sets.specs.declared.procedures.procedure.saved.SavedProcedure.{SavedProcedure}
use Rattle.control_sets.specs.declared.procedures.power.Power.{Power}
use Rattle.control_sets.specs.declared.procedures.power.PowerStage.{PowerStage}
use Rattle.control_sets.specs.OutcomeAnswers.{most_steps}
use Rattle.control_sets.specs.Pages.{History}
use Rattle.control_sets.specs.PowerProgress.{HasComeTo, PatientPower, ToldPower, patient_power}
use Rattle.control_sets.specs.SavedNumbers.{due_numbered, fault_in, restored, work_numbered}
use Rattle.control_sets.specs.SavedPower.{can_stop, has_no_more, power_numbered, restored_power, stage_numbered}

pub power_back : (saved : SavedProcedure) (power : Power) (stage : PowerStage) (fault : Option ProvisionFault) (due : Bool) →
    power_numbered saved.work ≡ Some power → stage_numbered saved.met (get_or saved.control 0 0) ≡ Some stage → fault_in saved.fault ≡ Some fault → due_numbered saved.due ≡ Some due →
    (nat_le saved.steps most_steps && (can_stop fault && has_no_more saved)) ≡ true →
    restored_power saved ≡ Some (patient_power (record { power = power; stage = stage; fault = fault }) (record { pause = saved.pause; limit = saved.limit }) due saved.idle saved.steps)
unfolding restored_power
power_back saved power stage fault due has_power has_stage has_fault has_due can = rw (has_power, has_stage, has_fault, has_due, can) refl

pub power_apart : (saved : SavedProcedure) (doubts : Bool) → work_numbered saved.work saved.control saved.lanes ≡ None → restored saved doubts ≡ None
unfolding restored
power_apart saved doubts other = rw other refl

-- a fault that ended it is of the module's state
stops : (power : Power) (stage : PowerStage) (fault : Option ProvisionFault) (history : History) → HasComeTo power stage fault history → can_stop fault ≡ true
stops power stage None history come = refl
stops power stage (Some (ModuleState code)) history come = refl
stops power stage (Some (Reserved code)) history come = refl
stops power stage (Some fault) [] come = absurd come
stops power stage (Some fault) (step ∷ before) come = absurd come.0

module _ (change : PatientPower) (limit : change.limit ≡ most_steps) where
  pub can_power : (events : Events) → ToldPower events change → (nat_le change.steps most_steps && can_stop change.conversation.conversation.fault) ≡ true
  can_power events told =
      let (own, adds, come) = told.0 in
      let inner = change.conversation.conversation in
      and_from _ _ (le-leb change.steps most_steps (subst (λ (n : ℕ). change.steps ≤ n) limit told.2)) (stops inner.power inner.stage inner.fault (steps_of own) come)

  pub same_power : patient_power change.conversation.conversation change.conversation.patience change.conversation.due change.conversation.idle change.steps ≡ change
  same_power = λ i. record { conversation = change.conversation; steps = change.steps; limit = sym limit i }
