-- What waking a module up and putting it to sleep do on a bus and answer, over the whole list of their steps. (docs/bus.md,
-- "Outcomes"; OIF-CMIS-05.0, Module State Machine)
use Rattle.std.specs.Prelude.{◌≡◌, ◌⊎◌, ℕ, List, [], ◌∷◌, Ok, Err, Some}
use Rattle.bus_model.specs.declared.operation.Reply.TheVariants.{Done}
use Rattle.bus_model.specs.declared.operation.Step.{Step}
use Rattle.module_states.specs.declared.state.ModuleState.TheVariants.{Fault}
use Rattle.module_states.specs.Codes.{state_at}
use Rattle.control_sets.specs.declared.fault.ProvisionFault.TheVariants.{ModuleState, Reserved}
use Rattle.control_sets.specs.declared.procedures.power.Power.{Power}
use Rattle.control_sets.specs.Pages.{EachStep, History}
use Rattle.control_sets.specs.OutcomeSteps.{Gives, IsAnswered, Reads, Stands, StandsAfter, StandsAfterNo}
use Rattle.control_sets.specs.OutcomeOperations.{read_module_state}
use Rattle.control_sets.specs.OutcomeCodes.{IsInNoState, module_code}
use Rattle.control_sets.specs.OutcomeAnswers.{Answer, IsAnswer}
use Rattle.control_sets.specs.OutcomeOfProvisioning.{IsStore}
use Rattle.control_sets.specs.PowerControls.{read_controls, set_controls, wanted_controls, wanted_state}

-- the controls are stored that follow from those that were read
abbrev pub StoresWanted : Power → Step → History → Type 0
StoresWanted power step before =
    (byte : ℕ) × (step.op ≡ set_controls (wanted_controls power byte)) × Stands (Gives read_controls (byte ∷ [])) before

-- the step makes an operation of waking up or going to sleep; all are in the lower memory, so no page is selected
abbrev pub IsPowerStep : Power → Step → History → Type 0
IsPowerStep power step before = (step.op ≡ read_controls) ⊎ (StoresWanted power step before ⊎ (step.op ≡ read_module_state))

-- a store was taken
abbrev pub IsTaken : Step → Type 0
IsTaken step = IsStore step.op × (step.reply ≡ Done)

-- the module is in the state that is wanted
abbrev pub IsInWanted : Power → List ℕ → Type 0
IsInWanted power bytes = state_at (module_code bytes) ≡ Some (wanted_state power)

-- it is in ModuleFault, which has the code
abbrev pub IsInFault : ℕ → List ℕ → Type 0
IsInFault code bytes = (code ≡ module_code bytes) × (state_at code ≡ Some Fault)

-- in which answer a step ends it: other states pass
abbrev pub EndsPower : Power → Answer → Step → Type 0
EndsPower power (Ok steps) step = Reads read_module_state (IsInWanted power) step
EndsPower power (Err (ModuleState code)) step = Reads read_module_state (IsInFault code) step
EndsPower power (Err (Reserved code)) step = Reads read_module_state (IsInNoState code) step
EndsPower power (Err fault) step = ⊥

-- in which order the steps stand, and that none is needless
pub record IsPowerOrder (history : History) : Type 0 where
  -- the controls are read until that is answered
  pub controls : StandsAfterNo read_controls (IsAnswered read_controls) history
  -- they are stored until that is taken
  pub stores : EachStep (λ step before. IsStore step.op → ¬ (Stands IsTaken before)) history
  -- the state is read after that
  pub states : StandsAfter read_module_state IsTaken history

-- these steps, the newest first, and this answer are those of waking a module up, or of putting it to sleep; full says that the
-- bus's list is full after them
pub record IsPowerChange (power : Power) (full : Type 0) (history : History) (answer : Answer) : Type 0 where
  pub shape : EachStep (IsPowerStep power) history
  pub order : IsPowerOrder history
  pub answered : IsAnswer (EndsPower power) full history answer
