-- What activation does on a bus and answers, over the whole list of its steps. (docs/bus.md, "Outcomes"; OIF-CMIS-05.0, Data
-- Path State Machine)
use Rattle.std.specs.Prelude.{Bool, false, ◌≡◌, ◌⊎◌, ◌-◌, ℕ, List, [], ◌∷◌, Ok, Err}
use Rattle.bus_model.specs.declared.operation.Op.{Op}
use Rattle.bus_model.specs.declared.operation.Step.{Step}
use Rattle.conversations.specs.Selecting.{trusted}
use Rattle.control_sets.specs.declared.fault.ProvisionFault.TheVariants.{ActiveDiffers, ModuleState, Reserved}
use Rattle.field_tables.specs.LaneSets.{Lanes, byte_of, every_lane}
use Rattle.datapath_states.specs.declared.state.PathState.TheVariants.{Activated}
use Rattle.datapath_states.specs.StateCodes.{code_of}
use Rattle.control_sets.specs.Pages.{EachStep, History, read_selection, selection}
use Rattle.control_sets.specs.OutcomeSteps.{Gives, IsAccepted, IsAmong, Reads, ReadsOnce, Stands, StandsAfter}
use Rattle.control_sets.specs.OutcomeOperations.{Confirms, ReadsSelectionsBackBy, control_page, read_active, read_module_state, read_path_states, set_deinit, status_page}
use Rattle.control_sets.specs.OutcomeCodes.{AllHave, DiffersAt, IsInNoState, IsInOtherState, IsLowestReserved, IsReservedPathState, NoneHas}
use Rattle.control_sets.specs.OutcomeAnswers.{Answer, IsAnswer, NoneEnds}
use Rattle.control_sets.specs.OutcomeOfProvisioning.{FindsReady, IsStore}

-- DPDeinit is cleared for these lanes and set for all others
abbrev pub release : Lanes → Op
release lanes = set_deinit (255 - byte_of lanes)

-- the step makes an operation of activation, on the page that it needs
abbrev pub IsActivationStepBy : Bool → Lanes → Step → History → Type 0
IsActivationStepBy doubts lanes step before =
    IsAmong (read_module_state ∷ read_selection ∷ selection control_page ∷ selection status_page ∷ []) step.op
    ⊎ ((IsAmong (read_active ∷ read_path_states ∷ []) step.op × Confirms status_page (trusted doubts before))
    ⊎ (IsAmong (release lanes ∷ []) step.op × Confirms control_page (trusted doubts before)))

-- in which order the steps stand
pub record IsActivationOrder (control : List ℕ) (lanes : Lanes) (history : History) : Type 0 where
  -- nothing is stored before the module was found ready
  pub ready : EachStep (λ step before. IsStore step.op → Stands FindsReady before) history
  -- the lanes are released after the control bytes were read as active
  pub releases : StandsAfter (release lanes) (Gives read_active control) history
  -- and that is accepted once at most
  pub once : EachStep (λ step before. IsAccepted (release lanes) step → ¬ (Stands (IsAccepted (release lanes)) before)) history
  -- path states are read after it was accepted
  pub path_states : StandsAfter read_path_states (IsAccepted (release lanes)) history

-- in which answer a step ends activation: a reserved path state of any lane counts
abbrev pub EndsActivation : List ℕ → Lanes → Answer → Step → Type 0
EndsActivation control lanes (Ok steps) step = Reads read_path_states (λ bytes. NoneHas IsReservedPathState every_lane bytes × AllHave (code_of Activated) lanes bytes) step
EndsActivation control lanes (Err (ActiveDiffers lane)) step = Reads read_active (DiffersAt control lane) step
EndsActivation control lanes (Err (ModuleState code)) step =
    Reads read_module_state (IsInOtherState code) step
EndsActivation control lanes (Err (Reserved code)) step =
    Reads read_module_state (IsInNoState code) step
    ⊎ Reads read_path_states (IsLowestReserved IsReservedPathState every_lane code) step
EndsActivation control lanes (Err fault) step = ⊥

-- no step is needless
pub record IsActivationBriefBy (doubts : Bool) (control : List ℕ) (lanes : Lanes) (history : History) : Type 0 where
  pub selections : ReadsSelectionsBackBy doubts history
  -- a page is selected only if it isn't confirmed, and something is to be done on it
  pub controls : EachStep (λ step before. step.op ≡ selection control_page →
      (¬ (Confirms control_page (trusted doubts before))) × Stands (Gives read_active control) before × (¬ (Stands (IsAccepted (release lanes)) before))) history
  pub status : EachStep (λ step before. step.op ≡ selection status_page →
      (¬ (Confirms status_page (trusted doubts before))) × ((¬ (Stands (Gives read_active control) before)) ⊎ Stands (IsAccepted (release lanes)) before)) history
  pub module_state : ReadsOnce read_module_state history
  pub active : ReadsOnce read_active history

-- these steps, the newest first, and this answer are activation of these lanes, which needs the control bytes active; full says
-- that the bus's list is full after them
pub record IsActivationBy (doubts : Bool) (control : List ℕ) (lanes : Lanes) (full : Type 0) (history : History) (answer : Answer) : Type 0 where
  pub shape : EachStep (IsActivationStepBy doubts lanes) history
  pub order : IsActivationOrder control lanes history
  pub answered : IsAnswer (EndsActivation control lanes) full history answer
  pub brief : IsActivationBriefBy doubts control lanes history

-- without doubt
abbrev pub IsActivation : List ℕ → Lanes → Type 0 → History → Answer → Type 0
IsActivation control lanes full history answer = IsActivationBy false control lanes full history answer

-- these steps, the newest first, are the first ones of activation, and determine no answer
pub record IsUnfinishedActivationBy (doubts : Bool) (control : List ℕ) (lanes : Lanes) (history : History) : Type 0 where
  pub shape : EachStep (IsActivationStepBy doubts lanes) history
  pub order : IsActivationOrder control lanes history
  pub none : NoneEnds (EndsActivation control lanes) history
  pub brief : IsActivationBriefBy doubts control lanes history
