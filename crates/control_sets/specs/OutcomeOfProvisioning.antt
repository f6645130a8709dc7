-- What provisioning does on a bus and answers, over the whole list of its steps. (docs/bus.md, "Outcomes"; OIF-CMIS-05.0,
-- Data Path Configuration)
use Rattle.std.specs.Prelude.{Bool, false, ◌≡◌, ◌⊎◌, ◌++◌, ◌==◌, ℕ, List, [], ◌∷◌, Ok, Err, if◌then◌else◌}
use Rattle.bus_model.specs.declared.operation.Op.{Op}
use Rattle.bus_model.specs.declared.operation.Op.TheVariants.{Fetch, Store}
use Rattle.bus_model.specs.declared.operation.Reply.{Reply}
use Rattle.bus_model.specs.declared.operation.Reply.TheVariants.{Done}
use Rattle.bus_model.specs.declared.operation.Step.{Step}
use Rattle.conversations.specs.Selecting.{trusted}
use Rattle.control_sets.specs.declared.fault.ProvisionFault.TheVariants.{Rejected, StagedDiffers, ActiveDiffers, ModuleState, Reserved}
use Rattle.field_tables.specs.declared.field.Register.TheVariants as registers
use Rattle.field_tables.specs.Registers.{first_byte}
use Rattle.field_tables.specs.LaneSets.{Lanes, byte_of}
use Rattle.datapath_states.specs.declared.state.PathState.TheVariants.{Deactivated}
use Rattle.datapath_states.specs.declared.status.ConfigStatus.TheVariants.{Success}
use Rattle.datapath_states.specs.StateCodes.{code_of}
use Rattle.datapath_states.specs.StatusCodes.{status_code_of}
use Rattle.control_sets.specs.Pages.{EachStep, History, read_selection, selection}
use Rattle.control_sets.specs.OutcomeSteps.{Gives, IsAccepted, IsAmong, Reads, ReadsOnce, Stands, StandsAfter, StandsAfterNo}
use Rattle.control_sets.specs.OutcomeOperations.{Confirms, ReadsSelectionsBackBy, apply, control_page, read_active, read_module_state, read_path_states, read_staged, read_statuses, set_deinit, stage, status_page}
use Rattle.control_sets.specs.OutcomeCodes.{AllHave, DiffersAt, IsInNoState, IsInOtherState, IsLowestReserved, IsReady, IsRejectedAt, IsReservedPathState, IsReservedStatus}
use Rattle.control_sets.specs.OutcomeAnswers.{Answer, IsAnswer, NoneEnds}

-- ModuleReady was read
abbrev pub FindsReady : Step → Type 0
FindsReady = Reads read_module_state IsReady

-- all lanes of the mask were read as DPDeactivated
abbrev pub FindsDeactivated : Lanes → Step → Type 0
FindsDeactivated lanes = Reads read_path_states (AllHave (code_of Deactivated) lanes)

-- all lanes of the mask were read as ConfigSuccess
abbrev pub FindsApplied : Lanes → Step → Type 0
FindsApplied lanes = Reads read_statuses (AllHave (status_code_of Success) lanes)

-- the step makes an operation of provisioning, on the page that it needs
abbrev pub IsProvisioningStepBy : Bool → List ℕ → Lanes → Step → History → Type 0
IsProvisioningStepBy doubts control lanes step before =
    IsAmong (read_module_state ∷ read_selection ∷ selection control_page ∷ selection status_page ∷ []) step.op
    ⊎ ((IsAmong (read_path_states ∷ read_statuses ∷ read_active ∷ []) step.op × Confirms status_page (trusted doubts before))
    ⊎ (IsAmong (set_deinit (byte_of lanes) ∷ stage control ∷ read_staged ∷ apply (byte_of lanes) ∷ []) step.op × Confirms control_page (trusted doubts before)))

abbrev pub IsProvisioningStep : List ℕ → Lanes → Step → History → Type 0
IsProvisioningStep control lanes step before = IsProvisioningStepBy false control lanes step before

-- a store, a selection or not
abbrev pub IsStore : Op → Type 0
IsStore (Store dev offset bytes) = Unit {0}
IsStore (Fetch dev offset count) = ⊥

-- the store, if it is no selection and was accepted
abbrev pub accepted_store : Op → Reply → List Op
accepted_store (Store dev offset bytes) Done = if offset == first_byte registers.PageMapping then [] else Store dev offset bytes ∷ []
accepted_store op reply = []

-- the accepted stores but for selections, in the order in which they were made
abbrev pub accepted_stores : History → List Op
accepted_stores [] = []
accepted_stores (step ∷ before) = accepted_stores before ++ accepted_store step.op step.reply

pub record IsPrefix (first whole : List Op) : Type 0 where
  pub rest : List Op
  pub split : first ++ rest ≡ whole

-- in which order the steps stand
pub record IsProvisioningOrder (control : List ℕ) (lanes : Lanes) (history : History) : Type 0 where
  -- nothing is stored before the module was found ready
  pub ready : EachStep (λ step before. IsStore step.op → Stands FindsReady before) history
  -- each of the three stores is accepted once at most, and in this order
  pub stores : IsPrefix (accepted_stores history) (set_deinit (byte_of lanes) ∷ stage control ∷ apply (byte_of lanes) ∷ [])
  -- path states are read after DPDeinit was set
  pub path_states : StandsAfter read_path_states (IsAccepted (set_deinit (byte_of lanes))) history
  -- the control bytes are staged after the lanes were found DPDeactivated
  pub stages : StandsAfter (stage control) (FindsDeactivated lanes) history
  -- staged bytes are read after the control bytes were stored
  pub checks : StandsAfter read_staged (IsAccepted (stage control)) history
  -- they are applied after they were read back as they should be
  pub applies : StandsAfter (apply (byte_of lanes)) (Gives read_staged control) history
  -- statuses are read after the Apply was accepted
  pub statuses : StandsAfter read_statuses (IsAccepted (apply (byte_of lanes))) history
  -- active bytes are read after all statuses told success
  pub active : StandsAfter read_active (FindsApplied lanes) history

-- in which answer a step ends provisioning
abbrev pub EndsProvisioning : List ℕ → Lanes → Answer → Step → Type 0
EndsProvisioning control lanes (Ok steps) step = Gives read_active control step
EndsProvisioning control lanes (Err (Rejected lane code)) step = Reads read_statuses (IsRejectedAt lanes lane code) step
EndsProvisioning control lanes (Err (StagedDiffers lane)) step = Reads read_staged (DiffersAt control lane) step
EndsProvisioning control lanes (Err (ActiveDiffers lane)) step = Reads read_active (DiffersAt control lane) step
EndsProvisioning control lanes (Err (ModuleState code)) step =
    Reads read_module_state (IsInOtherState code) step
EndsProvisioning control lanes (Err (Reserved code)) step =
    Reads read_module_state (IsInNoState code) step
    ⊎ (Reads read_path_states (IsLowestReserved IsReservedPathState lanes code) step
    ⊎ Reads read_statuses (IsLowestReserved IsReservedStatus lanes code) step)
EndsProvisioning control lanes (Err fault) step = ⊥

-- when page 10h is selected: for DPDeinit, or to stage and to apply
abbrev pub WantsControls : Lanes → History → Type 0
WantsControls lanes before =
    (¬ (Stands (IsAccepted (set_deinit (byte_of lanes))) before))
    ⊎ (Stands (FindsDeactivated lanes) before × (¬ (Stands (IsAccepted (apply (byte_of lanes))) before)))

-- when page 11h is selected: for the path states, or for the statuses and the active bytes
abbrev pub WantsStatuses : Lanes → History → Type 0
WantsStatuses lanes before =
    (Stands (IsAccepted (set_deinit (byte_of lanes))) before × (¬ (Stands (FindsDeactivated lanes) before)))
    ⊎ Stands (IsAccepted (apply (byte_of lanes))) before

-- no step is needless
pub record IsProvisioningBriefBy (doubts : Bool) (lanes : Lanes) (history : History) : Type 0 where
  pub selections : ReadsSelectionsBackBy doubts history
  -- a page is selected only if it isn't confirmed, and something is to be done on it
  pub controls : EachStep (λ step before. step.op ≡ selection control_page → (¬ (Confirms control_page (trusted doubts before))) × WantsControls lanes before) history
  pub status : EachStep (λ step before. step.op ≡ selection status_page → (¬ (Confirms status_page (trusted doubts before))) × WantsStatuses lanes before) history
  pub module_state : ReadsOnce read_module_state history
  pub staged : ReadsOnce read_staged history
  -- what was found is awaited no more
  pub path_states : StandsAfterNo read_path_states (FindsDeactivated lanes) history
  pub statuses : StandsAfterNo read_statuses (FindsApplied lanes) history

-- these steps, the newest first, and this answer are provisioning of the control bytes, by the lanes of the mask; full says
-- that the bus's list is full after them
pub record IsProvisioningBy (doubts : Bool) (control : List ℕ) (lanes : Lanes) (full : Type 0) (history : History) (answer : Answer) : Type 0 where
  pub shape : EachStep (IsProvisioningStepBy doubts control lanes) history
  pub order : IsProvisioningOrder control lanes history
  pub answered : IsAnswer (EndsProvisioning control lanes) full history answer
  pub brief : IsProvisioningBriefBy doubts lanes history

-- without doubt
abbrev pub IsProvisioning : List ℕ → Lanes → Type 0 → History → Answer → Type 0
IsProvisioning control lanes full history answer = IsProvisioningBy false control lanes full history answer

-- these steps, the newest first, are the first ones of provisioning, and determine no answer
pub record IsUnfinishedProvisioningBy (doubts : Bool) (control : List ℕ) (lanes : Lanes) (history : History) : Type 0 where
  pub shape : EachStep (IsProvisioningStepBy doubts control lanes) history
  pub order : IsProvisioningOrder control lanes history
  pub none : NoneEnds (EndsProvisioning control lanes) history
  pub brief : IsProvisioningBriefBy doubts lanes history
