-- What activation does and answers is its outcome.
use Rattle.std.proofs.Common.{Bool, true, false, ◌≡◌, ◌⊎◌, ℕ, ◌-◌, List, [], ◌∷◌, Some, None, Ok, Err, ◌<◌, drop, length, refl, sym, inl, inr, arith}
use Rattle.field_tables.specs.LaneSets.{Lanes, byte_of}
use Rattle.bus_model.specs.declared.bus.BusFault.TheVariants.{TraceFull}
use Rattle.bus_model.specs.declared.operation.Step.{Step}
use Rattle.bus_model.specs.Runs.{IsFull, Seen}
use Rattle.conversations.specs.Selecting.{trusted}
use Rattle.control_sets.specs.declared.fault.ProvisionFault.{ProvisionFault}
use Rattle.control_sets.specs.declared.fault.ProvisionFault.TheVariants.{ActiveDiffers, Bus, ModuleState, Reserved}
use Rattle.control_sets.specs.declared.procedures.task.Task.{Task}
use Rattle.control_sets.specs.declared.procedures.task.Task.TheVariants.{FindReady, Deinitialize, CheckActive, AwaitActivated}
use Rattle.control_sets.specs.declared.procedures.judgement.ReplyJudgement.TheVariants.{NotYet}
use Rattle.control_sets.specs.Pages.{EachStep, History, selection}
use Rattle.control_sets.specs.Tasks.{activation, operation, page_of}
use Rattle.control_sets.specs.Judgements.{differing_lane, judged}
use Rattle.control_sets.specs.Procedures.{EachAnswers, EachGoesOn, EachIsNextBy, GoesOn, HasEndedBy, IsOutcome, fault_by, is_on, IsUnfinishedBy}
use Rattle.control_sets.specs.OutcomeSteps.{Gives, IsAccepted, IsAnswered, Reads, Stands}
use Rattle.control_sets.specs.OutcomeOperations.{Confirms, control_page, read_active, read_module_state, read_path_states, status_page}
use Rattle.control_sets.specs.OutcomeAnswers.{Answer, IsAnswer}
use Rattle.control_sets.specs.OutcomeOfProvisioning.{FindsReady, IsStore}
use Rattle.control_sets.specs.OutcomeOfActivation.{EndsActivation, IsActivation, IsActivationBriefBy, IsActivationBy, IsActivationOrder, IsActivationStepBy, release, IsUnfinishedActivationBy}
use Rattle.control_sets.proofs.OutcomeWords.{confirms_page, each_from, unconfirmed}
use Rattle.control_sets.proofs.OutcomeReplies.{Shows, bytes_decide, module_decides}
use Rattle.control_sets.proofs.OutcomeSelections.{Here, among_lower, missing_page, no_page, other_page, reads_back}
use Rattle.control_sets.proofs.OutcomePlaces.{IsPlace, ends_on, ends_well, faulty, found_before, found_first, found_once, not_found, read_once, ready_before, which, which_shows}
use Rattle.control_sets.proofs.OutcomeAnswered.{Ending, is_ended, is_filled, is_on_bus, all_here, goes_before, none_ends}
use Rattle.bus_model.specs.declared.bus.BusFault.TheVariants.{TraceFull}
use Rattle.control_sets.specs.declared.fault.ProvisionFault.TheVariants.{Bus}

module _ (doubts : Bool) (control : List ℕ) (lanes : Lanes) (eight : length control ≡ 8) where
  abbrev tasks : List Task
  tasks = activation control lanes

  ready : IsPlace tasks 0 FindReady
  ready = record { has = refl; split = refl; earlier_differ = refl; later_differ = refl; eight = tt }

  active : IsPlace tasks 1 (CheckActive control)
  active = record { has = refl; split = refl; earlier_differ = refl; later_differ = refl; eight = eight }

  releasing : IsPlace tasks 2 (Deinitialize (255 - byte_of lanes))
  releasing = record { has = refl; split = refl; earlier_differ = refl; later_differ = refl; eight = tt }

  up : IsPlace tasks 3 (AwaitActivated lanes)
  up = record { has = refl; split = refl; earlier_differ = refl; later_differ = refl; eight = tt }

  active_decides : (bytes : List ℕ) → judged (CheckActive control) bytes ≡ NotYet → ⊥
  unfolding judged
  active_decides bytes e = bytes_decide ActiveDiffers (differing_lane bytes control) e

  module _ (step : Step) (before : History) (here : Here doubts tasks step before) where
    -- ---- shape

    abbrev Shape : Type 0
    Shape = IsActivationStepBy doubts lanes step before

    shaped : Shape
    shaped = elim here.turn.does as (λ _. Shape) [
      | inl reads ↦ inl (inr (inl reads.is))
      | inr (inl selects) ↦ inl (among_lower here.turn.task step.op (trusted doubts before) selects)
      | inr (inr works) ↦ which before (λ task. step.op ≡ operation task → is_on (page_of task) (trusted doubts before) ≡ true → Shape) here.turn.task [] tasks refl here.turn.hand
          (λ _ _ is _. inl (inl is))
          (λ _ _ is on. inr (inl (inl is, confirms_page status_page (trusted doubts before) on)))
          (λ _ _ is on. inr (inr (inl is, confirms_page control_page (trusted doubts before) on)))
          (λ _ _ is on. inr (inl (inr (inl is), confirms_page status_page (trusted doubts before) on)))
          works.is works.there
    ]

    -- ---- ends

    ends_none : GoesOn tasks (step ∷ before) → (answer : Answer) → EndsActivation control lanes answer step → ⊥
    ends_none on (Ok steps) end = ends_on up here refl on end
    ends_none on (Err (ActiveDiffers lane)) end = faulty active here (ActiveDiffers lane) end on.no_fault
    ends_none on (Err (ModuleState code)) end = faulty ready here (ModuleState code) end on.no_fault
    ends_none on (Err (Reserved code)) (inl end) = faulty ready here (Reserved code) end on.no_fault
    ends_none on (Err (Reserved code)) (inr end) = faulty up here (Reserved code) end on.no_fault
    ends_none on (Err _) end = end

    module_ends : (fault : ProvisionFault) → Reads read_module_state (Shows FindReady fault) step → EndsActivation control lanes (Err fault) step
    module_ends (ModuleState code) end = end
    module_ends (Reserved code) end = inl end
    module_ends _ end = absurd end.2

    active_ends : (fault : ProvisionFault) → Reads read_active (Shows (CheckActive control) fault) step → EndsActivation control lanes (Err fault) step
    active_ends (ActiveDiffers lane) end = end
    active_ends _ end = absurd end.2

    states_end : (fault : ProvisionFault) → Reads read_path_states (Shows (AwaitActivated lanes) fault) step → EndsActivation control lanes (Err fault) step
    states_end (Reserved code) end = inr end
    states_end _ end = absurd end.2

    ends_in_fault : (fault : ProvisionFault) → fault_by tasks step before ≡ Some fault → EndsActivation control lanes (Err fault) step
    ends_in_fault fault e = which_shows step before here.fit fault (EndsActivation control lanes (Err fault) step) tasks e
        (λ shown. module_ends fault (shown tt))
        (λ shown. active_ends fault (shown eight))
        (λ shown. absurd (shown tt).2)
        (λ shown. states_end fault (shown tt))

    -- ---- no needless selection

    selects_controls : step.op ≡ selection control_page → (¬ (Confirms control_page (trusted doubts before))) × Stands (Gives read_active control) before × (¬ (Stands (IsAccepted (release lanes)) before))
    selects_controls is =
        let missing = missing_page tasks control_page step before here.turn is in
        let wants = which before (λ task. page_of task ≡ Some control_page → Stands (Gives read_active control) before × (¬ (Stands (IsAccepted (release lanes)) before))) here.turn.task [] tasks refl here.turn.hand
        (λ _ _ needs. absurd (no_page needs))
        (λ _ _ needs. absurd (other_page needs))
        (λ first unmet _. (found_first active here 2 (omega arith) first, not_found releasing here unmet))
        (λ _ _ needs. absurd (other_page needs))
        missing.needs in
        (unconfirmed control_page (trusted doubts before) missing.missing, wants.0, wants.1)

    selects_status : step.op ≡ selection status_page → (¬ (Confirms status_page (trusted doubts before))) × ((¬ (Stands (Gives read_active control) before)) ⊎ Stands (IsAccepted (release lanes)) before)
    selects_status is =
        let missing = missing_page tasks status_page step before here.turn is in (
          unconfirmed status_page (trusted doubts before) missing.missing,
          which before (λ task. page_of task ≡ Some status_page → (¬ (Stands (Gives read_active control) before)) ⊎ Stands (IsAccepted (release lanes)) before) here.turn.task [] tasks refl here.turn.hand
              (λ _ _ needs. absurd (no_page needs))
              (λ _ unmet _. inl (not_found active here unmet))
              (λ _ _ needs. absurd (other_page (sym needs)))
              (λ first _ _. inr (found_first releasing here 3 (omega arith) first))
              missing.needs,
        )

  -- ---- all steps

  each_step : (history : History) (P : Step → History → Type 0) → EachStep (Here doubts tasks) history → ((step : Step) (before : History) → Here doubts tasks step before → P step before) → EachStep P history
  each_step history P each shown = each_from (Here doubts tasks) P history shown each

  order : (history : History) → EachStep (Here doubts tasks) history → IsActivationOrder control lanes history
  order history each = record {
    ready = each_step history (λ step before. IsStore step.op → Stands FindsReady before) each (λ step before here store. ready_before (drop 1 tasks) here store);
    releases = each_step history (λ step before. step.op ≡ release lanes → Stands (Gives read_active control) before) each (λ step before here is. found_before active releasing here (omega arith) is);
    once = each_step history (λ step before. IsAccepted (release lanes) step → ¬ (Stands (IsAccepted (release lanes)) before)) each (λ step before here accepted. found_once releasing here accepted.0);
    path_states = each_step history (λ step before. step.op ≡ read_path_states → Stands (IsAccepted (release lanes)) before) each (λ step before here is. found_before releasing up here (omega arith) is);
  }

  brief : (history : History) → EachStep (Here doubts tasks) history → IsActivationBriefBy doubts control lanes history
  brief history each = record {
    selections = reads_back tasks history each;
    controls = each_step history (λ step before. step.op ≡ selection control_page →
        (¬ (Confirms control_page (trusted doubts before))) × Stands (Gives read_active control) before × (¬ (Stands (IsAccepted (release lanes)) before)))
        each (λ step before here is. selects_controls step before here is);
    status = each_step history (λ step before. step.op ≡ selection status_page →
        (¬ (Confirms status_page (trusted doubts before))) × ((¬ (Stands (Gives read_active control) before)) ⊎ Stands (IsAccepted (release lanes)) before))
        each (λ step before here is. selects_status step before here is);
    module_state = each_step history (λ step before. IsAnswered read_module_state step → ¬ (Stands (IsAnswered read_module_state) before)) each (λ step before here read. read_once ready here module_decides read);
    active = each_step history (λ step before. IsAnswered read_active step → ¬ (Stands (IsAnswered read_active) before)) each (λ step before here read. read_once active here active_decides read);
  }

  ending : Ending doubts tasks (EndsActivation control lanes)
  ending = record {
    begins = λ e. (let h : Some FindReady ≡ None = e in cc);
    none = λ step before here on answer end. ends_none step before here on answer end;
    fault = λ step before here fault e. ends_in_fault step before here fault e;
    well = λ step before here unmet none steps. ends_well up here refl unmet none;
  }

  outcome : (full : Type 0) (history : History) (answer : Answer) → EachStep (Here doubts tasks) history → IsAnswer (EndsActivation control lanes) full history answer → IsActivationBy doubts control lanes full history answer
  outcome full history answer each answered = record {
    shape = each_step history (IsActivationStepBy doubts lanes) each (λ step before here. shaped step before here);
    order = order history each;
    answered = answered;
    brief = brief history each;
  }

  -- in the middle
  pub unfinished_is_activation : (history : History) → IsUnfinishedBy doubts tasks history → IsUnfinishedActivationBy doubts control lanes history
  unfinished_is_activation history at =
      let each = all_here doubts tasks history at.each at.answers (goes_before tasks history at.goes_on) in
      record {
        shape = each_step history (IsActivationStepBy doubts lanes) each (λ step before here. shaped step before here);
        order = order history each;
        none = none_ends tasks (EndsActivation control lanes) ending history each at.goes_on;
        brief = brief history each;
      }

  -- without a bus
  pub ended_is_activation : (full : Type 0) (history : History) (answer : Answer) → HasEndedBy doubts tasks history answer → IsActivationBy doubts control lanes full history answer
  ended_is_activation full history answer ended = is_ended tasks (EndsActivation control lanes) ending (IsActivationBy doubts control lanes) outcome full history answer ended

  -- where the bus's list is full
  pub filled_is_activation : (full : Type 0) (history : History) → EachIsNextBy doubts tasks history → EachAnswers history → full → length history < 4096 → EachGoesOn tasks history → IsActivationBy doubts control lanes full history (Err (Bus TraceFull))
  filled_is_activation full history nexts answers is_full fewer on = is_filled tasks (EndsActivation control lanes) ending (IsActivationBy doubts control lanes) outcome full history nexts answers is_full fewer on

-- on a bus
pub is_activation : {S : Type 0} (control : List ℕ) (lanes : Lanes) (after : Seen S) (history : History) (answer : Answer) → length control ≡ 8 → IsOutcome (activation control lanes) after history answer →
    IsActivation control lanes (IsFull after) history answer
is_activation control lanes after history answer eight ended =
    is_on_bus (activation control lanes) (EndsActivation control lanes) (ending false control lanes eight) (IsActivationBy false control lanes) (outcome false control lanes eight) after history answer ended
