-- What provisioning does and answers is its outcome.
use Rattle.std.proofs.Common.{Bool, true, false, ◌≡◌, ℕ, List, [], ◌∷◌, Some, None, Ok, Err, ◌<◌, drop, length, refl, sym, inl, inr, arith}
use Rattle.field_tables.specs.LaneSets.{Lanes, byte_of}
use Rattle.bus_model.specs.declared.bus.BusFault.TheVariants.{TraceFull}
use Rattle.bus_model.specs.declared.operation.Step.{Step}
use Rattle.bus_model.specs.Runs.{IsFull, Seen}
use Rattle.conversations.specs.Selecting.{trusted}
use Rattle.control_sets.specs.declared.fault.ProvisionFault.{ProvisionFault}
use Rattle.control_sets.specs.declared.fault.ProvisionFault.TheVariants.{Rejected, StagedDiffers, ActiveDiffers, Bus, ModuleState, Reserved}
use Rattle.control_sets.specs.declared.procedures.task.Task.{Task}
use Rattle.control_sets.specs.declared.procedures.task.Task.TheVariants.{FindReady, Deinitialize, AwaitDeactivated, Stage, CheckStaged, Apply, AwaitApplied, CheckActive}
use Rattle.control_sets.specs.declared.procedures.judgement.ReplyJudgement.TheVariants.{NotYet}
use Rattle.control_sets.specs.Pages.{EachStep, History, selection}
use Rattle.control_sets.specs.Tasks.{operation, page_of, provisioning}
use Rattle.control_sets.specs.Judgements.{differing_lane, judged}
use Rattle.control_sets.specs.Procedures.{EachAnswers, EachGoesOn, EachIsNextBy, GoesOn, HasEndedBy, IsOutcome, fault_by, is_on, IsUnfinishedBy}
use Rattle.control_sets.specs.OutcomeSteps.{Gives, IsAccepted, IsAnswered, Reads, Stands}
use Rattle.control_sets.specs.OutcomeOperations.{Confirms, apply, control_page, read_active, read_module_state, read_path_states, read_staged, read_statuses, set_deinit, stage, status_page}
use Rattle.control_sets.specs.OutcomeAnswers.{Answer, IsAnswer}
use Rattle.control_sets.specs.OutcomeOfProvisioning.{EndsProvisioning, FindsApplied, FindsDeactivated, FindsReady, IsProvisioning, IsProvisioningBy, IsProvisioningBriefBy, IsProvisioningOrder, IsProvisioningStepBy, IsStore, WantsControls, WantsStatuses, IsUnfinishedProvisioningBy}
use Rattle.control_sets.proofs.OutcomeWords.{confirms_page, each_from, unconfirmed}
use Rattle.control_sets.proofs.OutcomeReplies.{Shows, bytes_decide, module_decides}
use Rattle.control_sets.proofs.OutcomeSelections.{Here, among_lower, missing_page, no_page, other_page, reads_back}
use Rattle.control_sets.proofs.OutcomePlaces.{IsPlace, ends_on, ends_well, faulty, found_before, found_first, found_once, not_found, not_found_after, read_once, ready_before, which, which_shows}
use Rattle.control_sets.proofs.OutcomeStores.{in_order}
use Rattle.control_sets.proofs.OutcomeAnswered.{Ending, is_ended, is_filled, is_on_bus, all_here, goes_before, none_ends}
use Rattle.bus_model.specs.declared.bus.BusFault.TheVariants.{TraceFull}
use Rattle.control_sets.specs.declared.fault.ProvisionFault.TheVariants.{Bus}

module _ (doubts : Bool) (control : List ℕ) (lanes : Lanes) (eight : length control ≡ 8) where
  abbrev tasks : List Task
  tasks = provisioning control lanes

  abbrev bits : ℕ
  bits = byte_of lanes

  ready : IsPlace tasks 0 FindReady
  ready = record { has = refl; split = refl; earlier_differ = refl; later_differ = refl; eight = tt }

  deinit : IsPlace tasks 1 (Deinitialize bits)
  deinit = record { has = refl; split = refl; earlier_differ = refl; later_differ = refl; eight = tt }

  down : IsPlace tasks 2 (AwaitDeactivated lanes)
  down = record { has = refl; split = refl; earlier_differ = refl; later_differ = refl; eight = tt }

  staging : IsPlace tasks 3 (Stage control)
  staging = record { has = refl; split = refl; earlier_differ = refl; later_differ = refl; eight = tt }

  staged : IsPlace tasks 4 (CheckStaged control)
  staged = record { has = refl; split = refl; earlier_differ = refl; later_differ = refl; eight = eight }

  applying : IsPlace tasks 5 (Apply bits)
  applying = record { has = refl; split = refl; earlier_differ = refl; later_differ = refl; eight = tt }

  applied : IsPlace tasks 6 (AwaitApplied lanes)
  applied = record { has = refl; split = refl; earlier_differ = refl; later_differ = refl; eight = tt }

  active : IsPlace tasks 7 (CheckActive control)
  active = record { has = refl; split = refl; earlier_differ = refl; later_differ = refl; eight = eight }

  staged_decides : (bytes : List ℕ) → judged (CheckStaged control) bytes ≡ NotYet → ⊥
  unfolding judged
  staged_decides bytes e = bytes_decide StagedDiffers (differing_lane bytes control) e

  module _ (step : Step) (before : History) (here : Here doubts tasks step before) where
    -- ---- shape

    abbrev Shape : Type 0
    Shape = IsProvisioningStepBy doubts control lanes step before

    shaped : Shape
    shaped = elim here.turn.does as (λ _. Shape) [
      | inl reads ↦ inl (inr (inl reads.is))
      | inr (inl selects) ↦ inl (among_lower here.turn.task step.op (trusted doubts before) selects)
      | inr (inr works) ↦ which before (λ task. step.op ≡ operation task → is_on (page_of task) (trusted doubts before) ≡ true → Shape) here.turn.task [] tasks refl here.turn.hand
          (λ _ _ is _. inl (inl is))
          (λ _ _ is on. inr (inr (inl is, confirms_page control_page (trusted doubts before) on)))
          (λ _ _ is on. inr (inl (inl is, confirms_page status_page (trusted doubts before) on)))
          (λ _ _ is on. inr (inr (inr (inl is), confirms_page control_page (trusted doubts before) on)))
          (λ _ _ is on. inr (inr (inr (inr (inl is)), confirms_page control_page (trusted doubts before) on)))
          (λ _ _ is on. inr (inr (inr (inr (inr (inl is))), confirms_page control_page (trusted doubts before) on)))
          (λ _ _ is on. inr (inl (inr (inl is), confirms_page status_page (trusted doubts before) on)))
          (λ _ _ is on. inr (inl (inr (inr (inl is)), confirms_page status_page (trusted doubts before) on)))
          works.is works.there
    ]

    -- ---- ends

    ends_none : GoesOn tasks (step ∷ before) → (answer : Answer) → EndsProvisioning control lanes answer step → ⊥
    ends_none on (Ok steps) end = ends_on active here refl on end
    ends_none on (Err (Rejected lane code)) end = faulty applied here (Rejected lane code) end on.no_fault
    ends_none on (Err (StagedDiffers lane)) end = faulty staged here (StagedDiffers lane) end on.no_fault
    ends_none on (Err (ActiveDiffers lane)) end = faulty active here (ActiveDiffers lane) end on.no_fault
    ends_none on (Err (ModuleState code)) end = faulty ready here (ModuleState code) end on.no_fault
    ends_none on (Err (Reserved code)) (inl end) = faulty ready here (Reserved code) end on.no_fault
    ends_none on (Err (Reserved code)) (inr (inl end)) = faulty down here (Reserved code) end on.no_fault
    ends_none on (Err (Reserved code)) (inr (inr end)) = faulty applied here (Reserved code) end on.no_fault
    ends_none on (Err _) end = end

    module_ends : (fault : ProvisionFault) → Reads read_module_state (Shows FindReady fault) step → EndsProvisioning control lanes (Err fault) step
    module_ends (ModuleState code) end = end
    module_ends (Reserved code) end = inl end
    module_ends _ end = absurd end.2

    states_end : (fault : ProvisionFault) → Reads read_path_states (Shows (AwaitDeactivated lanes) fault) step → EndsProvisioning control lanes (Err fault) step
    states_end (Reserved code) end = inr (inl end)
    states_end _ end = absurd end.2

    staged_ends : (fault : ProvisionFault) → Reads read_staged (Shows (CheckStaged control) fault) step → EndsProvisioning control lanes (Err fault) step
    staged_ends (StagedDiffers lane) end = end
    staged_ends _ end = absurd end.2

    statuses_end : (fault : ProvisionFault) → Reads read_statuses (Shows (AwaitApplied lanes) fault) step → EndsProvisioning control lanes (Err fault) step
    statuses_end (Rejected lane code) end = end
    statuses_end (Reserved code) end = inr (inr end)
    statuses_end _ end = absurd end.2

    active_ends : (fault : ProvisionFault) → Reads read_active (Shows (CheckActive control) fault) step → EndsProvisioning control lanes (Err fault) step
    active_ends (ActiveDiffers lane) end = end
    active_ends _ end = absurd end.2

    ends_in_fault : (fault : ProvisionFault) → fault_by tasks step before ≡ Some fault → EndsProvisioning control lanes (Err fault) step
    ends_in_fault fault e = which_shows step before here.fit fault (EndsProvisioning control lanes (Err fault) step) tasks e
        (λ shown. module_ends fault (shown tt))
        (λ shown. absurd (shown tt).2)
        (λ shown. states_end fault (shown tt))
        (λ shown. absurd (shown tt).2)
        (λ shown. staged_ends fault (shown eight))
        (λ shown. absurd (shown tt).2)
        (λ shown. statuses_end fault (shown tt))
        (λ shown. active_ends fault (shown eight))

    -- ---- no needless selection

    selects_controls : step.op ≡ selection control_page → (¬ (Confirms control_page (trusted doubts before))) × WantsControls lanes before
    selects_controls is =
        let missing = missing_page tasks control_page step before here.turn is in (
          unconfirmed control_page (trusted doubts before) missing.missing,
          which before (λ task. page_of task ≡ Some control_page → WantsControls lanes before) here.turn.task [] tasks refl here.turn.hand
              (λ _ _ needs. absurd (no_page needs))
              (λ _ unmet _. inl (not_found deinit here unmet))
              (λ _ _ needs. absurd (other_page needs))
              (λ first unmet _. inr (found_first down here 3 (omega arith) first, not_found_after staging applying here (omega arith) unmet))
              (λ first unmet _. inr (found_first down here 4 (omega arith) first, not_found_after staged applying here (omega arith) unmet))
              (λ first unmet _. inr (found_first down here 5 (omega arith) first, not_found applying here unmet))
              (λ _ _ needs. absurd (other_page needs))
              (λ _ _ needs. absurd (other_page needs))
              missing.needs,
        )

    selects_status : step.op ≡ selection status_page → (¬ (Confirms status_page (trusted doubts before))) × WantsStatuses lanes before
    selects_status is =
        let missing = missing_page tasks status_page step before here.turn is in (
          unconfirmed status_page (trusted doubts before) missing.missing,
          which before (λ task. page_of task ≡ Some status_page → WantsStatuses lanes before) here.turn.task [] tasks refl here.turn.hand
              (λ _ _ needs. absurd (no_page needs))
              (λ _ _ needs. absurd (other_page (sym needs)))
              (λ first unmet _. inl (found_first deinit here 2 (omega arith) first, not_found down here unmet))
              (λ _ _ needs. absurd (other_page (sym needs)))
              (λ _ _ needs. absurd (other_page (sym needs)))
              (λ _ _ needs. absurd (other_page (sym needs)))
              (λ first _ _. inr (found_first applying here 6 (omega arith) first))
              (λ first _ _. inr (found_first applying here 7 (omega arith) first))
              missing.needs,
        )

  -- ---- all steps

  each_step : (history : History) (P : Step → History → Type 0) → EachStep (Here doubts tasks) history → ((step : Step) (before : History) → Here doubts tasks step before → P step before) → EachStep P history
  each_step history P each shown = each_from (Here doubts tasks) P history shown each

  order : (history : History) → EachStep (Here doubts tasks) history → IsProvisioningOrder control lanes history
  order history each = record {
    ready = each_step history (λ step before. IsStore step.op → Stands FindsReady before) each (λ step before here store. ready_before (drop 1 tasks) here store);
    stores = in_order control lanes doubts history each;
    path_states = each_step history (λ step before. step.op ≡ read_path_states → Stands (IsAccepted (set_deinit bits)) before) each (λ step before here is. found_before deinit down here (omega arith) is);
    stages = each_step history (λ step before. step.op ≡ stage control → Stands (FindsDeactivated lanes) before) each (λ step before here is. found_before down staging here (omega arith) is);
    checks = each_step history (λ step before. step.op ≡ read_staged → Stands (IsAccepted (stage control)) before) each (λ step before here is. found_before staging staged here (omega arith) is);
    applies = each_step history (λ step before. step.op ≡ apply bits → Stands (Gives read_staged control) before) each (λ step before here is. found_before staged applying here (omega arith) is);
    statuses = each_step history (λ step before. step.op ≡ read_statuses → Stands (IsAccepted (apply bits)) before) each (λ step before here is. found_before applying applied here (omega arith) is);
    active = each_step history (λ step before. step.op ≡ read_active → Stands (FindsApplied lanes) before) each (λ step before here is. found_before applied active here (omega arith) is);
  }

  brief : (history : History) → EachStep (Here doubts tasks) history → IsProvisioningBriefBy doubts lanes history
  brief history each = record {
    selections = reads_back tasks history each;
    controls = each_step history (λ step before. step.op ≡ selection control_page → (¬ (Confirms control_page (trusted doubts before))) × WantsControls lanes before) each (λ step before here is. selects_controls step before here is);
    status = each_step history (λ step before. step.op ≡ selection status_page → (¬ (Confirms status_page (trusted doubts before))) × WantsStatuses lanes before) each (λ step before here is. selects_status step before here is);
    module_state = each_step history (λ step before. IsAnswered read_module_state step → ¬ (Stands (IsAnswered read_module_state) before)) each (λ step before here read. read_once ready here module_decides read);
    staged = each_step history (λ step before. IsAnswered read_staged step → ¬ (Stands (IsAnswered read_staged) before)) each (λ step before here read. read_once staged here staged_decides read);
    path_states = each_step history (λ step before. step.op ≡ read_path_states → ¬ (Stands (FindsDeactivated lanes) before)) each (λ step before here is. found_once down here is);
    statuses = each_step history (λ step before. step.op ≡ read_statuses → ¬ (Stands (FindsApplied lanes) before)) each (λ step before here is. found_once applied here is);
  }

  ending : Ending doubts tasks (EndsProvisioning control lanes)
  ending = record {
    begins = λ e. (let h : Some FindReady ≡ None = e in cc);
    none = λ step before here on answer end. ends_none step before here on answer end;
    fault = λ step before here fault e. ends_in_fault step before here fault e;
    well = λ step before here unmet none steps. ends_well active here refl unmet none;
  }

  outcome : (full : Type 0) (history : History) (answer : Answer) → EachStep (Here doubts tasks) history → IsAnswer (EndsProvisioning control lanes) full history answer → IsProvisioningBy doubts control lanes full history answer
  outcome full history answer each answered = record {
    shape = each_step history (IsProvisioningStepBy doubts control lanes) each (λ step before here. shaped step before here);
    order = order history each;
    answered = answered;
    brief = brief history each;
  }

  -- in the middle
  pub unfinished_is_provisioning : (history : History) → IsUnfinishedBy doubts tasks history → IsUnfinishedProvisioningBy doubts control lanes history
  unfinished_is_provisioning history at =
      let each = all_here doubts tasks history at.each at.answers (goes_before tasks history at.goes_on) in
      record {
        shape = each_step history (IsProvisioningStepBy doubts control lanes) each (λ step before here. shaped step before here);
        order = order history each;
        none = none_ends tasks (EndsProvisioning control lanes) ending history each at.goes_on;
        brief = brief history each;
      }

  -- without a bus
  pub ended_is_provisioning : (full : Type 0) (history : History) (answer : Answer) → HasEndedBy doubts tasks history answer → IsProvisioningBy doubts control lanes full history answer
  ended_is_provisioning full history answer ended = is_ended tasks (EndsProvisioning control lanes) ending (IsProvisioningBy doubts control lanes) outcome full history answer ended

  -- where the bus's list is full
  pub filled_is_provisioning : (full : Type 0) (history : History) → EachIsNextBy doubts tasks history → EachAnswers history → full → length history < 4096 → EachGoesOn tasks history → IsProvisioningBy doubts control lanes full history (Err (Bus TraceFull))
  filled_is_provisioning full history nexts answers is_full fewer on = is_filled tasks (EndsProvisioning control lanes) ending (IsProvisioningBy doubts control lanes) outcome full history nexts answers is_full fewer on

-- on a bus
pub is_provisioning : {S : Type 0} (control : List ℕ) (lanes : Lanes) (after : Seen S) (history : History) (answer : Answer) → length control ≡ 8 → IsOutcome (provisioning control lanes) after history answer →
    IsProvisioning control lanes (IsFull after) history answer
is_provisioning control lanes after history answer eight ended =
    is_on_bus (provisioning control lanes) (EndsProvisioning control lanes) (ending false control lanes eight) (IsProvisioningBy false control lanes) (outcome false control lanes eight) after history answer ended
