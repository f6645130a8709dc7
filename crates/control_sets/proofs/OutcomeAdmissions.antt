-- Steps and answers that are provisioning or activation.
use Rattle.std.proofs.Common.{◌≡◌, ◌≢◌, ℕ, zero, suc, ◌&&◌, Bool, true, false, List, [], ◌∷◌, length, Option, Some, None, Err, is_some, refl, ap, inl, inr, arith}
use Rattle.std.proofs.lemmas.Bool.{and_parts}
use Rattle.std.specs.Option.{is_none}
use Rattle.field_tables.specs.LaneSets.{every_lane}
use Rattle.bus_model.specs.declared.bus.BusFault.TheVariants.{TraceFull}
use Rattle.bus_model.specs.declared.operation.Reply.TheVariants.{Refused}
use Rattle.control_sets.specs.declared.fault.ProvisionFault.TheVariants.{ActiveDiffers, Bus, GaveUp, ModuleState, Reserved}
use Rattle.control_sets.specs.declared.procedures.judgement.ReplyJudgement.TheVariants.{NotYet}
use Rattle.control_sets.specs.declared.procedures.procedure.Work.TheVariants.{Provisioning}
use Rattle.control_sets.specs.declared.procedures.task.Task.{Task}
use Rattle.control_sets.specs.declared.procedures.task.Task.TheVariants.{FindReady}
use Rattle.control_sets.specs.Pages.{History, is_open}
use Rattle.control_sets.specs.Tasks.{activation, provisioning}
use Rattle.control_sets.specs.Judgements.{judged}
use Rattle.control_sets.specs.Procedures.{EachGoesOn, fault_by, in_hand}
use Rattle.control_sets.specs.OutcomeOperations.{read_active, read_module_state}
use Rattle.control_sets.specs.OutcomeOfProvisioning.{IsProvisioning}
use Rattle.control_sets.specs.OutcomeOfActivation.{IsActivation}
use Rattle.control_sets.specs.OutcomeExamples.{almost_pairs, gave, low_power, on_controls, on_status_at_once, other_bank, pairs, refused, refused_reads, refused_selection, repeated_selection}
use Rattle.control_sets.proofs.OutcomeIsProvisioning.{ended_is_provisioning, filled_is_provisioning}
use Rattle.control_sets.proofs.OutcomeIsActivation.{ended_is_activation, filled_is_activation}
use Rattle.control_sets.proofs.OutcomeLanes.{is_none_of}
use Rattle.control_sets.proofs.OutcomeSuccesses.{makes}
use Rattle.control_sets.proofs.Turns.{Stands, at_start, goes_on_at}

-- a test of steps that end in no answer, nor do the first of them
abbrev none_ends : List Task → History → Bool
none_ends tasks [] = is_some (in_hand tasks [])
none_ends tasks (step ∷ before) = (is_some (in_hand tasks (step ∷ before)) && is_none (fault_by tasks step before)) && none_ends tasks before

unmet : (hand : Option Task) → is_some hand ≡ true → hand ≢ None
unmet None e none = cc
unmet (Some task) e none = cc

each_goes : (tasks : List Task) (history : History) → none_ends tasks history ≡ true → EachGoesOn tasks history
each_goes tasks [] e = record { unmet = unmet (in_hand tasks []) e; no_fault = refl }
each_goes tasks (step ∷ before) e =
    let parts = and_parts _ _ e in
    let here = and_parts _ _ parts.0 in
    (record { unmet = unmet (in_hand tasks (step ∷ before)) here.0; no_fault = is_none_of (fault_by tasks step before) here.1 }, each_goes tasks before parts.1)

module _ (full : Type 0) where
  abbrev tasks : List Task
  tasks = provisioning pairs every_lane

  abbrev Filled : History → Type 0
  Filled history = IsProvisioning pairs every_lane full history (Err (Bus TraceFull))

  -- the list was full from the start
  pub none_made : full → Filled []
  none_made is_full = filled_is_provisioning false pairs every_lane refl full [] tt tt is_full (omega arith) (each_goes tasks [] refl)

  -- the module is in ModuleLowPwr, and so after two refused reads
  pub in_low_power : IsProvisioning pairs every_lane full (low_power ∷ []) (Err (ModuleState 1))
  unfolding judged
  in_low_power = ended_is_provisioning false pairs every_lane refl full (low_power ∷ []) (Err (ModuleState 1))
      (record { each = (refl, tt); answers = (refl, tt); few = omega arith; answered = inl (refl, each_goes tasks [] refl) })

  pub read_after_refusals : IsProvisioning pairs every_lane full (low_power ∷ refused read_module_state ∷ refused read_module_state ∷ []) (Err (ModuleState 1))
  unfolding judged
  read_after_refusals =
      let before : History = refused read_module_state ∷ refused read_module_state ∷ [] in
      ended_is_provisioning false pairs every_lane refl full (low_power ∷ before) (Err (ModuleState 1))
      (record { each = (refl, (refl, (refl, tt))); answers = (refl, (tt, (tt, tt))); few = omega arith; answered = inl (refl, each_goes tasks before refl) })

  -- it tells the reserved code 7
  pub in_no_state : IsProvisioning pairs every_lane full (gave read_module_state (0x0E ∷ []) ∷ []) (Err (Reserved 7))
  unfolding judged
  in_no_state = ended_is_provisioning false pairs every_lane refl full (gave read_module_state (0x0E ∷ []) ∷ []) (Err (Reserved 7))
      (record { each = (refl, tt); answers = (refl, tt); few = omega arith; answered = inl (refl, each_goes tasks [] refl) })

  -- page 10h is read back
  pub controls_selected : full → Filled on_controls
  unfolding judged
  controls_selected is_full = filled_is_provisioning false pairs every_lane refl full on_controls (refl, (refl, (refl, tt))) (refl, (tt, (refl, tt))) is_full (omega arith) (each_goes tasks on_controls refl)

  -- a refused selection and a refused read back, and page 10h is read all the same
  pub selection_was_refused : full → Filled refused_selection
  unfolding judged
  selection_was_refused is_full = filled_is_provisioning false pairs every_lane refl full refused_selection (refl, (refl, (refl, (refl, tt)))) (refl, (tt, (tt, (refl, tt)))) is_full (omega arith) (each_goes tasks refused_selection refl)

  -- another page is read back
  pub selection_was_repeated : full → Filled repeated_selection
  unfolding judged
  selection_was_repeated is_full = filled_is_provisioning false pairs every_lane refl full repeated_selection (refl, (refl, (refl, (refl, tt)))) (tt, (refl, (tt, (refl, tt)))) is_full (omega arith) (each_goes tasks repeated_selection refl)

  pub bank_was_another : full → Filled other_bank
  unfolding judged
  bank_was_another is_full = filled_is_provisioning false pairs every_lane refl full other_bank (refl, (refl, (refl, (refl, tt)))) (tt, (refl, (tt, (refl, tt)))) is_full (omega arith) (each_goes tasks other_bank refl)

-- ---- as many refused reads as may be

-- so many refused reads of the module state
so_many : (count : ℕ) → length (refused_reads count) ≡ count
so_many zero = refl
so_many (suc count) = ap suc (so_many count)

closed : (count : ℕ) → is_open (refused_reads count) ≡ false
closed zero = refl
closed (suc count) = refl

none_met : (count : ℕ) → Stands false (provisioning pairs every_lane) (refused_reads count) 0 None
none_met zero = at_start false (provisioning pairs every_lane)
none_met (suc count) = makes (Provisioning pairs every_lane) 0 (refused_reads count) Refused NotYet refl tt refl (closed count) refl (none_met count)

-- after 4,096 it is given up
pub given_up : (full : Type 0) → IsProvisioning pairs every_lane full (refused_reads 4096) (Err GaveUp)
given_up full =
    let many = so_many 4096 in
    let at = goes_on_at (provisioning pairs every_lane) (refused_reads 4096) 0 None FindReady refl refl (none_met 4096) in
    ended_is_provisioning false pairs every_lane refl full (refused_reads 4096) (Err GaveUp)
    (record { each = at.each; answers = at.answers; few = omega (arith, many); answered = inr (record { fault = refl; all = many; goes_on = at.goes_on }) })

-- activation where the active byte of lane 2 is another
pub active_is_another : (full : Type 0) → IsActivation pairs every_lane full (gave read_active almost_pairs ∷ on_status_at_once) (Err (ActiveDiffers 2))
unfolding judged
active_is_another full = ended_is_activation false pairs every_lane refl full (gave read_active almost_pairs ∷ on_status_at_once) (Err (ActiveDiffers 2))
    (record {
      each = (refl, (refl, (refl, (refl, tt))));
      answers = (refl, (refl, (tt, (refl, tt))));
      few = omega arith;
      answered = inl (refl, each_goes (activation pairs every_lane) on_status_at_once refl);
    })

-- activation that finds the list full when page 11h is read back
pub status_selected : (full : Type 0) → full → IsActivation pairs every_lane full on_status_at_once (Err (Bus TraceFull))
unfolding judged
status_selected full is_full = filled_is_activation false pairs every_lane refl full on_status_at_once (refl, (refl, (refl, tt))) (refl, (tt, (refl, tt))) is_full (omega arith) (each_goes (activation pairs every_lane) on_status_at_once refl)
