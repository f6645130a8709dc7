-- Steps and answers that look right and are no provisioning.
use Rattle.std.proofs.Common.{◌≡◌, ◌+◌, ℕ, false, List, [], ◌∷◌, Ok, Err, ◌<◌, length, refl, sym, subst, ap, ◌∙◌, inl, inr, arith}
use Rattle.field_tables.specs.LaneSets.{Lanes, byte_of}
use Rattle.bus_model.specs.declared.operation.Op.{Op}
use Rattle.bus_model.specs.declared.operation.Op.TheVariants.{Fetch, Store}
use Rattle.bus_model.specs.declared.operation.Reply.TheVariants.{Bytes, Refused}
use Rattle.bus_model.specs.declared.operation.Step.{Step}
use Rattle.control_sets.specs.declared.fault.ProvisionFault.TheVariants.{Bus, GaveUp, ModuleState, StagedDiffers}
use Rattle.bus_model.specs.declared.bus.BusFault.TheVariants.{TraceFull}
use Rattle.module_states.specs.declared.state.ModuleState.TheVariants.{LowPwr}
use Rattle.bus_model.specs.SameOperation.{same_op}
use Rattle.control_sets.specs.Pages.{History, read_selection, selection}
use Rattle.control_sets.specs.OutcomeSteps.{IsAccepted, Stands}
use Rattle.control_sets.specs.OutcomeOperations.{apply, control_page, read_active, read_module_state, read_path_states, read_staged, read_statuses, set_deinit, stage, status_page}
use Rattle.control_sets.specs.OutcomeCodes.{byte_at}
use Rattle.control_sets.specs.OutcomeAnswers.{Answer, NoneEnds}
use Rattle.control_sets.specs.OutcomeOfProvisioning.{EndsProvisioning, IsProvisioning}
use Rattle.control_sets.specs.OutcomeExamples.{almost_pairs, gave, low_power, on_controls, pairs, ready, refused, took}
use Rattle.control_sets.proofs.OutcomeWords.{confirms_page, contradicts, items_in, not_among, page_confirmed, same_last, success_ends}
use Rattle.bus_model.proofs.SameOperations.{apart}

abbrev given : Op → List ℕ
given (Fetch dev offset count) = []
given (Store dev offset bytes) = bytes.items

abbrev first_of : List ℕ → ℕ
first_of [] = 0
first_of (byte ∷ bytes) = byte

module _ (control : List ℕ) (lanes : Lanes) (full : Type 0) where
  -- a success without steps
  pub of_nothing : IsProvisioning control lanes full [] (Ok 0) → ⊥
  of_nothing outcome = let ends = success_ends outcome.answered in nothing ends.last ends.before ends.split where
    nothing : (last : Step) (before : History) → [] ≡ last ∷ before → ⊥
    nothing last before e = cc

  -- the last step of a success is no other read than that of the active bytes
  pub by_another : (step : Step) (before : History) (steps : ℕ) → same_op step.op read_active ≡ false → IsProvisioning control lanes full (step ∷ before) (Ok steps) → ⊥
  by_another step before steps other outcome =
      let ends = success_ends outcome.answered in
      apart step.op read_active other (ap (λ (step : Step). step.op) (same_last ends.split) ∙ ends.ends.0)

  -- another number of steps
  pub miscounted : (history : History) → IsProvisioning control lanes full history (Ok (length history + 1)) → ⊥
  miscounted history outcome = omega (arith, outcome.answered.counted)

  -- giving up after one step
  pub gives_up_early : (step : Step) → IsProvisioning control lanes full (step ∷ []) (Err GaveUp) → ⊥
  gives_up_early step outcome = elim outcome.answered.answered as (λ _. ⊥) [
    | inl ends ↦ ends.ends
    | inr (inl gives_up) ↦ let h : 1 ≡ 4096 = gives_up.all in omega (arith, h)
    | inr (inr fills) ↦ cc
  ]

  -- a store under a page that wasn't read back
  pub trusts_selection : (answer : Answer) → IsProvisioning control lanes full (took (stage control) ∷ took (selection control_page) ∷ ready ∷ []) answer → ⊥
  trusts_selection answer outcome = elim outcome.shape.0 as (λ _. ⊥) [
    | inl among ↦ not_among (read_module_state ∷ read_selection ∷ selection control_page ∷ selection status_page ∷ []) (stage control) (stage control) refl refl among
    | inr (inl (among, there)) ↦ not_among (read_path_states ∷ read_statuses ∷ read_active ∷ []) (stage control) (stage control) refl refl among
    | inr (inr (among, there)) ↦ contradicts (page_confirmed control_page (took (selection control_page) ∷ ready ∷ []) there) refl
  ]

  -- a selection that isn't read back before the next
  pub selects_twice : (answer : Answer) → IsProvisioning control lanes full (took (selection control_page) ∷ took (selection control_page) ∷ ready ∷ []) answer → ⊥
  selects_twice answer outcome = apart (selection control_page) read_selection refl (outcome.brief.selections.at_once.0 (inl (inl refl)))

  -- a selection that is made again where its read back was refused
  pub selects_unread : (answer : Answer) → IsProvisioning control lanes full (took (selection control_page) ∷ refused read_selection ∷ took (selection control_page) ∷ ready ∷ []) answer → ⊥
  selects_unread answer outcome = apart (selection control_page) read_selection refl (outcome.brief.selections.at_once.0 (inr (refl, refl)))

  -- a selection of page 11h before anything was taken down
  pub selects_status_first : (answer : Answer) → IsProvisioning control lanes full (took (selection status_page) ∷ ready ∷ []) answer → ⊥
  selects_status_first answer outcome = elim (outcome.brief.status.0 refl).1 as (λ _. ⊥) [
    | inl wanted ↦ none_taken wanted.0
    | inr applied ↦ none_applied applied
  ] where
    none_taken : Stands (IsAccepted (set_deinit (byte_of lanes))) (ready ∷ []) → ⊥
    none_taken (inl accepted) = apart read_module_state (set_deinit (byte_of lanes)) refl accepted.0
    none_taken (inr none) = none

    none_applied : Stands (IsAccepted (apply (byte_of lanes))) (ready ∷ []) → ⊥
    none_applied (inl accepted) = apart read_module_state (apply (byte_of lanes)) refl accepted.0
    none_applied (inr none) = none

  -- a store that is staged in place of the control bytes
  pub stages_others : (step : Step) (before : History) (answer : Answer) (others : List ℕ) → step.op ≡ stage others → (others ≡ control → ⊥) → IsProvisioning control lanes full (step ∷ before) answer → ⊥
  stages_others step before answer others is differ outcome = elim outcome.shape.0 as (λ _. ⊥) [
    | inl among ↦ not_among (read_module_state ∷ read_selection ∷ selection control_page ∷ selection status_page ∷ []) step.op (stage others) is refl among
    | inr (inl (among, there)) ↦ not_among (read_path_states ∷ read_statuses ∷ read_active ∷ []) step.op (stage others) is refl among
    | inr (inr (inl e, there)) ↦ apart (stage others) (set_deinit (byte_of lanes)) refl (sym is ∙ e)
    | inr (inr (inr (inl e), there)) ↦ differ (ap given (sym is ∙ e))
    | inr (inr (inr (inr among), there)) ↦ not_among (read_staged ∷ apply (byte_of lanes) ∷ []) step.op (stage others) is refl among
  ]

  -- an Apply of other lanes
  pub applies_others : (step : Step) (before : History) (answer : Answer) (bits : ℕ) → step.op ≡ apply bits → (bits ≡ byte_of lanes → ⊥) → IsProvisioning control lanes full (step ∷ before) answer → ⊥
  applies_others step before answer bits is differ outcome = elim outcome.shape.0 as (λ _. ⊥) [
    | inl among ↦ not_among (read_module_state ∷ read_selection ∷ selection control_page ∷ selection status_page ∷ []) step.op (apply bits) is refl among
    | inr (inl (among, there)) ↦ not_among (read_path_states ∷ read_statuses ∷ read_active ∷ []) step.op (apply bits) is refl among
    | inr (inr (inl e, there)) ↦ apart (apply bits) (set_deinit (byte_of lanes)) refl (sym is ∙ e)
    | inr (inr (inr (inl e), there)) ↦ apart (apply bits) (stage control) refl (sym is ∙ e)
    | inr (inr (inr (inr (inl e)), there)) ↦ apart (apply bits) read_staged refl (sym is ∙ e)
    | inr (inr (inr (inr (inr (inl e))), there)) ↦ differ (ap (λ (op : Op). first_of (given op)) (sym is ∙ e))
    | inr (inr (inr (inr (inr (inr none))), there)) ↦ none
  ]

  -- a step after one that ended in an answer
  pub goes_on_ended : (step : Step) (before : History) (answer : Answer) → IsProvisioning control lanes full (step ∷ low_power ∷ before) answer → ⊥
  goes_on_ended step before answer outcome = elim outcome.answered.answered as (λ _. ⊥) [
    | inl ends ↦ ended_by (let same : low_power ∷ before ≡ ends.before = cc in subst (NoneEnds (EndsProvisioning control lanes)) (sym same) ends.first)
    | inr (inl gives_up) ↦ ended_by gives_up.none.1
    | inr (inr fills) ↦ ended_by fills.none.1
  ] where
    ended_by : NoneEnds (EndsProvisioning control lanes) (low_power ∷ before) → ⊥
    ended_by none = none.0 (Err (ModuleState 1)) (0x02 ∷ [], (refl, refl), (refl, LowPwr, refl, λ e. cc))

  -- a list that isn't full is said to be
  pub fills_too_soon : (history : History) → (full → ⊥) → IsProvisioning control lanes full history (Err (Bus TraceFull)) → ⊥
  fills_too_soon history room outcome = elim outcome.answered.answered as (λ _. ⊥) [
    | inl ends ↦ ends.ends
    | inr (inl gives_up) ↦ cc
    | inr (inr fills) ↦ room fills.is_full
  ]

  -- more steps than may be made
  pub goes_too_far : (history : History) (answer : Answer) → 4096 < length history → IsProvisioning control lanes full history answer → ⊥
  goes_too_far history answer many outcome = omega (arith, many, outcome.answered.at_most)

  -- a selection of the page that is confirmed
  pub selects_again : (answer : Answer) → IsProvisioning control lanes full (took (selection control_page) ∷ on_controls) answer → ⊥
  selects_again answer outcome = (outcome.brief.controls.0 refl).0 (confirms_page control_page on_controls refl)

  -- a store before the module was found ready
  pub stores_unready : (answer : Answer) → IsProvisioning control lanes full (took (selection control_page) ∷ refused read_module_state ∷ []) answer → ⊥
  stores_unready answer outcome = elim (outcome.order.ready.0 tt) as (λ _. ⊥) [
    | inl (bytes, gives, is_ready) ↦ unread bytes gives.1
    | inr none ↦ none
  ] where
    unread : (bytes : List ℕ) → Refused ≡ Bytes (record { items = bytes }) → ⊥
    unread bytes e = cc

  -- an answered read of the module state, made again
  pub reads_twice : (answer : Answer) → IsProvisioning control lanes full (ready ∷ ready ∷ []) answer → ⊥
  reads_twice answer outcome = outcome.brief.module_state.0 (0x06 ∷ [], (refl, refl), tt) (inl (0x06 ∷ [], (refl, refl), tt))

  -- statuses that are read though no Apply was accepted
  pub believes_refused : (step : Step) (before : History) (answer : Answer) → step.op ≡ read_statuses → (Stands (IsAccepted (apply (byte_of lanes))) before → ⊥) → IsProvisioning control lanes full (step ∷ before) answer → ⊥
  believes_refused step before answer is none outcome = none (outcome.order.statuses.0 is)

-- the highest lane that differs in place of the lowest
pub names_highest : (lanes : Lanes) (full : Type 0) (before : History) → IsProvisioning pairs lanes full (gave read_staged almost_pairs ∷ before) (Err (StagedDiffers 5)) → ⊥
names_highest lanes full before outcome = elim outcome.answered.answered as (λ _. ⊥) [
  | inl ends ↦
      let (bytes, gives, differs) = ends.ends in
      let reply = ap (λ (step : Step). step.reply) (same_last ends.split) ∙ gives.1 in
      let same : almost_pairs ≡ bytes = ap items_in reply in
      differs.lowest 2 (omega arith, omega arith) (omega arith) (λ h. let n : 0 ≡ 32 = ap (λ (bytes : List ℕ). byte_at bytes 2) same ∙ h in omega (arith, n))
  | inr (inl gives_up) ↦ cc
  | inr (inr fills) ↦ cc
]
