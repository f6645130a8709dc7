-- Steps and answers that look right and are no activation.
use Rattle.std.proofs.Common.{◌≡◌, ◌≢◌, ℕ, false, List, [], ◌∷◌, Ok, refl, ap, subst, ◌∙◌, inl, inr}
use Rattle.field_tables.specs.LaneSets.{Lanes, every_lane}
use Rattle.bus_model.specs.declared.operation.Step.{Step}
use Rattle.datapath_states.specs.Lanes.{code_in}
use Rattle.bus_model.specs.SameOperation.{same_op}
use Rattle.control_sets.specs.Pages.{History, selection}
use Rattle.control_sets.specs.OutcomeSteps.{Gives, IsAccepted, IsAnswered, Stands}
use Rattle.control_sets.specs.OutcomeOperations.{control_page, read_active, read_module_state, read_path_states}
use Rattle.control_sets.specs.OutcomeCodes.{IsOf, IsReservedPathState}
use Rattle.control_sets.specs.OutcomeAnswers.{Answer}
use Rattle.control_sets.specs.OutcomeOfActivation.{IsActivation, release}
use Rattle.control_sets.specs.OutcomeExamples.{gave, ready, took}
use Rattle.bus_model.proofs.SameOperations.{apart}
use Rattle.control_sets.proofs.OutcomeWords.{items_in, same_last, success_ends}

module _ (control : List ℕ) (lanes : Lanes) (full : Type 0) where
  -- the last step of a success is no other read than that of the path states
  pub by_another : (step : Step) (before : History) (steps : ℕ) → same_op step.op read_path_states ≡ false → IsActivation control lanes full (step ∷ before) (Ok steps) → ⊥
  by_another step before steps other outcome =
      let ends = success_ends outcome.answered in
      apart step.op read_path_states other (ap (λ (step : Step). step.op) (same_last ends.split) ∙ ends.ends.1.0)

  -- the bytes that the last step of a success read
  read_last : (bytes : List ℕ) (before : History) (steps : ℕ) (outcome : IsActivation control lanes full (gave read_path_states bytes ∷ before) (Ok steps)) →
      bytes ≡ (success_ends outcome.answered).ends.0
  read_last bytes before steps outcome =
      let ends = success_ends outcome.answered in
      ap (λ (step : Step). items_in step.reply) (same_last ends.split) ∙ ap items_in ends.ends.1.1

  -- a lane of the plan isn't activated
  pub overlooks_lane : (bytes : List ℕ) (before : History) (steps lane : ℕ) → IsOf lanes lane → code_in bytes lane ≢ 4 → IsActivation control lanes full (gave read_path_states bytes ∷ before) (Ok steps) → ⊥
  overlooks_lane bytes before steps lane is other outcome =
      let ends = success_ends outcome.answered in
      other (ap (λ (bytes : List ℕ). code_in bytes lane) (read_last bytes before steps outcome) ∙ ends.ends.2.1 lane is)

  -- a lane tells a reserved code
  pub overlooks_reserved : (bytes : List ℕ) (before : History) (steps lane : ℕ) → IsOf every_lane lane → IsReservedPathState (code_in bytes lane) →
      IsActivation control lanes full (gave read_path_states bytes ∷ before) (Ok steps) → ⊥
  overlooks_reserved bytes before steps lane is reserved outcome =
      let ends = success_ends outcome.answered in
      ends.ends.2.0 lane (is, subst (λ (bytes : List ℕ). IsReservedPathState (code_in bytes lane)) (read_last bytes before steps outcome) reserved)

  -- the lanes are released though the control bytes weren't read as active
  pub releases_unread : (step : Step) (before : History) (answer : Answer) → step.op ≡ release lanes → (Stands (Gives read_active control) before → ⊥) → IsActivation control lanes full (step ∷ before) answer → ⊥
  releases_unread step before answer is none outcome = none (outcome.order.releases.0 is)

  -- path states are read though no release was accepted
  pub believes_refused : (step : Step) (before : History) (answer : Answer) → step.op ≡ read_path_states → (Stands (IsAccepted (release lanes)) before → ⊥) → IsActivation control lanes full (step ∷ before) answer → ⊥
  believes_refused step before answer is none outcome = none (outcome.order.path_states.0 is)

  -- two accepted releases
  pub releases_twice : (before : History) (answer : Answer) → Stands (IsAccepted (release lanes)) before → IsActivation control lanes full (took (release lanes) ∷ before) answer → ⊥
  releases_twice before answer earlier outcome = outcome.order.once.0 (refl, refl) earlier

  -- the active bytes are read again
  pub reads_twice : (bytes : List ℕ) (before : History) (answer : Answer) → Stands (IsAnswered read_active) before → IsActivation control lanes full (gave read_active bytes ∷ before) answer → ⊥
  reads_twice bytes before answer earlier outcome = outcome.brief.active.0 (bytes, (refl, refl), tt) earlier

  -- page 10h is selected before the active bytes were read
  pub selects_controls_first : (answer : Answer) → IsActivation control lanes full (took (selection control_page) ∷ ready ∷ []) answer → ⊥
  selects_controls_first answer outcome = elim (outcome.brief.controls.0 refl).1 as (λ _. ⊥) [
    | inl gives ↦ apart read_module_state read_active refl gives.0
    | inr none ↦ none
  ]
