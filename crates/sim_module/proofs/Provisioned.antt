-- From the outcome of provisioning to the facts that the law uses: how it ends, and that page 10h isn't selected once the
-- control bytes are applied.
use Rattle.std.proofs.Common.{◌≡◌, inl, inr, ℕ, ◌≤◌, true, List, [], ◌∷◌, ◌++◌, Ok, Err, refl, ap, sym, subst, ◌∙◌, arith}
use Rattle.std.specs.List.{AllByRecursion}
use Rattle.std.specs.FinSet as set
use Rattle.std.proofs.lemmas.Bool.Decides.{nat_tests}
use Rattle.bus_model.specs.declared.device.Dev.TheVariants.{A0}
use Rattle.bus_model.specs.declared.operation.Op.{Op}
use Rattle.bus_model.specs.declared.operation.Op.TheVariants.{Fetch}
use Rattle.bus_model.specs.declared.operation.Step.{Step}
use Rattle.field_tables.specs.LaneSets.{IsLane, Lanes, byte_of, every_lane}
use Rattle.field_tables.specs.LaneBytes.{contains-run_of}
use Rattle.control_sets.specs.Pages.{EachStep, History, selection}
use Rattle.control_sets.specs.declared.fault.ProvisionFault.TheVariants.{Bus, GaveUp}
use Rattle.bus_model.specs.declared.bus.BusFault.TheVariants.{TraceFull}
use Rattle.control_sets.specs.OutcomeSteps.{Gives, IsAccepted, Stands, StandsAfter}
use Rattle.control_sets.specs.OutcomeAnswers.{EndsIn}
use Rattle.control_sets.specs.OutcomeCodes.{IsOf}
use Rattle.control_sets.specs.OutcomeOperations.{Confirms, apply, control_page, read_active, read_path_states, read_staged, read_statuses, set_deinit, stage, status_page}
use Rattle.control_sets.specs.OutcomeOfProvisioning.{EndsProvisioning, FindsApplied, FindsDeactivated, IsProvisioning, IsProvisioningStep, WantsControls}
use Rattle.field_tables.specs.declared.field.Register.TheVariants as registers
use Rattle.field_tables.specs.Registers.{byte_count, first_byte}
use Rattle.sim_module.specs.ActiveSets.{ActiveIsPlanned, ActiveIsPlannedOn, HasNoApply}
use Rattle.sim_module.specs.Soundness.{IsSound}
use Rattle.sim_module.proofs.ActiveLaw.{EndsApplied, active_is_read, offset_of, read}
use Rattle.sim_module.proofs.IdleModule.{MapsNoControls}

-- ---- where steps stand

-- a step of which P holds, with those after it and those before it
record Standing (P : Step → Type 0) (steps : History) : Type 0 where
  newer : History
  step : Step
  older : History
  split : steps ≡ newer ++ step ∷ older
  holds : P step

standing : (P : Step → Type 0) (steps : History) → Stands P steps → Standing P steps
standing P [] none = elim none [ ]
standing P (step ∷ older) (inl holds) = record { newer = []; step = step; older = older; split = refl; holds = holds }
standing P (step ∷ steps) (inr later) =
    let there = standing P steps later in
    record { newer = step ∷ there.newer; step = there.step; older = there.older; split = ap (λ (ss : History). step ∷ ss) there.split; holds = there.holds }

-- what each step satisfies, one of them does
each_at : (P : Step → History → Type 0) (newer : History) (step : Step) (older : History) → EachStep P (newer ++ step ∷ older) → P step older
each_at P [] step older each = each.0
each_at P (other ∷ newer) step older each = each_at P newer step older each.1

-- the steps before a step, too
each_older : (P : Step → History → Type 0) (newer older : History) → EachStep P (newer ++ older) → EachStep P older
each_older P [] older each = each
each_older P (other ∷ newer) older each = each_older P newer older each.1

pub later : (P : Step → Type 0) (newer older : History) → Stands P older → Stands P (newer ++ older)
later P [] older stands = stands
later P (step ∷ newer) older stands = inr (later P newer older stands)

-- before a step with the operation stands one of which Q holds
before_it : (op : Op) (P Q : Step → Type 0) (steps : History) → ((step : Step) → P step → step.op ≡ op) → EachStep (λ step before. step.op ≡ op → Stands Q before) steps → Stands P steps → Stands Q steps
before_it op P Q [] makes each none = elim none [ ]
before_it op P Q (step ∷ older) makes each (inl holds) = inr (each.0 (makes step holds))
before_it op P Q (step ∷ steps) makes each (inr stands) = inr (before_it op P Q steps makes each.1 stands)

-- ---- operations apart

-- the statuses and the active bytes are read on page 11h
shown_on : (control : List ℕ) (lanes : Lanes) (step : Step) (before : History) (offset count : ℕ) → 200 ≤ offset → step.op ≡ Fetch A0 offset count → IsProvisioningStep control lanes step before → Confirms status_page before
shown_on control lanes step before offset count high is (inl (inl low)) = let far : offset ≡ 3 = ap offset_of (sym is ∙ low) in absurd (omega (arith, far, high))
shown_on control lanes step before offset count high is (inl (inr (inl low))) = let far : offset ≡ 126 = ap offset_of (sym is ∙ low) in absurd (omega (arith, far, high))
shown_on control lanes step before offset count high is (inl (inr (inr (inl low)))) = let far : offset ≡ 126 = ap offset_of (sym is ∙ low) in absurd (omega (arith, far, high))
shown_on control lanes step before offset count high is (inl (inr (inr (inr (inl low))))) = let far : offset ≡ 126 = ap offset_of (sym is ∙ low) in absurd (omega (arith, far, high))
shown_on control lanes step before offset count high is (inl (inr (inr (inr (inr none))))) = absurd none
shown_on control lanes step before offset count high is (inr (inl shown)) = shown.1
shown_on control lanes step before offset count high is (inr (inr (inl low, confirmed))) = let far : offset ≡ 128 = ap offset_of (sym is ∙ low) in absurd (omega (arith, far, high))
shown_on control lanes step before offset count high is (inr (inr (inr (inl low), confirmed))) = let far : offset ≡ first_byte registers.StagedControl = ap offset_of (sym is ∙ low) in absurd (omega (arith, far, high))
shown_on control lanes step before offset count high is (inr (inr (inr (inr (inl low)), confirmed))) = let far : offset ≡ first_byte registers.StagedControl = ap offset_of (sym is ∙ low) in absurd (omega (arith, far, high))
shown_on control lanes step before offset count high is (inr (inr (inr (inr (inr (inl low))), confirmed))) = let far : offset ≡ first_byte registers.ApplyDPInit = ap offset_of (sym is ∙ low) in absurd (omega (arith, far, high))
shown_on control lanes step before offset count high is (inr (inr (inr (inr (inr (inr none))), confirmed))) = absurd none

-- a store that is none but a selection of page 10h
by_op : (op other : Op) → op ≡ other → MapsNoControls other → MapsNoControls op
by_op op other is maps = subst MapsNoControls (sym is) maps

maps_none : (control : List ℕ) (lanes : Lanes) (step : Step) (before : History) → IsProvisioningStep control lanes step before → (step.op ≡ selection control_page → ⊥) → MapsNoControls step.op
maps_none control lanes step before (inl (inl is)) never = by_op _ _ is tt
maps_none control lanes step before (inl (inr (inl is))) never = by_op _ _ is tt
maps_none control lanes step before (inl (inr (inr (inl is)))) never = absurd (never is)
maps_none control lanes step before (inl (inr (inr (inr (inl is))))) never = by_op _ _ is (inr (refl, refl))
maps_none control lanes step before (inl (inr (inr (inr (inr none))))) never = absurd none
maps_none control lanes step before (inr (inl (inl is, confirmed))) never = by_op _ _ is tt
maps_none control lanes step before (inr (inl (inr (inl is), confirmed))) never = by_op _ _ is tt
maps_none control lanes step before (inr (inl (inr (inr (inl is)), confirmed))) never = by_op _ _ is tt
maps_none control lanes step before (inr (inl (inr (inr (inr none)), confirmed))) never = absurd none
maps_none control lanes step before (inr (inr (inl is, confirmed))) never = by_op _ _ is (inl (omega arith))
maps_none control lanes step before (inr (inr (inr (inl is), confirmed))) never = by_op _ _ is (inl (omega arith))
maps_none control lanes step before (inr (inr (inr (inr (inl is)), confirmed))) never = by_op _ _ is tt
maps_none control lanes step before (inr (inr (inr (inr (inr (inl is))), confirmed))) never = by_op _ _ is (inl (omega arith))
maps_none control lanes step before (inr (inr (inr (inr (inr (inr none))), confirmed))) never = absurd none

-- ---- once the control bytes are applied

abbrev Applied : Lanes → Step → Type 0
Applied lanes = IsAccepted (apply (byte_of lanes))

abbrev TakenDown : Lanes → Step → Type 0
TakenDown lanes = IsAccepted (set_deinit (byte_of lanes))

-- page 10h isn't wanted any more
unwanted : (lanes : Lanes) (before : History) → Stands (Applied lanes) before → Stands (TakenDown lanes) before → WantsControls lanes before → ⊥
unwanted lanes before applied taken (inl not_taken) = not_taken taken
unwanted lanes before applied taken (inr both) = both.1 applied

no_controls : (control : List ℕ) (lanes : Lanes) (newer older : History) → EachStep (IsProvisioningStep control lanes) (newer ++ older) →
    EachStep (λ step before. step.op ≡ selection control_page → (¬ (Confirms control_page before)) × WantsControls lanes before) (newer ++ older) →
    Stands (Applied lanes) older → Stands (TakenDown lanes) older → AllByRecursion (λ step. MapsNoControls step.op) newer
no_controls control lanes [] older shape wants applied taken = tt
no_controls control lanes (step ∷ newer) older shape wants applied taken = (
  maps_none control lanes step (newer ++ older) shape.0
      (λ selects. unwanted lanes (newer ++ older) (later (Applied lanes) newer older applied) (later (TakenDown lanes) newer older taken) (wants.0 selects).1),
  no_controls control lanes newer older shape.1 wants.1 applied taken,
)

-- ---- how provisioning ends

module _ (control : List ℕ) (lanes : Lanes) {full : Type 0} (history : History) (count : ℕ) (outcome : IsProvisioning control lanes full history (Ok count)) where
  from_end : EndsIn (EndsProvisioning control lanes) history (Ok count) → EndsApplied control lanes history
  from_end ends =
      let found = standing (FindsApplied lanes) ends.before ((subst (StandsAfter read_active (FindsApplied lanes)) ends.split outcome.order.active).0 ends.ends.0) in
      let bytes = found.holds.0 in
      let newer = found.newer in
      let older = found.older in
      let statuses = read (first_byte registers.ConfigStatus) (byte_count registers.ConfigStatus) bytes in
      let last = read (first_byte registers.ActiveControl) (byte_count registers.ActiveControl) control in
      let statuses_are : found.step ≡ statuses = λ i. record { op = found.holds.1.0 i; reply = found.holds.1.1 i } in
      let last_is : ends.last ≡ last = λ i. record { op = ends.ends.0 i; reply = ends.ends.1 i } in
      let before_is : ends.before ≡ newer ++ statuses ∷ older = found.split ∙ ap (λ (s : Step). newer ++ s ∷ older) statuses_are in
      let whole : history ≡ last ∷ (newer ++ statuses ∷ older) = ends.split ∙ (λ i. last_is i ∷ before_is i) in
      let shape = subst (EachStep (IsProvisioningStep control lanes)) whole outcome.shape in
      let controls = subst (EachStep (λ step before. step.op ≡ selection control_page → (¬ (Confirms control_page before)) × WantsControls lanes before)) whole outcome.brief.controls in
      let old = λ (P : Step → History → Type 0) (each : EachStep P history). (each_older P newer (statuses ∷ older) (subst (EachStep P) whole each).1).1 in
      let applied : Stands (Applied lanes) older =
      each_at (λ step before. step.op ≡ read_statuses → Stands (Applied lanes) before) newer statuses older (subst (StandsAfter read_statuses (Applied lanes)) whole outcome.order.statuses).1 refl in
      let checked : Stands (Gives read_staged control) older =
      before_it (apply (byte_of lanes)) (Applied lanes) (Gives read_staged control) older (λ step holds. holds.0) (old (λ step before. step.op ≡ apply (byte_of lanes) → Stands (Gives read_staged control) before) outcome.order.applies) applied in
      let staged : Stands (IsAccepted (stage control)) older =
      before_it read_staged (Gives read_staged control) (IsAccepted (stage control)) older (λ step holds. holds.0) (old (λ step before. step.op ≡ read_staged → Stands (IsAccepted (stage control)) before) outcome.order.checks) checked in
      let deactivated : Stands (FindsDeactivated lanes) older =
      before_it (stage control) (IsAccepted (stage control)) (FindsDeactivated lanes) older (λ step holds. holds.0) (old (λ step before. step.op ≡ stage control → Stands (FindsDeactivated lanes) before) outcome.order.stages) staged in
      let taken : Stands (TakenDown lanes) older =
      before_it read_path_states (FindsDeactivated lanes) (TakenDown lanes) older (λ step holds. holds.1.0) (old (λ step before. step.op ≡ read_path_states → Stands (TakenDown lanes) before) outcome.order.path_states) deactivated in
      record {
        between = newer;
        statuses = bytes;
        before = older;
        split = whole;
        success = found.holds.2;
        shown = shown_on control lanes statuses older (first_byte registers.ConfigStatus) (byte_count registers.ConfigStatus) (omega arith) refl (each_at (IsProvisioningStep control lanes) newer statuses older shape.1);
        still_shown = shown_on control lanes last (newer ++ statuses ∷ older) (first_byte registers.ActiveControl) (byte_count registers.ActiveControl) (omega arith) refl shape.0;
        no_controls = no_controls control lanes newer (statuses ∷ older) shape.1 controls.1 (inr applied) (inr taken);
        shape = (each_older (IsProvisioningStep control lanes) newer (statuses ∷ older) shape.1).1;
        applied = applied;
        taken = taken;
      }

  pub ends_applied : EndsApplied control lanes history
  ends_applied = elim outcome.answered.answered [
    | inl ends ↦ from_end ends
    | inr (inl gives_up) ↦ let fault : Ok count ≡ Err GaveUp = gives_up.fault in cc
    | inr (inr fills) ↦ let fault : Ok count ≡ Err (Bus TraceFull) = fills.fault in cc
  ]

is_every : (lane : ℕ) → IsLane lane → set.contains every_lane lane ≡ true
is_every lane within = contains-run_of 1 8 lane ∙ grind (arith, nat_tests)

-- where some lane is applied
pub active_on_some : (lanes : Lanes) (lane : ℕ) → IsOf lanes lane → ActiveIsPlannedOn lanes IsSound
active_on_some lanes lane of_lanes old new history control steps sound ran outcome =
    active_is_read old new history control lanes sound (inl (lane, of_lanes)) ran (ends_applied control lanes history steps outcome)

-- where no apply is in progress at first
pub active_if_none : (lanes : Lanes) → ActiveIsPlannedOn lanes (λ sim. IsSound sim × HasNoApply sim)
active_if_none lanes old new history control steps begins ran outcome =
    active_is_read old new history control lanes begins.0 (inr begins.1) ran (ends_applied control lanes history steps outcome)

pub active_is_planned : ActiveIsPlanned
active_is_planned = active_on_some every_lane 1 ((omega arith, omega arith), is_every 1 (omega arith, omega arith))
