-- After steps that end as a success of provisioning does, what was read of the Active Control Set is active. Steps stand
-- with the newest first.
use Rattle.std.proofs.Common.{◌≡◌, ◌⊎◌, inl, inr, ℕ, ◌/◌, ◌%◌, ◌≤◌, Bool, true, false, Some, List, [], ◌∷◌, ◌++◌, reverse, ap, sym, subst, ◌∙◌, arith}
use Rattle.std.specs.List.{AllByRecursion}
use Rattle.bus_model.specs.declared.device.Dev.TheVariants.{A0}
use Rattle.bus_model.specs.declared.operation.Op.{Op}
use Rattle.bus_model.specs.declared.operation.Op.TheVariants.{Fetch, Store}
use Rattle.bus_model.specs.declared.operation.Step.{Step}
use Rattle.bus_model.specs.declared.script.Directive.{Directive}
use Rattle.bus_model.specs.Keeping.{IsKeptBy, IsKeptInTime}
use Rattle.bus_model.specs.Operations.{fetch_step, store_step}
use Rattle.bus_model.specs.Runs.{Ran, Seen}
use Rattle.bus_model.specs.ScriptedBus.{script_rules, settled}
use Rattle.bus_model.proofs.ScriptRuns.{all_allow, fetched_at, step_keeps, stored_at}
use Rattle.field_tables.specs.declared.field.Register.TheVariants as registers
use Rattle.field_tables.specs.Registers.{byte_count, first_byte}
use Rattle.sim_module.specs.declared.module.SimModule.{SimModule}
use Rattle.sim_module.specs.Lanes.{active_bytes}
use Rattle.sim_module.specs.ActiveSets.{HasNoApply, IsAtRest}
use Rattle.sim_module.specs.Modules.{conduct}
use Rattle.sim_module.specs.Stores.{stored}
use Rattle.sim_module.specs.Soundness.{IsSound}
use Rattle.field_tables.specs.LaneSets.{Lanes, byte_of}
use Rattle.control_sets.specs.OutcomeCodes.{IsOf}
use Rattle.control_sets.specs.OutcomeOfProvisioning.{IsProvisioningStep}
use Rattle.control_sets.specs.OutcomeOperations.{Confirms, CoversSelection, apply, set_deinit}
use Rattle.control_sets.specs.OutcomeSteps.{IsAccepted, Stands}
use Rattle.control_sets.specs.Pages.{EachStep}
use Rattle.bus_model.proofs.Histories.{AnyPin, MayEach, after, after_append, after_reverse, found_keeps, may_each, may_older, steps_keep}
use Rattle.sim_module.proofs.SoundModule.{sound_always}
use Rattle.sim_module.proofs.SoundRuns.{sound_by_each}
use Rattle.sim_module.proofs.HeldLanes.{HoldsOnly, held_begins, held_from_start, held_kept, held_survives}
use Rattle.sim_module.proofs.ProvisioningKeeps.{SurvivesChanges, by_step}
use Rattle.sim_module.proofs.IdleModule.{MapsNoControls, IsIdle, Shows, idle_by, idle_fetched, idle_kept, shows_by, shows_fetched, shows_kept}
use Rattle.sim_module.proofs.ReadBytes.{SaySuccess, confirmed, idle_after_success, read_active}

-- a fetch on device A0 that read these bytes
abbrev pub read : ℕ → ℕ → List ℕ → Step
read offset count bytes = fetch_step A0 offset count (Some (record { items = bytes }))

-- the last step reads the control bytes from the Active Control Set; before that the statuses of the lanes were read as
-- ConfigSuccess, both on a confirmed page 11h, and in between page 10h was not selected; and before that an apply to the lanes
-- was accepted, and a store of their DPDeinit bits
pub record EndsApplied (control : List ℕ) (lanes : Lanes) (steps : List Step) : Type 0 where
  pub between : List Step
  pub statuses : List ℕ
  pub before : List Step
  pub split : steps ≡ read (first_byte registers.ActiveControl) (byte_count registers.ActiveControl) control ∷ (between ++ read (first_byte registers.ConfigStatus) (byte_count registers.ConfigStatus) statuses ∷ before)
  pub success : SaySuccess lanes statuses
  pub shown : Confirms 0x11 before
  pub still_shown : Confirms 0x11 (between ++ read (first_byte registers.ConfigStatus) (byte_count registers.ConfigStatus) statuses ∷ before)
  pub no_controls : AllByRecursion (λ step. MapsNoControls step.op) between
  pub shape : EachStep (IsProvisioningStep control lanes) before
  pub applied : Stands (IsAccepted (apply (byte_of lanes))) before
  pub taken : Stands (IsAccepted (set_deinit (byte_of lanes))) before

-- some lane is applied, or no apply is in progress
abbrev pub LeavesNone : Lanes → SimModule → Type 0
LeavesNone lanes sim = ((lane : ℕ) × IsOf lanes lane) ⊎ HasNoApply sim

each_step : (P Q : Step → Type 0) → ((step : Step) → P step → Q step) → (steps : List Step) → AllByRecursion P steps → AllByRecursion Q steps
each_step P Q so [] all = tt
each_step P Q so (step ∷ steps) all = (so step all.0, each_step P Q so steps all.1)

-- a bus with a script and a module
abbrev pub State : Type 0
State = List Directive × SimModule

abbrev pub left : State → List Step → State
left = after (script_rules conduct)

abbrev May : State → List Step → Type 0
May = MayEach (script_rules conduct)

-- the module as a transaction finds it
abbrev found : State → SimModule
found state = (settled conduct state.0 state.1).1

sound_after : (state : State) (steps : List Step) → IsSound state.1 → IsSound (left state steps).1
sound_after state steps sound =
    steps_keep conduct IsSound sound_always.time steps (sound_by_each steps) state sound

-- the page that the steps confirm is mapped after them
shows_after : (number : ℕ) (state : State) (steps : List Step) → Confirms number steps → May state steps → Shows number (left state steps).1
shows_after number state steps confirms may =
    let step = read 126 2 (number / 256 ∷ number % 256 ∷ []) in
    let since = confirms.since in
    let before = confirms.before in
    let there = left state before in
    let here : May state (step ∷ before) = may_older (script_rules conduct) state since (step ∷ before) (subst (May state) confirms.split may) in
    let answer = fetched_at conduct A0 126 2 (record { items = number / 256 ∷ number % 256 ∷ [] }) there here.0 in
    let shows : Shows number (found there) = confirmed (found there) number answer.answer in
    let next : Shows number (left state (step ∷ before)).1 = subst (Shows number) (sym answer.left) ((shows_kept number).tick _ (shows_fetched number (found there) A0 126 2 shows)) in
    let last : Shows number (left (left state (step ∷ before)) since).1 =
    steps_keep conduct (Shows number) (shows_kept number) since (each_step (λ s. ¬ (CoversSelection s.op)) (λ s. IsKeptBy conduct (Shows number) s.op) (λ s. shows_by number s.op) since confirms.kept) (left state (step ∷ before)) next in
    subst (λ (ss : List Step). Shows number (left state ss).1) (sym confirms.split)
    (subst (λ (s : State). Shows number s.1) (sym (after_append (script_rules conduct) state since (step ∷ before))) last)

abbrev pub offset_of : Op → ℕ
offset_of (Fetch dev offset count) = offset
offset_of (Store dev offset bytes) = offset

abbrev stores : Op → Bool
stores (Fetch dev offset count) = false
stores (Store dev offset bytes) = true

-- a byte of upper memory is stored on page 10h
stored_on : (control : List ℕ) (lanes : Lanes) (offset byte : ℕ) (step : Step) (before : List Step) → 128 ≤ offset → step.op ≡ Store A0 offset (record { items = byte ∷ [] }) → IsProvisioningStep control lanes step before → Confirms 0x10 before
stored_on control lanes offset byte step before high is (inl (inl other)) = let far : offset ≡ 3 = ap offset_of (sym is ∙ other) in absurd (omega (arith, far, high))
stored_on control lanes offset byte step before high is (inl (inr (inl other))) = let far : offset ≡ 126 = ap offset_of (sym is ∙ other) in absurd (omega (arith, far, high))
stored_on control lanes offset byte step before high is (inl (inr (inr (inl other)))) = let far : offset ≡ 126 = ap offset_of (sym is ∙ other) in absurd (omega (arith, far, high))
stored_on control lanes offset byte step before high is (inl (inr (inr (inr (inl other))))) = let far : offset ≡ 126 = ap offset_of (sym is ∙ other) in absurd (omega (arith, far, high))
stored_on control lanes offset byte step before high is (inl (inr (inr (inr (inr none))))) = absurd none
stored_on control lanes offset byte step before high is (inr (inl (inl other, confirmed))) = let far : true ≡ false = ap stores (sym is ∙ other) in cc
stored_on control lanes offset byte step before high is (inr (inl (inr (inl other), confirmed))) = let far : true ≡ false = ap stores (sym is ∙ other) in cc
stored_on control lanes offset byte step before high is (inr (inl (inr (inr (inl other)), confirmed))) = let far : true ≡ false = ap stores (sym is ∙ other) in cc
stored_on control lanes offset byte step before high is (inr (inl (inr (inr (inr none)), confirmed))) = absurd none
stored_on control lanes offset byte step before high is (inr (inr controls)) = controls.1

-- what an accepted store on page 10h begins, and time and provisioning keep, holds from then on
module _ (control : List ℕ) (lanes : Lanes) (P : SimModule → Type 0) (time : IsKeptInTime conduct AnyPin P) (survives : SurvivesChanges P (byte_of lanes)) (offset byte : ℕ) (high : 128 ≤ offset)
    (begins : (sim : SimModule) → Shows 0x10 sim → (stored sim A0 offset (byte ∷ [])).0 ≡ true → P (stored sim A0 offset (byte ∷ [])).1) where
  pub after_accepted : (state : State) (steps : List Step) → EachStep (IsProvisioningStep control lanes) steps → May state steps → Stands (IsAccepted (Store A0 offset (record { items = byte ∷ [] }))) steps →
      P (left state steps).1
  after_accepted state [] shape may stands = absurd stands
  after_accepted state (step ∷ before) shape may (inl accepted) =
      let there = left state before in
      let made : Step = store_step A0 offset (byte ∷ []) true in
      let is : step ≡ made = λ i. record { op = accepted.0 i; reply = accepted.1 i } in
      let answer = stored_at conduct A0 offset (byte ∷ []) there (subst ((script_rules conduct).may there) is may.0) in
      let shows : Shows 0x10 (found there) =
      found_keeps conduct (Shows 0x10) (shows_kept 0x10) there (shows_after 0x10 state before (stored_on control lanes offset byte step before high accepted.0 shape.0) may.1) in
      let begun = time.tick _ (begins (found there) shows answer.answer) in
      subst (λ (s : Step). P ((script_rules conduct).after there s).1) (sym is) (subst P (sym answer.left) begun)
  after_accepted state (step ∷ before) shape may (inr stands) =
      step_keeps conduct AnyPin P time step.op (by_step control lanes P survives step before shape.0) (left state before)
      (all_allow (left state before).0) (after_accepted state before shape.1 may.1 stands)

held_after : (control : List ℕ) (lanes : Lanes) (lane : ℕ) (state : State) (steps : List Step) → IsOf lanes lane → EachStep (IsProvisioningStep control lanes) steps → May state steps →
    Stands (IsAccepted (apply (byte_of lanes))) steps → HoldsOnly lanes (left state steps).1
held_after control lanes lane state steps of_lanes =
    after_accepted control lanes (HoldsOnly lanes) (held_kept lanes) (held_survives lanes) (first_byte registers.ApplyDPInit) (byte_of lanes) (omega arith) (λ sim. held_begins lanes sim lane of_lanes) state steps

-- so it holds no other lanes
held_before : (control : List ℕ) (lanes : Lanes) (state : State) (steps : List Step) → LeavesNone lanes state.1 → EachStep (IsProvisioningStep control lanes) steps → May state steps →
    Stands (IsAccepted (apply (byte_of lanes))) steps → HoldsOnly lanes (left state steps).1
held_before control lanes state steps (inl (lane, of_lanes)) shape may stands = held_after control lanes lane state steps of_lanes shape may stands
held_before control lanes state steps (inr none) shape may stands = held_from_start lanes control state steps shape none

active_after : (state : State) (steps : List Step) (control : List ℕ) (lanes : Lanes) → IsSound state.1 → LeavesNone lanes state.1 → May state steps → EndsApplied control lanes steps →
    IsAtRest control (left state steps).1
active_after state steps control lanes sound leaves may ends =
    let last = read (first_byte registers.ActiveControl) (byte_count registers.ActiveControl) control in
    let statuses = read (first_byte registers.ConfigStatus) (byte_count registers.ConfigStatus) ends.statuses in
    let older = ends.between ++ statuses ∷ ends.before in
    let whole : May state (last ∷ older) = subst (May state) ends.split may in
    let first : May state (statuses ∷ ends.before) = may_older (script_rules conduct) state ends.between (statuses ∷ ends.before) whole.1 in
    let there = left state ends.before in
    let answer = fetched_at conduct A0 (first_byte registers.ConfigStatus) (byte_count registers.ConfigStatus) (record { items = ends.statuses }) there first.0 in
    let shows : Shows 0x11 (found there) = found_keeps conduct (Shows 0x11) (shows_kept 0x11) there (shows_after 0x11 state ends.before ends.shown first.1) in
    let still : IsSound (found there) = found_keeps conduct IsSound sound_always.time there (sound_after state ends.before sound) in
    let active = active_bytes (found there) in
    let held : HoldsOnly lanes (found there) = found_keeps conduct (HoldsOnly lanes) (held_kept lanes) there (held_before control lanes state ends.before leaves ends.shape first.1 ends.applied) in
    let idle : IsIdle active (found there) = idle_after_success (found there) lanes ends.statuses still shows held answer.answer ends.success in
    let idle_next : IsIdle active (left state (statuses ∷ ends.before)).1 = subst (IsIdle active) (sym answer.left) ((idle_kept active).tick _ (idle_fetched active (found there) A0 (first_byte registers.ConfigStatus) (byte_count registers.ConfigStatus) idle)) in
    let idle_on : IsIdle active (left (left state (statuses ∷ ends.before)) ends.between).1 =
    steps_keep conduct (IsIdle active) (idle_kept active) ends.between
    (each_step (λ s. MapsNoControls s.op) (λ s. IsKeptBy conduct (IsIdle active) s.op) (λ s. idle_by active s.op) ends.between ends.no_controls) (left state (statuses ∷ ends.before)) idle_next in
    let idle_last : IsIdle active (left state older).1 = subst (λ (s : State). IsIdle active s.1) (sym (after_append (script_rules conduct) state ends.between (statuses ∷ ends.before))) idle_on in
    let idle_found : IsIdle active (found (left state older)) = found_keeps conduct (IsIdle active) (idle_kept active) (left state older) idle_last in
    let shows_last : Shows 0x11 (found (left state older)) = found_keeps conduct (Shows 0x11) (shows_kept 0x11) (left state older) (shows_after 0x11 state older ends.still_shown whole.1) in
    let answer_last = fetched_at conduct A0 (first_byte registers.ActiveControl) (byte_count registers.ActiveControl) (record { items = control }) (left state older) whole.0 in
    let is_control : active_bytes (found (left state older)) ≡ control = read_active (found (left state older)) control shows_last idle_found.rest.eight answer_last.answer in
    let end : IsIdle active (left state (last ∷ older)).1 = subst (IsIdle active) (sym answer_last.left) ((idle_kept active).tick _ (idle_fetched active (found (left state older)) A0 (first_byte registers.ActiveControl) (byte_count registers.ActiveControl) idle_found)) in
    let rest : IsAtRest control (left state (last ∷ older)).1 = subst (λ (bytes : List ℕ). IsAtRest bytes (left state (last ∷ older)).1) (sym idle_found.rest.active ∙ is_control) end.rest in
    subst (λ (ss : List Step). IsAtRest control (left state ss).1) (sym ends.split) rest

pub active_is_read : (old new : Seen State) (steps : List Step) (control : List ℕ) (lanes : Lanes) → IsSound old.state.1 → LeavesNone lanes old.state.1 → Ran (script_rules conduct) old new (reverse steps) →
    EndsApplied control lanes steps → IsAtRest control new.state.1
active_is_read old new steps control lanes sound leaves ran ends =
    subst (λ (s : State). IsAtRest control s.1) (sym (ran.state ∙ after_reverse (script_rules conduct) old.state steps))
    (active_after old.state steps control lanes sound leaves (may_each (script_rules conduct) old.state steps ran.allowed) ends)
