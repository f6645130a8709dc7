-- Where a module stands in each task while a plan of its own is provisioned, and that it stays there while its states are waited for.
use Rattle.std.proofs.Common.{◌≡◌, ◌⊎◌, inl, inr, ℕ, zero, suc, ◌-◌, Bool, true, false, List, Option, Some, None, length, map, refl, sym, ap, subst, ◌∙◌, if◌then◌else◌}
use Rattle.std.specs.FinSet as set
use Rattle.std.proofs.lemmas.List.{length-map}
use Rattle.bus_model.specs.declared.operation.Op.{Op}
use Rattle.bus_model.specs.declared.operation.Op.TheVariants.{Fetch, Store}
use Rattle.bus_model.specs.ScriptedBus.{passed_on}
use Rattle.field_tables.specs.LaneSets.{IsLane, Lanes}
use Rattle.paged_memory.specs.Images.{Memory}
use Rattle.datapath_states.specs.declared.state.PathState.{PathState}
use Rattle.datapath_states.specs.declared.status.ConfigStatus.TheVariants.{InProgress}
use Rattle.control_sets.specs.Judgements.{at_lane}
use Rattle.sim_module.specs.declared.delays.Delays.{Delays}
use Rattle.sim_module.specs.declared.fixed.Fixed.{Fixed}
use Rattle.sim_module.specs.declared.lane.Lane.{Lane}
use Rattle.sim_module.specs.declared.module.SimModule.{SimModule}
use Rattle.sim_module.specs.Lanes.{active_bytes, lane_at, staged_bytes}
use Rattle.sim_module.specs.Modules.{conduct}
use Rattle.sim_module.specs.OwnAdverts.{own_advert}
use Rattle.sim_module.specs.Record.{fixed_of}
use Rattle.sim_module.specs.Ticks.{applied_by, applied_lane, is_last, moved_lane, next_path_state, ticked}
use Rattle.sim_module.proofs.LanesInTime.{settled_lane, ticked_at}
use Rattle.sim_module.proofs.RestingModule.{rest_tick}
use Rattle.sim_module.proofs.UnchangingParts.{events_leave_fixed}
use Rattle.sim_liveness.specs.Timing.{CountersRun, IsApplied}
use Rattle.sim_liveness.proofs.AppliedInTime.{lane_is}
use Rattle.sim_liveness.proofs.InTime.{kept_deinit, same_lane}
use Rattle.sim_liveness.proofs.LeftAlone.{LeavesIt}
use Rattle.managed_module.specs.Bounds.{IsSteady}
use Rattle.managed_module.proofs.OwnTasks.{module_after}
use Rattle.managed_module.proofs.ProcedureSteps.{IsHarmless, harmless_leaves}
use Rattle.managed_module.proofs.Procedures.{AreApplied, GoDown, IsAwake, applied_left, applied_tick, awake_left, awake_tick, down_left, down_tick}
use Rattle.managed_module.proofs.StagedBytes.{lane_is_of, lanes_are}
use Rattle.managed_module.proofs.SteadyModules.{counters_passed, eight_tick, leaves_all, steady_left, steady_tick}

-- ---- what no event changes

pub fixed_passed : (op : Op) (sim : SimModule) → fixed_of (passed_on conduct op sim).1 ≡ fixed_of sim
fixed_passed (Fetch dev address count) sim = events_leave_fixed.fetch sim dev address count
fixed_passed (Store dev address bytes) sim = events_leave_fixed.store sim dev address bytes.items

-- the memory is this, and the module goes by what it advertises
pub record HasMemory (memory : Memory) (sim : SimModule) : Type 0 where
  pub image : sim.image ≡ memory
  pub own : sim.advert ≡ own_advert memory

pub memory_as : (memory : Memory) (sim after : SimModule) → fixed_of after ≡ fixed_of sim → HasMemory memory sim → HasMemory memory after
memory_as memory sim after same has = record { image = ap (λ (f : Fixed). f.image) same ∙ has.image; own = ap (λ (f : Fixed). f.advert) same ∙ has.own }

-- ---- a module at rest

-- it is ready, no apply is in progress, and these bytes are active
pub record Rests (most : ℕ) (image : Memory) (bytes : List ℕ) (sim : SimModule) : Type 0 where
  pub steady : IsSteady most sim
  pub awake : IsAwake sim
  pub memory : HasMemory image sim
  pub active : active_bytes sim ≡ bytes

-- the bits of these lanes are set
abbrev pub HoldsDown : Lanes → SimModule → Type 0
HoldsDown lanes sim = (lane : ℕ) → IsLane lane → set.contains lanes lane ≡ true → set.contains sim.deinit lane ≡ true

-- they are deactivated, and stay so
pub record IsDown (most : ℕ) (memory : Memory) (active : List ℕ) (lanes : Lanes) (sim : SimModule) : Type 0 where
  pub rests : Rests most memory active sim
  pub down : GoDown lanes 0 sim

module _ (most : ℕ) (memory : Memory) (active : List ℕ) where
  pub rests_tick : (sim : SimModule) → Rests most memory active sim → Rests most memory active (ticked sim)
  rests_tick sim rests = record {
    steady = steady_tick most sim rests.steady;
    awake = awake_tick most sim rests.awake;
    memory = memory_as memory sim (ticked sim) (events_leave_fixed.tick sim) rests.memory;
    active = (rest_tick active sim (record { eight = rests.steady.eight; none = rests.steady.none; active = rests.active })).active;
  }

  pub rests_left : (sim after : SimModule) → LeavesIt sim after → fixed_of after ≡ fixed_of sim → CountersRun most after → Rests most memory active sim → Rests most memory active after
  rests_left sim after same fixed run rests = record {
    steady = steady_left most sim after (leaves_all sim after same) run rests.steady;
    awake = awake_left most sim after same rests.awake;
    memory = memory_as memory sim after fixed rests.memory;
    active = ap (λ (lanes : List Lane). map (λ (lane : Lane). lane.active) lanes) same.lanes ∙ rests.active;
  }

  pub down_ticks : (lanes : Lanes) (sim : SimModule) → IsDown most memory active lanes sim → IsDown most memory active lanes (ticked sim)
  down_ticks lanes sim is = record { rests = rests_tick sim is.rests; down = down_tick most lanes 0 sim is.rests.steady.counters is.down }

  down_leaves : (lanes : Lanes) (sim after : SimModule) → LeavesIt sim after → fixed_of after ≡ fixed_of sim → CountersRun most after → IsDown most memory active lanes sim → IsDown most memory active lanes after
  down_leaves lanes sim after same fixed run is = record { rests = rests_left sim after same fixed run is.rests; down = down_left lanes 0 sim after same is.down }

  -- what is staged stays
  pub staged_tick : (sim : SimModule) → Rests most memory active sim → staged_bytes (ticked sim) ≡ staged_bytes sim
  staged_tick sim rests =
      let staged = λ (lane : Lane). lane.staged in
      let eight = rests.steady.eight in
      lanes_are staged (ticked sim) (staged_bytes sim) (eight_tick sim) (lanes_listed sim eight)
      (λ lane within. ap staged (ticked_at sim lane within ∙ settled_lane sim lane (rests.steady.none lane within)) ∙ lane_is_of staged sim (staged_bytes sim) lane eight refl within) where
        lanes_listed : (sim : SimModule) → length sim.lanes ≡ 8 → length (staged_bytes sim) ≡ 8
        lanes_listed sim eight = length-map sim.lanes (λ (l : Lane). l.staged) ∙ eight

-- ---- an apply in progress

-- a lane of the apply has the byte, or will; another one has it
abbrev pub Becomes : Bool → Lane → ℕ → Type 0
Becomes true lane byte = ((lane.applying ≡ Some byte) × (lane.status ≡ InProgress)) ⊎ IsApplied lane byte
Becomes false lane byte = (lane.active ≡ byte) × (lane.applying ≡ None)

-- once the apply on these lanes is done, these control bytes are active
pub record Applies (most : ℕ) (image : Memory) (control : List ℕ) (lanes : Lanes) (sim : SimModule) : Type 0 where
  pub ticks : ℕ
  pub are : AreApplied most lanes ticks sim
  pub awake : IsAwake sim
  pub memory : HasMemory image sim
  pub each : (lane : ℕ) → IsLane lane → Becomes (set.contains lanes lane) (lane_at sim lane) (at_lane control lane)

becomes_by : (inside done : Bool) (delays : Delays) (lane : Lane) (path : PathState) (byte : ℕ) → Becomes inside lane byte → Becomes inside (if done then applied_lane (moved_lane delays lane path) else moved_lane delays lane path) byte
becomes_by true false delays lane path byte (inl pending) = inl pending
becomes_by true false delays lane path byte (inr is) = inr (record { active = is.active; status = is.status; applying = is.applying })
becomes_by true true delays lane path byte (inl (kept, status)) =
    inr (subst (λ (kept : Option ℕ). IsApplied (applied_by kept (moved_lane delays lane path)) byte) (sym kept) (record { active = refl; status = refl; applying = refl }))
becomes_by true true delays lane path byte (inr is) =
    inr (subst (λ (kept : Option ℕ). IsApplied (applied_by kept (moved_lane delays lane path)) byte) (sym is.applying) (record { active = is.active; status = is.status; applying = is.applying }))
becomes_by false false delays lane path byte same = same
becomes_by false true delays lane path byte (active, none) =
    subst (λ (kept : Option ℕ). ((applied_by kept (moved_lane delays lane path)).active ≡ byte) × ((applied_by kept (moved_lane delays lane path)).applying ≡ None)) (sym none) (active, none)

module _ (most : ℕ) (memory : Memory) (control : List ℕ) (lanes : Lanes) where
  pub applies_tick : (sim : SimModule) → Applies most memory control lanes sim → Applies most memory control lanes (ticked sim)
  applies_tick sim applies = record {
    ticks = applies.ticks - 1;
    are = applied_tick most lanes applies.ticks sim applies.are;
    awake = awake_tick most sim applies.awake;
    memory = memory_as memory sim (ticked sim) (events_leave_fixed.tick sim) applies.memory;
    each = λ lane within.
        subst (λ (l : Lane). Becomes (set.contains lanes lane) l (at_lane control lane)) (sym (lane_is sim lane (is_last sim.apply_left) within refl))
        (becomes_by (set.contains lanes lane) (is_last sim.apply_left) sim.delays (lane_at sim lane) (next_path_state sim lane) (at_lane control lane) (applies.each lane within));
  }

  applies_left : (sim after : SimModule) → LeavesIt sim after → fixed_of after ≡ fixed_of sim → CountersRun most after → Applies most memory control lanes sim → Applies most memory control lanes after
  applies_left sim after same fixed run applies = record {
    ticks = applies.ticks;
    are = applied_left most lanes applies.ticks sim after same run applies.are;
    awake = awake_left most sim after same applies.awake;
    memory = memory_as memory sim after fixed applies.memory;
    each = λ lane within. subst (λ (l : Lane). Becomes (set.contains lanes lane) l (at_lane control lane)) (sym (same_lane sim after lane same)) (applies.each lane within);
  }

-- ---- the task in hand

module _ (most : ℕ) (memory : Memory) (control active : List ℕ) (lanes : Lanes) where
  abbrev IsStaged : SimModule → Type 0
  IsStaged sim = IsDown most memory active lanes sim × (staged_bytes sim ≡ control)

  -- of provisioning
  abbrev pub Provisions : ℕ → SimModule → Type 0
  Provisions zero sim = Rests most memory active sim
  Provisions (suc zero) sim = Rests most memory active sim
  Provisions (suc (suc zero)) sim = Rests most memory active sim × HoldsDown lanes sim
  Provisions (suc (suc (suc zero))) sim = IsDown most memory active lanes sim
  Provisions (suc (suc (suc (suc zero)))) sim = IsStaged sim
  Provisions (suc (suc (suc (suc (suc zero))))) sim = IsStaged sim
  Provisions (suc (suc (suc (suc (suc (suc zero)))))) sim = Applies most memory control lanes sim
  Provisions (suc (suc (suc (suc (suc (suc (suc met))))))) sim = Rests most memory control sim

  -- of activation, which takes down the other lanes and waits at last
  abbrev pub Activates : ℕ → SimModule → Type 0
  Activates zero sim = Rests most memory control sim
  Activates (suc zero) sim = Rests most memory control sim
  Activates (suc (suc zero)) sim = Rests most memory control sim
  Activates (suc (suc (suc met))) sim = Unit {0}

  staged_ticks : (sim : SimModule) → IsStaged sim → IsStaged (ticked sim)
  staged_ticks sim (is, staged) = (down_ticks most memory active lanes sim is, staged_tick most memory active sim is.rests ∙ staged)

  pub provisions_tick : (met : ℕ) (sim : SimModule) → Provisions met sim → Provisions met (ticked sim)
  provisions_tick zero sim at = rests_tick most memory active sim at
  provisions_tick (suc zero) sim at = rests_tick most memory active sim at
  provisions_tick (suc (suc zero)) sim (rests, bits) = (rests_tick most memory active sim rests, λ lane within inside. ap (λ (deinit : Lanes). set.contains deinit lane) (kept_deinit sim) ∙ bits lane within inside)
  provisions_tick (suc (suc (suc zero))) sim at = down_ticks most memory active lanes sim at
  provisions_tick (suc (suc (suc (suc zero)))) sim at = staged_ticks sim at
  provisions_tick (suc (suc (suc (suc (suc zero))))) sim at = staged_ticks sim at
  provisions_tick (suc (suc (suc (suc (suc (suc zero)))))) sim at = applies_tick most memory control lanes sim at
  provisions_tick (suc (suc (suc (suc (suc (suc (suc met))))))) sim at = rests_tick most memory control sim at

  pub activates_tick : (met : ℕ) (sim : SimModule) → Activates met sim → Activates met (ticked sim)
  activates_tick zero sim at = rests_tick most memory control sim at
  activates_tick (suc zero) sim at = rests_tick most memory control sim at
  activates_tick (suc (suc zero)) sim at = rests_tick most memory control sim at
  activates_tick (suc (suc (suc met))) sim at = tt

  module _ (sim after : SimModule) (same : LeavesIt sim after) (fixed : fixed_of after ≡ fixed_of sim) (run : CountersRun most sim → CountersRun most after) where
    staged_leaves : IsStaged sim → IsStaged after
    staged_leaves (is, staged) =
        (down_leaves most memory active lanes sim after same fixed (run is.rests.steady.counters) is, ap (λ (lanes : List Lane). map (λ (lane : Lane). lane.staged) lanes) same.lanes ∙ staged)

    rests_leaves : (bytes : List ℕ) → Rests most memory bytes sim → Rests most memory bytes after
    rests_leaves bytes rests = rests_left most memory bytes sim after same fixed (run rests.steady.counters) rests

    provisions_left : (met : ℕ) → Provisions met sim → Provisions met after
    provisions_left zero at = rests_leaves active at
    provisions_left (suc zero) at = rests_leaves active at
    provisions_left (suc (suc zero)) (rests, bits) = (rests_leaves active rests, λ lane within inside. ap (λ (deinit : Lanes). set.contains deinit lane) same.deinit ∙ bits lane within inside)
    provisions_left (suc (suc (suc zero))) at = down_leaves most memory active lanes sim after same fixed (run at.rests.steady.counters) at
    provisions_left (suc (suc (suc (suc zero)))) at = staged_leaves at
    provisions_left (suc (suc (suc (suc (suc zero))))) at = staged_leaves at
    provisions_left (suc (suc (suc (suc (suc (suc zero)))))) at = applies_left most memory control lanes sim after same fixed (run at.are.counters) at
    provisions_left (suc (suc (suc (suc (suc (suc (suc met))))))) at = rests_leaves control at

    activates_left : (met : ℕ) → Activates met sim → Activates met after
    activates_left zero at = rests_leaves control at
    activates_left (suc zero) at = rests_leaves control at
    activates_left (suc (suc zero)) at = rests_leaves control at
    activates_left (suc (suc (suc met))) at = tt

  -- a fetch, or a selection of a page, with the tick that it takes
  module _ (op : Op) (sim : SimModule) (harmless : IsHarmless op) where
    abbrev mid : SimModule
    mid = (passed_on conduct op sim).1

    pub provisions_harmless : (met : ℕ) → Provisions met sim → Provisions met (module_after sim op)
    provisions_harmless met at = provisions_tick met mid (provisions_left sim mid (harmless_leaves op sim harmless) (fixed_passed op sim) (counters_passed most op sim) met at)

    pub activates_harmless : (met : ℕ) → Activates met sim → Activates met (module_after sim op)
    activates_harmless met at = activates_tick met mid (activates_left sim mid (harmless_leaves op sim harmless) (fixed_passed op sim) (counters_passed most op sim) met at)
