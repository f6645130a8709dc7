-- What holds of a simulated module while each task of provisioning and of activation is in hand, and for how many reads it can be awaited.
use Rattle.std.proofs.Common.{◌≡◌, ◌⊎◌, inl, inr, ℕ, zero, suc, ◌+◌, ◌≤◌, ◌&&◌, ◌==◌, Bool, true, false, List, Option, Some, None, length, map, is_some, IsTrue, nat_le, ◌-◌, if◌then◌else◌, refl, sym, ap, subst, ◌∙◌, arith}
use Rattle.std.specs.FinSet as set
use Rattle.field_tables.specs.LaneSets.{IsLane, Lanes}
use Rattle.module_states.specs.declared.state.ModuleState.TheVariants.{Ready}
use Rattle.datapath_states.specs.declared.status.ConfigStatus.{ConfigStatus}
use Rattle.datapath_states.specs.StatusCodes.{status_code_of}
use Rattle.control_sets.specs.declared.fault.ProvisionFault.{ProvisionFault}
use Rattle.control_sets.specs.declared.procedures.judgement.ReplyJudgement.{ReplyJudgement}
use Rattle.control_sets.specs.declared.procedures.judgement.ReplyJudgement.TheVariants.{Met, NotYet, Fails}
use Rattle.sim_module.specs.declared.delays.Delays.{Delays}
use Rattle.sim_module.specs.declared.lane.Lane.{Lane}
use Rattle.sim_module.specs.declared.module.SimModule.{SimModule}
use Rattle.sim_module.specs.Down.{has_low_power}
use Rattle.sim_module.specs.Lanes.{active_bytes, is_in_progress, lane_at}
use Rattle.sim_module.specs.Ticks.{applied_by, is_last, ticked}
use Rattle.sim_liveness.specs.Released.{IsInUse, IsReleased}
use Rattle.sim_liveness.specs.Timing.{CountersRun, until_down, until_up}
use Rattle.sim_liveness.proofs.AppliedInTime.{kept_count, lane_is, moved, ticked_by}
use Rattle.sim_liveness.proofs.InTime.{kept_deinit, kept_delays, lane_down, lane_up, power_is, same_lane, state_is}
use Rattle.sim_liveness.proofs.LeftAlone.{LeavesIt, power_kept}
use Rattle.sim_liveness.proofs.ReleasedLanes.{next_ready, not_down, released_left, released_tick}
use Rattle.sim_module.proofs.RestingModule.{rest_tick}
use Rattle.managed_module.specs.Bounds.{IsAsleep, IsSteady, until_activated, until_applied, until_deactivated}
use Rattle.managed_module.proofs.SteadyModules.{counters_tick, eight_tick, leaves_all, power_tick, steady_left, steady_tick}

-- ---- lanes that go down

-- the bits of these lanes are set, and each is deactivated within so many ticks
pub record GoDown (lanes : Lanes) (ticks : ℕ) (sim : SimModule) : Type 0 where
  pub bits : (lane : ℕ) → IsLane lane → set.contains lanes lane ≡ true → set.contains sim.deinit lane ≡ true
  pub near : (lane : ℕ) → IsLane lane → set.contains lanes lane ≡ true → until_down sim.delays (lane_at sim lane).path (lane_at sim lane).ticks_left ≤ ticks

pub down_tick : (most : ℕ) (lanes : Lanes) (ticks : ℕ) (sim : SimModule) → CountersRun most sim → GoDown lanes ticks sim → GoDown lanes (ticks - 1) (ticked sim)
down_tick most lanes ticks sim run down = record {
  bits = λ lane within inside. ap (λ (deinit : Lanes). set.contains deinit lane) (kept_deinit sim) ∙ down.bits lane within inside;
  near = λ lane within inside.
      let nearer = (lane_down most sim lane within run.time (down.bits lane within inside) (run.lanes lane within)).1 in
      subst (λ (d : Delays). until_down d (lane_at (ticked sim) lane).path (lane_at (ticked sim) lane).ticks_left ≤ ticks - 1) (sym (kept_delays sim)) (omega (arith, nearer, down.near lane within inside));
}

pub down_left : (lanes : Lanes) (ticks : ℕ) (sim after : SimModule) → LeavesIt sim after → GoDown lanes ticks sim → GoDown lanes ticks after
down_left lanes ticks sim after same down = record {
  bits = λ lane within inside. ap (λ (deinit : Lanes). set.contains deinit lane) same.deinit ∙ down.bits lane within inside;
  near = λ lane within inside.
      subst (λ (d : Delays). until_down d (lane_at after lane).path (lane_at after lane).ticks_left ≤ ticks) (sym same.delays)
      (subst (λ (l : Lane). until_down sim.delays l.path l.ticks_left ≤ ticks) (sym (same_lane sim after lane same)) (down.near lane within inside));
}

-- ---- lanes that are applied

-- ConfigSuccess, or a rejection
abbrev pub is_decided : ConfigStatus → Bool
is_decided status = nat_le 1 (status_code_of status) && nat_le (status_code_of status) 7

-- an apply of the lane is done within so many ticks, or has ended
abbrev pub Decides : ℕ → ℕ → Lane → Type 0
Decides left ticks lane = ((is_in_progress lane ≡ true) × (left ≤ ticks)) ⊎ ((is_in_progress lane ≡ false) × (lane.applying ≡ None) × (is_decided lane.status ≡ true))

-- no apply is in progress but of these lanes
pub record AreApplied (most : ℕ) (lanes : Lanes) (ticks : ℕ) (sim : SimModule) : Type 0 where
  pub eight : length sim.lanes ≡ 8
  pub counters : CountersRun most sim
  pub power : has_low_power sim ≡ true → IsAsleep sim.state
  pub none : (lane : ℕ) → IsLane lane → set.contains lanes lane ≡ false → (lane_at sim lane).applying ≡ None
  pub quiet : (lane : ℕ) → IsLane lane → set.contains lanes lane ≡ false → is_in_progress (lane_at sim lane) ≡ false
  pub each : (lane : ℕ) → IsLane lane → set.contains lanes lane ≡ true → Decides sim.apply_left ticks (lane_at sim lane)

-- what a tick makes of a lane of which no apply is in progress
still : (lane : Lane) (done : Bool) → lane.applying ≡ None → ((if done then applied_by lane.applying lane else lane).applying ≡ None) × ((if done then applied_by lane.applying lane else lane).status ≡ lane.status)
still lane true none = subst (λ (kept : Option ℕ). ((applied_by kept lane).applying ≡ None) × ((applied_by kept lane).status ≡ lane.status)) (sym none) (none, refl)
still lane false none = (none, refl)

still_by : (sim : SimModule) (lane : ℕ) (done : Bool) → (lane_at sim lane).applying ≡ None → ((ticked_by sim lane done).applying ≡ None) × ((ticked_by sim lane done).status ≡ (lane_at sim lane).status)
still_by sim lane done none = still (moved sim lane) done none

-- and of one that is applied
ends_by : (sim : SimModule) (lane ticks : ℕ) (done : Bool) → is_last sim.apply_left ≡ done → is_in_progress (lane_at sim lane) ≡ true → IsTrue (is_some (lane_at sim lane).applying) → sim.apply_left ≤ ticks
    → Decides (sim.apply_left - 1) (ticks - 1) (ticked_by sim lane done)
ends_by sim lane ticks false e on some few = inl (on, omega (arith, few))
ends_by sim lane ticks true e on some few = at (lane_at sim lane).applying some where
  at : (kept : Option ℕ) → IsTrue (is_some kept) → Decides (sim.apply_left - 1) (ticks - 1) (applied_by kept (moved sim lane))
  at (Some byte) some = inr (refl, refl, refl)
  at None some = absurd (let wrong : false ≡ true = some in cc)

module _ (most : ℕ) (lanes : Lanes) where
  decides_tick : (sim : SimModule) (lane ticks : ℕ) → IsLane lane → CountersRun most sim → Decides sim.apply_left ticks (lane_at sim lane) → Decides (ticked sim).apply_left (ticks - 1) (lane_at (ticked sim) lane)
  decides_tick sim lane ticks within run (inl (on, few)) =
      subst (λ (left : ℕ). Decides left (ticks - 1) (lane_at (ticked sim) lane)) (sym (kept_count sim))
      (subst (Decides (sim.apply_left - 1) (ticks - 1)) (sym (lane_is sim lane (is_last sim.apply_left) within refl)) (ends_by sim lane ticks (is_last sim.apply_left) refl on (run.applies lane within on).0 few))
  decides_tick sim lane ticks within run (inr (off, none, decided)) =
      let same = still_by sim lane (is_last sim.apply_left) none in
      let is = lane_is sim lane (is_last sim.apply_left) within refl in
      inr (
        ap is_in_progress is ∙ ap (λ (status : ConfigStatus). status_code_of status == 12) same.1 ∙ off,
        ap (λ (l : Lane). l.applying) is ∙ same.0,
        ap (λ (l : Lane). is_decided l.status) is ∙ ap is_decided same.1 ∙ decided,
      )

  pub applied_tick : (ticks : ℕ) (sim : SimModule) → AreApplied most lanes ticks sim → AreApplied most lanes (ticks - 1) (ticked sim)
  applied_tick ticks sim are = record {
    eight = eight_tick sim;
    counters = counters_tick most sim are.counters;
    power = power_tick sim are.power;
    none = λ lane within outside. ap (λ (l : Lane). l.applying) (lane_is sim lane (is_last sim.apply_left) within refl) ∙ (still_by sim lane (is_last sim.apply_left) (are.none lane within outside)).0;
    quiet = λ lane within outside.
        ap is_in_progress (lane_is sim lane (is_last sim.apply_left) within refl) ∙ ap (λ (status : ConfigStatus). status_code_of status == 12) (still_by sim lane (is_last sim.apply_left) (are.none lane within outside)).1
        ∙ are.quiet lane within outside;
    each = λ lane within inside. decides_tick sim lane ticks within are.counters (are.each lane within inside);
  }

  pub applied_left : (ticks : ℕ) (sim after : SimModule) → LeavesIt sim after → CountersRun most after → AreApplied most lanes ticks sim → AreApplied most lanes ticks after
  applied_left ticks sim after same run are = record {
    eight = ap (λ (lanes : List Lane). length lanes) same.lanes ∙ are.eight;
    counters = run;
    power = λ low. subst IsAsleep (sym same.state) (are.power (sym (power_kept sim after same) ∙ low));
    none = λ lane within outside. ap (λ (l : Lane). l.applying) (same_lane sim after lane same) ∙ are.none lane within outside;
    quiet = λ lane within outside. ap is_in_progress (same_lane sim after lane same) ∙ are.quiet lane within outside;
    each = λ lane within inside.
        subst (λ (left : ℕ). Decides left ticks (lane_at after lane)) (sym same.apply_left) (subst (Decides sim.apply_left ticks) (sym (same_lane sim after lane same)) (are.each lane within inside));
  }

-- ---- lanes that come up

pub record ComeUp (most : ℕ) (control : List ℕ) (lanes : Lanes) (ticks : ℕ) (sim : SimModule) : Type 0 where
  pub counters : CountersRun most sim
  pub free : IsReleased control sim
  pub near : (lane : ℕ) → IsLane lane → set.contains lanes lane ≡ true → until_up sim.delays (lane_at sim lane).path (lane_at sim lane).ticks_left ≤ ticks

-- ---- a task is in hand, and at most so many reads of states are left

abbrev pub Provisions : ℕ → Lanes → ℕ → SimModule → ℕ → Type 0
Provisions most lanes zero sim left = IsSteady most sim × (until_deactivated most + (until_applied most + until_activated most) ≤ left)
Provisions most lanes (suc zero) sim left = IsSteady most sim × (until_deactivated most + (until_applied most + until_activated most) ≤ left)
Provisions most lanes (suc (suc zero)) sim left = IsSteady most sim × ((ticks : ℕ) × GoDown lanes ticks sim × (ticks + (until_applied most + until_activated most) ≤ left))
Provisions most lanes (suc (suc (suc zero))) sim left = IsSteady most sim × (until_applied most + until_activated most ≤ left)
Provisions most lanes (suc (suc (suc (suc zero)))) sim left = IsSteady most sim × (until_applied most + until_activated most ≤ left)
Provisions most lanes (suc (suc (suc (suc (suc zero))))) sim left = IsSteady most sim × (until_applied most + until_activated most ≤ left)
Provisions most lanes (suc (suc (suc (suc (suc (suc zero)))))) sim left = (ticks : ℕ) × AreApplied most lanes ticks sim × (ticks + until_activated most ≤ left)
Provisions most lanes (suc (suc (suc (suc (suc (suc (suc met))))))) sim left = IsSteady most sim × (until_activated most ≤ left)

-- the module is ready and stays so
abbrev pub IsAwake : SimModule → Type 0
IsAwake sim = (sim.state ≡ Ready) × (has_low_power sim ≡ false)

abbrev pub Activates : ℕ → List ℕ → Lanes → ℕ → SimModule → ℕ → Type 0
Activates most control lanes zero sim left = IsSteady most sim × (until_activated most ≤ left)
Activates most control lanes (suc zero) sim left = IsSteady most sim × IsAwake sim × (until_activated most ≤ left)
Activates most control lanes (suc (suc zero)) sim left = IsSteady most sim × IsAwake sim × (active_bytes sim ≡ control) × (until_activated most ≤ left)
Activates most control lanes (suc (suc (suc zero))) sim left = (ticks : ℕ) × ComeUp most control lanes ticks sim × (ticks ≤ left)
Activates most control lanes (suc (suc (suc (suc met)))) sim left = ComeUp most control lanes 0 sim

abbrev pub Unless : Option ProvisionFault → Type 0 → Type 0
Unless None P = P
Unless (Some fault) P = Unit {0}

-- ---- that stays so while ticks, fetches and selections of pages come

module _ (most : ℕ) where
  pub provisions_tick : (lanes : Lanes) (met : ℕ) (sim : SimModule) (left : ℕ) → Provisions most lanes met sim left → Provisions most lanes met (ticked sim) left
  provisions_tick lanes zero sim left (steady, few) = (steady_tick most sim steady, few)
  provisions_tick lanes (suc zero) sim left (steady, few) = (steady_tick most sim steady, few)
  provisions_tick lanes (suc (suc zero)) sim left (steady, (ticks, down, few)) = (steady_tick most sim steady, (ticks - 1, down_tick most lanes ticks sim steady.counters down, omega (arith, few)))
  provisions_tick lanes (suc (suc (suc zero))) sim left (steady, few) = (steady_tick most sim steady, few)
  provisions_tick lanes (suc (suc (suc (suc zero)))) sim left (steady, few) = (steady_tick most sim steady, few)
  provisions_tick lanes (suc (suc (suc (suc (suc zero))))) sim left (steady, few) = (steady_tick most sim steady, few)
  provisions_tick lanes (suc (suc (suc (suc (suc (suc zero)))))) sim left (ticks, are, few) = (ticks - 1, applied_tick most lanes ticks sim are, omega (arith, few))
  provisions_tick lanes (suc (suc (suc (suc (suc (suc (suc met))))))) sim left (steady, few) = (steady_tick most sim steady, few)

  pub provisions_left : (lanes : Lanes) (met : ℕ) (sim after : SimModule) (left : ℕ) → LeavesIt sim after → CountersRun most after → Provisions most lanes met sim left → Provisions most lanes met after left
  provisions_left lanes zero sim after left same run (steady, few) = (steady_left most sim after (leaves_all sim after same) run steady, few)
  provisions_left lanes (suc zero) sim after left same run (steady, few) = (steady_left most sim after (leaves_all sim after same) run steady, few)
  provisions_left lanes (suc (suc zero)) sim after left same run (steady, (ticks, down, few)) = (steady_left most sim after (leaves_all sim after same) run steady, (ticks, down_left lanes ticks sim after same down, few))
  provisions_left lanes (suc (suc (suc zero))) sim after left same run (steady, few) = (steady_left most sim after (leaves_all sim after same) run steady, few)
  provisions_left lanes (suc (suc (suc (suc zero)))) sim after left same run (steady, few) = (steady_left most sim after (leaves_all sim after same) run steady, few)
  provisions_left lanes (suc (suc (suc (suc (suc zero))))) sim after left same run (steady, few) = (steady_left most sim after (leaves_all sim after same) run steady, few)
  provisions_left lanes (suc (suc (suc (suc (suc (suc zero)))))) sim after left same run (ticks, are, few) = (ticks, applied_left most lanes ticks sim after same run are, few)
  provisions_left lanes (suc (suc (suc (suc (suc (suc (suc met))))))) sim after left same run (steady, few) = (steady_left most sim after (leaves_all sim after same) run steady, few)

  pub awake_tick : (sim : SimModule) → IsAwake sim → IsAwake (ticked sim)
  awake_tick sim (ready, awake) = (state_is sim ∙ next_ready sim ready awake, power_is sim ∙ awake)

  pub awake_left : (sim after : SimModule) → LeavesIt sim after → IsAwake sim → IsAwake after
  awake_left sim after same (ready, awake) = (same.state ∙ ready, power_kept sim after same ∙ awake)

  active_tick : (control : List ℕ) (sim : SimModule) → IsSteady most sim → active_bytes sim ≡ control → active_bytes (ticked sim) ≡ control
  active_tick control sim steady is = (rest_tick control sim (record { eight = steady.eight; none = steady.none; active = is })).active

  pub up_tick : (control : List ℕ) (lanes : Lanes) (ticks : ℕ) (sim : SimModule) → ((lane : ℕ) → IsLane lane → set.contains lanes lane ≡ true → IsInUse control lane) → ComeUp most control lanes ticks sim → ComeUp most control lanes (ticks - 1) (ticked sim)
  up_tick control lanes ticks sim used up = record {
    counters = counters_tick most sim up.counters;
    free = released_tick sim control up.free;
    near = λ lane within inside.
        let nearer = (lane_up most sim lane within up.counters.time (not_down sim control lane up.free within (used lane within inside)) (up.counters.lanes lane within)).1 in
        subst (λ (d : Delays). until_up d (lane_at (ticked sim) lane).path (lane_at (ticked sim) lane).ticks_left ≤ ticks - 1) (sym (kept_delays sim)) (omega (arith, nearer, up.near lane within inside));
  }

  pub up_left : (control : List ℕ) (lanes : Lanes) (ticks : ℕ) (sim after : SimModule) → LeavesIt sim after → CountersRun most after → ComeUp most control lanes ticks sim → ComeUp most control lanes ticks after
  up_left control lanes ticks sim after same run up = record {
    counters = run;
    free = released_left sim after control same up.free;
    near = λ lane within inside.
        subst (λ (d : Delays). until_up d (lane_at after lane).path (lane_at after lane).ticks_left ≤ ticks) (sym same.delays)
        (subst (λ (l : Lane). until_up sim.delays l.path l.ticks_left ≤ ticks) (sym (same_lane sim after lane same)) (up.near lane within inside));
  }

  pub activates_tick : (control : List ℕ) (lanes : Lanes) (met : ℕ) (sim : SimModule) (left : ℕ) → ((lane : ℕ) → IsLane lane → set.contains lanes lane ≡ true → IsInUse control lane) → Activates most control lanes met sim left
      → Activates most control lanes met (ticked sim) left
  activates_tick control lanes zero sim left used (steady, few) = (steady_tick most sim steady, few)
  activates_tick control lanes (suc zero) sim left used (steady, awake, few) = (steady_tick most sim steady, awake_tick sim awake, few)
  activates_tick control lanes (suc (suc zero)) sim left used (steady, awake, is, few) = (steady_tick most sim steady, awake_tick sim awake, active_tick control sim steady is, few)
  activates_tick control lanes (suc (suc (suc zero))) sim left used (ticks, up, few) = (ticks - 1, up_tick control lanes ticks sim used up, omega (arith, few))
  activates_tick control lanes (suc (suc (suc (suc met)))) sim left used up = subst (λ (n : ℕ). ComeUp most control lanes n (ticked sim)) (omega arith) (up_tick control lanes 0 sim used up)

  pub activates_left : (control : List ℕ) (lanes : Lanes) (met : ℕ) (sim after : SimModule) (left : ℕ) → LeavesIt sim after → CountersRun most after → Activates most control lanes met sim left → Activates most control lanes met after left
  activates_left control lanes zero sim after left same run (steady, few) = (steady_left most sim after (leaves_all sim after same) run steady, few)
  activates_left control lanes (suc zero) sim after left same run (steady, awake, few) = (steady_left most sim after (leaves_all sim after same) run steady, awake_left sim after same awake, few)
  activates_left control lanes (suc (suc zero)) sim after left same run (steady, awake, is, few) =
      (steady_left most sim after (leaves_all sim after same) run steady, awake_left sim after same awake, ap (λ (lanes : List Lane). map (λ (lane : Lane). lane.active) lanes) same.lanes ∙ is, few)
  activates_left control lanes (suc (suc (suc zero))) sim after left same run (ticks, up, few) = (ticks, up_left control lanes ticks sim after same run up, few)
  activates_left control lanes (suc (suc (suc (suc met)))) sim after left same run up = up_left control lanes 0 sim after same run up

-- ---- what a reply tells of the task in hand

abbrev pub Told : (ℕ → SimModule → ℕ → Type 0) → ℕ → ℕ → ReplyJudgement → SimModule → Type 0
Told Phase left met Met after = Phase (met + 1) after left
Told Phase left met NotYet after = (less : ℕ) × Phase met after less × (less + 1 ≤ left)
Told Phase left met (Fails fault) after = Unit {0}
