-- Lanes that nothing holds down stay so, and come up.
use Rattle.std.proofs.Common.{◌≡◌, ℕ, ◌&&◌, ◌||◌, not, Bool, true, false, List, [], ◌∷◌, get_or, refl, ap, sym, ◌∙◌}
use Rattle.std.specs.FinSet as set
use Rattle.std.proofs.lemmas.List.Folds.{list_any_none}
use Rattle.bus_model.specs.declared.device.Dev.TheVariants.{A0}
use Rattle.field_tables.specs.LaneSets.{IsLane, Lanes}
use Rattle.module_states.specs.declared.state.ModuleState.{ModuleState}
use Rattle.module_states.specs.declared.state.ModuleState.TheVariants.{Ready}
use Rattle.module_states.specs.Transitions as module_table
use Rattle.control_sets.specs.HostPaths.{agree, control_at, is_used}
use Rattle.control_sets.proofs.Begun.{are_lanes}
use Rattle.control_sets.proofs.LanesOfPaths.{same_control}
use Rattle.sim_module.specs.declared.module.SimModule.{SimModule}
use Rattle.sim_module.specs.Down.{has_low_power, holds_down, is_down, is_path_down, is_ready}
use Rattle.sim_module.specs.Lanes.{active_bytes, all_lanes, is_in_progress}
use Rattle.sim_module.specs.ShownBytes.{fetched}
use Rattle.sim_module.specs.Stores.{stored}
use Rattle.sim_module.specs.Ticks.{all_deactivated, is_last, next_module_state, ticked}
use Rattle.sim_module.proofs.LanesInTime.{settled_lane, ticked_at}
use Rattle.sim_module.proofs.RestingModule.{rest_lanes, rest_tick}
use Rattle.sim_liveness.specs.Released.{IsInUse, IsReleased, ReleasedAreNotDown, ReleasedComeUp, ReleasedStay}
use Rattle.sim_liveness.specs.Timing.{Pause, StaysReleased, after_pause, fetch, paused, select, tick}
use Rattle.sim_liveness.proofs.InTime.{comes_up_in_time, kept_deinit, power_is, same_lane, state_is}
use Rattle.sim_liveness.proofs.LeftAlone.{LeavesIt, leaves, leaves_selected, power_kept}

-- ---- not down

and_not : (a b : Bool) → (a ≡ true → b ≡ false) → (a && b) ≡ false
and_not true b so = so refl
and_not false b so = refl

pub not_down : ReleasedAreNotDown
unfolding is_down
not_down sim control lane free within used =
    let bytes : active_bytes sim ≡ control = free.rest.active in
    let holds : ℕ → Bool = λ other. agree (active_bytes sim) lane other && holds_down sim other in
    let none : (other : ℕ) → IsLane other → holds other ≡ false = λ other there.
    and_not (agree (active_bytes sim) lane other) (holds_down sim other) (λ agreed.
    let told : control_at control lane ≡ control_at control other =
    same_control (control_at control lane) (control_at control other) (ap (λ (bytes : List ℕ). agree bytes lane other) (sym bytes) ∙ agreed) in
    let clear : set.contains sim.deinit other ≡ false = free.clear other there (ap is_used (sym told) ∙ used) in
    (λ i. clear i || free.quiet other there i)) in
    let paths : is_path_down sim lane ≡ false = list_any_none holds all_lanes (λ k d below. none (get_or all_lanes k d) (are_lanes k d below)) in
    let is_told : is_used (control_at (active_bytes sim) lane) ≡ true = ap (λ (bytes : List ℕ). is_used (control_at bytes lane)) bytes ∙ used in
    let is_there : is_ready sim ≡ true = ap (λ (state : ModuleState). is_ready (record sim { state = state })) free.ready in
    (λ i. not (is_told i) || paths i || not (is_there i) || free.awake i)

-- ---- it stays so

still_ready : (deactivated done : Bool) → module_table.next_of Ready (record { low_power = false; deactivated = deactivated; done = done }) ≡ Ready
unfolding module_table.next_of
still_ready deactivated done = refl

pub next_ready : (sim : SimModule) → sim.state ≡ Ready → has_low_power sim ≡ false → next_module_state sim ≡ Ready
next_ready sim ready awake =
    (λ i. module_table.next_of (ready i) (record { low_power = awake i; deactivated = all_deactivated sim; done = is_last sim.ticks_left }))
    ∙ still_ready (all_deactivated sim) (is_last sim.ticks_left)

pub released_tick : (sim : SimModule) (control : List ℕ) → IsReleased control sim → IsReleased control (ticked sim)
released_tick sim control free = record {
  rest = rest_tick control sim free.rest;
  ready = state_is sim ∙ next_ready sim free.ready free.awake;
  awake = power_is sim ∙ free.awake;
  quiet = λ lane within. ap is_in_progress (ticked_at sim lane within ∙ settled_lane sim lane (free.rest.none lane within)) ∙ free.quiet lane within;
  clear = λ lane within used. ap (λ (lanes : Lanes). set.contains lanes lane) (kept_deinit sim) ∙ free.clear lane within used;
}

pub released_left : (sim after : SimModule) (control : List ℕ) → LeavesIt sim after → IsReleased control sim → IsReleased control after
released_left sim after control same free = record {
  rest = rest_lanes control sim after same.lanes free.rest;
  ready = same.state ∙ free.ready;
  awake = power_kept sim after same ∙ free.awake;
  quiet = λ lane within. ap is_in_progress (same_lane sim after lane same) ∙ free.quiet lane within;
  clear = λ lane within used. ap (λ (lanes : Lanes). set.contains lanes lane) same.deinit ∙ free.clear lane within used;
}

released_after : (sim : SimModule) (control : List ℕ) (pause : Pause) → IsReleased control sim → IsReleased control (after_pause pause sim)
released_after sim control tick free = released_tick sim control free
released_after sim control (fetch dev address count) free = released_left sim (fetched sim dev address count).1 control (leaves sim dev address count) free
released_after sim control (select bank page) free = released_left sim (stored sim A0 126 (bank ∷ page ∷ [])).1 control (leaves_selected sim bank page) free

pub released_stay : ReleasedStay
released_stay sim control [] free = free
released_stay sim control (pause ∷ before) free = released_after (paused before sim) control pause (released_stay sim control before free)

-- ---- up

never_down : (sim : SimModule) (control : List ℕ) (lane : ℕ) (pauses : List Pause) → IsReleased control sim → IsLane lane → IsInUse control lane → StaysReleased sim lane pauses
never_down sim control lane [] free within used = tt
never_down sim control lane (pause ∷ before) free within used =
    (not_down (paused before sim) control lane (released_stay sim control before free) within used, never_down sim control lane before free within used)

pub released_come_up : (most : ℕ) → ReleasedComeUp most
released_come_up most sim control lane pauses run free within used long =
    comes_up_in_time most sim lane pauses within run.time (run.lanes lane within) (never_down sim control lane pauses free within used) long
