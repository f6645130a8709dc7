-- Which modules a tick leaves as they are.
use Rattle.std.proofs.Common.{◌≡◌, ℕ, ◌+◌, ◌-◌, ◌&&◌, Bool, true, false, Option, Some, get_or, map, refl, ap, sym, ◌∙◌, if◌then◌else◌, arith}
use Rattle.std.specs.Option.{unwrap_or}
use Rattle.std.specs.List.{list_all}
use Rattle.std.proofs.lemmas.Bool.{eqb-true}
use Rattle.module_states.specs.Codes as module_codes
use Rattle.module_states.specs.declared.state.ModuleState.{ModuleState}
use Rattle.datapath_states.specs.declared.state.PathState.{PathState}
use Rattle.datapath_states.specs.StateCodes.{state_at}
use Rattle.field_tables.specs.LaneSets.{IsLane}
use Rattle.sim_module.specs.declared.fixed.Fixed.{Fixed}
use Rattle.sim_module.specs.declared.lane.Lane.{Lane}
use Rattle.sim_module.specs.declared.moving.Moving.{Moving}
use Rattle.sim_module.specs.declared.module.SimModule.{SimModule}
use Rattle.sim_module.specs.Lanes.{all_lanes, is_path_state, lane_at, no_lane}
use Rattle.sim_module.specs.Record.{bare, module_of}
use Rattle.sim_module.specs.Resting.{IsStill, RestsIf, all_stay, stays}
use Rattle.sim_module.specs.Ticks.{applied_lane, is_last, is_module_state, module_delay, moved_lane, next_left, next_module_state, next_path_state, ticked, ticked_lane}
use Rattle.control_sets.proofs.EightLanes.{each_of_eight}
use Rattle.sim_module.proofs.EachLane.{each_lane}
use Rattle.sim_module.proofs.LanesInTime.{made_lane}
use Rattle.sim_module.proofs.TickedParts.{ticked_of}
use Rattle.sim_module.proofs.SavedBack.{path_back, state_back}

same_some : {A : Type 0} (a b : A) → Some a ≡ Some b → a ≡ b
same_some {A = A} a b same = ap (λ (o : Option A). unwrap_or o a) same

same_path : (one other : PathState) → is_path_state one other ≡ true → one ≡ other
same_path one other same = same_some one other (sym (path_back one) ∙ ap state_at (eqb-true _ _ same) ∙ path_back other)

same_state : (one other : ModuleState) → is_module_state one other ≡ true → one ≡ other
same_state one other same = same_some one other (sym (state_back one) ∙ ap module_codes.state_at (eqb-true _ _ same) ∙ state_back other)

both : (a b : Bool) → (a && b) ≡ true → (a ≡ true) × (b ≡ true)
both true b is = (refl, is)
both false b is = cc

-- if no apply is done
still_lane : (sim : SimModule) (lane : ℕ) → sim.apply_left ≡ 0 → stays (lane_at sim lane) (ticked_lane sim lane) ≡ true → ticked_lane sim lane ≡ lane_at sim lane
unfolding ticked_lane
still_lane sim lane none same =
    let (same_state, same_left) = both _ _ same in
    let moved = moved_lane sim.delays (lane_at sim lane) (next_path_state sim lane) in
    let is : ticked_lane sim lane ≡ moved = ap (λ (left : ℕ). if is_last left then applied_lane moved else moved) none in
    let path : moved.path ≡ (lane_at sim lane).path = ap (λ (l : Lane). l.path) (sym is) ∙ same_path _ _ same_state in
    let left : moved.ticks_left ≡ (lane_at sim lane).ticks_left = ap (λ (l : Lane). l.ticks_left) (sym is) ∙ eqb-true _ _ same_left in
    is ∙ (λ i. record (lane_at sim lane) { path = path i; ticks_left = left i })

all_in : (test : ℕ → Bool) (lane : ℕ) → IsLane lane → list_all test all_lanes ≡ true → test lane ≡ true
all_in test lane within all = each_of_eight (λ n. list_all test all_lanes ≡ true → test n ≡ true)
    (λ t. grind (arith, t)) (λ t. grind (arith, t)) (λ t. grind (arith, t)) (λ t. grind (arith, t)) (λ t. grind (arith, t)) (λ t. grind (arith, t)) (λ t. grind (arith, t)) (λ t. grind (arith, t)) lane within all

stays_at : (moving : Moving) → all_stay (bare moving) (map (ticked_lane (bare moving)) all_lanes) ≡ true → (lane : ℕ) → IsLane lane → stays (lane_at (bare moving) lane) (ticked_lane (bare moving) lane) ≡ true
stays_at moving all lane within =
    let sim = bare moving in
    ap (stays (lane_at sim lane)) (sym (made_lane (ticked_lane sim) lane within))
    ∙ all_in (λ n. stays (lane_at sim n) (get_or (map (ticked_lane sim) all_lanes) (n - 1) no_lane)) lane within all

still_lanes : (moving : Moving) → IsStill moving → map (ticked_lane (bare moving)) all_lanes ≡ moving.lanes
still_lanes moving still =
    let eight = still.eight in
    sym (each_lane no_lane (ticked_lane (bare moving)) moving.lanes eight
    (λ k below.
    let index : k + 1 - 1 ≡ k = omega arith in
    ap (λ (n : ℕ). get_or moving.lanes n no_lane) (sym index)
    ∙ sym (still_lane (bare moving) (k + 1) still.apply_left (stays_at moving still.lanes (k + 1) (omega arith, omega (arith, below, eight))))))

pub still_ticked : (moving : Moving) → IsStill moving → ticked (bare moving) ≡ bare moving
unfolding ticked
still_ticked moving still =
    let delay = module_delay moving.delays (next_module_state (bare moving)) in
    let left : next_left (is_module_state (next_module_state (bare moving)) moving.state) moving.ticks_left delay ≡ moving.ticks_left =
    (λ i. next_left (still.state i) (still.ticks_left i) delay) ∙ sym still.ticks_left in
    let apply_left : moving.apply_left - 1 ≡ moving.apply_left = ap (λ (n : ℕ). n - 1) still.apply_left ∙ sym still.apply_left in
    (λ i. record (bare moving) {
      state = same_state _ _ still.state i;
      ticks_left = left i;
      lanes = still_lanes moving still i;
      apply_left = apply_left i;
      lane_flags = still.flags i;
    })

-- what a tick left as it was rests
pub rests_if : (rests : Bool) (old new : Moving) → (rests ≡ true → IsStill old) → bare new ≡ ticked (bare old) → RestsIf rests (bare new)
rests_if true old new still is = ap ticked (is ∙ still_ticked old (still refl)) ∙ sym is
rests_if false old new still is = tt

-- whatever never changes of it
pub rests_over : (rests : Bool) (fixed : Fixed) (moving : Moving) → RestsIf rests (bare moving) → RestsIf rests (module_of fixed moving)
rests_over true fixed moving is = sym (ticked_of fixed moving moving (sym is))
rests_over false fixed moving is = tt
