-- A lane of a kept path stays up with time.
use Rattle.std.proofs.Common.{◌≡◌, ◌⊎◌, inl, inr, ℕ, ◌-◌, Bool, true, false, not, Option, Some, None, length, get_or, refl, ap, sym, ◌∙◌, ◌&&◌, ◌||◌, if◌then◌else◌, arith}
use Rattle.std.specs.FinSet as set
use Rattle.std.proofs.lemmas.List.{get_or-map}
use Rattle.std.proofs.lemmas.List.Folds.{list_any_none}
use Rattle.std.proofs.lemmas.List.FromFn.{length-map-range_with_len}
use Rattle.module_states.specs.declared.state.ModuleState.{ModuleState}
use Rattle.module_states.specs.declared.state.ModuleState.TheVariants.{Ready}
use Rattle.module_states.specs.Transitions as module_table
use Rattle.datapath_states.specs.declared.state.PathState.TheVariants.{Activated}
use Rattle.control_sets.specs.ControlBytes.{control_of}
use Rattle.field_tables.specs.LaneSets.{IsLane}
use Rattle.control_sets.specs.HostPaths.{agree, are_same, control_at, first_lane, is_used}
use Rattle.control_sets.proofs.Begun.{are_lanes}
use Rattle.sim_module.specs.declared.lane.Lane.{Lane}
use Rattle.sim_module.specs.declared.module.SimModule.{SimModule}
use Rattle.sim_module.specs.Lanes.{active_bytes, all_lanes, is_in_progress, lane_at, no_lane}
use Rattle.sim_module.specs.Down.{has_low_power, holds_down, is_down, is_path_down, is_ready}
use Rattle.sim_module.specs.Ticks.{all_deactivated, applied_by, applied_lane, is_last, moved_lane, next_module_state, next_path_state, ticked, ticked_lane}
use Rattle.sim_module.proofs.LanesInTime.{settled_lane, stays_up, ticked_at}

-- a lane of a path that is kept as a whole, the first of whose lanes its control byte names
pub record IsKeptLane (is_kept : ℕ → Bool) (lane byte : ℕ) : Type 0 where
  pub within : IsLane lane
  pub kept : is_kept lane ≡ true
  pub used : is_used (control_of byte) ≡ true
  pub first : IsLane (first_lane (control_of byte))
  pub first_kept : is_kept (first_lane (control_of byte)) ≡ true

-- the lane's path is apart from all that isn't kept: all lanes that are told the same are kept, no kept lane is in an apply, and
-- no apply in progress keeps a byte that would tell another lane the same
pub record StaysApart (is_kept : ℕ → Bool) (lane byte : ℕ) (sim : SimModule) : Type 0 where
  pub eight : length sim.lanes ≡ 8
  pub active : (lane_at sim lane).active ≡ byte
  pub same : (other : ℕ) → IsLane other → are_same (control_of byte) (control_of (lane_at sim other).active) ≡ true → is_kept other ≡ true
  pub quiet : (other : ℕ) → IsLane other → is_kept other ≡ true → is_in_progress (lane_at sim other) ≡ false
  pub none : (other : ℕ) → IsLane other → is_kept other ≡ true → (lane_at sim other).applying ≡ None
  pub apart : (other kept : ℕ) → IsLane other → (lane_at sim other).applying ≡ Some kept → are_same (control_of byte) (control_of kept) ≡ false

-- no kept lane has its DPDeinit bit set
abbrev pub IsClear : (ℕ → Bool) → SimModule → Type 0
IsClear is_kept sim = (other : ℕ) → IsLane other → is_kept other ≡ true → set.contains sim.deinit other ≡ false

-- the lane is up, and nothing takes it down
pub record StaysKept (is_kept : ℕ → Bool) (lane byte : ℕ) (sim : SimModule) : Type 0 where
  pub alone : StaysApart is_kept lane byte sim
  pub ready : sim.state ≡ Ready
  pub power : has_low_power sim ≡ false
  pub path : (lane_at sim lane).path ≡ Activated
  pub clear : IsClear is_kept sim

-- what a lane of the Active Control Set is told
pub told_at : (sim : SimModule) (lane : ℕ) → length sim.lanes ≡ 8 → IsLane lane → control_at (active_bytes sim) lane ≡ control_of (lane_at sim lane).active
told_at sim lane eight (from, to) = ap control_of (get_or-map (λ (l : Lane). l.active) sim.lanes (lane - 1) no_lane 0 (omega (arith, from, to, eight)))

and_not : (a b : Bool) → (a ≡ true → b ≡ false) → (a && b) ≡ false
and_not true b so = so refl
and_not false b so = refl

module _ (is_kept : ℕ → Bool) (lane byte : ℕ) (one : IsKeptLane is_kept lane byte) where
  -- what is left to take it down
  pub down_as : (sim : SimModule) → StaysApart is_kept lane byte sim → IsClear is_kept sim → is_down sim lane ≡ (not (is_ready sim) || has_low_power sim)
  unfolding is_down
  down_as sim alone clear =
      let told : control_at (active_bytes sim) lane ≡ control_of byte = told_at sim lane alone.eight one.within ∙ ap control_of alone.active in
      let holds : ℕ → Bool = λ other. agree (active_bytes sim) lane other && holds_down sim other in
      let free : (other : ℕ) → IsLane other → is_kept other ≡ true → holds_down sim other ≡ false = λ other there kept. λ i. clear other there kept i || alone.quiet other there kept i in
      let none : (other : ℕ) → IsLane other → holds other ≡ false = λ other there.
      and_not (agree (active_bytes sim) lane other) (holds_down sim other) (λ agreed.
      free other there (alone.same other there ((λ i. are_same (sym told i) (sym (told_at sim other alone.eight there) i)) ∙ agreed))) in
      let paths : is_path_down sim lane ≡ false = list_any_none holds all_lanes (λ k d below. none (get_or all_lanes k d) (are_lanes k d below)) in
      let is_told : is_used (control_at (active_bytes sim) lane) ≡ true = ap is_used told ∙ one.used in
      λ i. not (is_told i) || paths i || not (is_ready sim) || has_low_power sim

  pub not_down : (sim : SimModule) → StaysKept is_kept lane byte sim → is_down sim lane ≡ false
  not_down sim keeps =
      let is_there : is_ready sim ≡ true = ap (λ (state : ModuleState). is_ready (record sim { state = state })) keeps.ready in
      down_as sim keeps.alone keeps.clear ∙ (λ i. not (is_there i) || keeps.power i)

  still_ready : (deactivated done : Bool) → module_table.next_of Ready (record { low_power = false; deactivated = deactivated; done = done }) ≡ Ready
  unfolding module_table.next_of
  still_ready deactivated done = refl

  next_ready : (sim : SimModule) → StaysKept is_kept lane byte sim → next_module_state sim ≡ Ready
  next_ready sim keeps =
      (λ i. module_table.next_of (keeps.ready i) (record { low_power = keeps.power i; deactivated = all_deactivated sim; done = is_last sim.ticks_left }))
      ∙ still_ready (all_deactivated sim) (is_last sim.ticks_left)

  -- a lane's active byte after a tick is the one before, or what an apply kept
  became : (done : Bool) (moved : Lane) (kept : Option ℕ) → moved.applying ≡ kept →
      ((if done then applied_lane moved else moved).active ≡ moved.active) ⊎ ((k : ℕ) × (moved.applying ≡ Some k) × ((if done then applied_lane moved else moved).active ≡ k))
  became false moved kept is = inl refl
  became true moved None is = inl (ap (λ (o : Option ℕ). (applied_by o moved).active) is)
  became true moved (Some k) is = inr (k, is, ap (λ (o : Option ℕ). (applied_by o moved).active) is)

  -- what is kept after a tick was kept before
  was_kept : (done : Bool) (moved : Lane) (kept : Option ℕ) (k : ℕ) → moved.applying ≡ kept → (if done then applied_lane moved else moved).applying ≡ Some k → moved.applying ≡ Some k
  was_kept false moved kept k is here = here
  was_kept true moved None k is here = sym (ap (λ (o : Option ℕ). (applied_by o moved).applying) is) ∙ here
  was_kept true moved (Some l) k is here = let none : None ≡ Some k = sym (ap (λ (o : Option ℕ). (applied_by o moved).applying) is) ∙ here in cc

  abbrev moved_at : SimModule → ℕ → Lane
  moved_at sim other = moved_lane sim.delays (lane_at sim other) (next_path_state sim other)

  abbrev after_tick : SimModule → ℕ → Lane
  after_tick sim other = if is_last sim.apply_left then applied_lane (moved_at sim other) else moved_at sim other

  ticked_as : (sim : SimModule) (other : ℕ) → ticked_lane sim other ≡ after_tick sim other
  unfolding ticked_lane
  ticked_as sim other = refl

  settled_after : (sim : SimModule) (other : ℕ) → IsLane other → (lane_at sim other).applying ≡ None → lane_at (ticked sim) other ≡ moved_at sim other
  settled_after sim other there none = ticked_at sim other there ∙ settled_lane sim other none

  same_after_tick : (sim : SimModule) (other : ℕ) → StaysApart is_kept lane byte sim → IsLane other → are_same (control_of byte) (control_of (lane_at (ticked sim) other).active) ≡ true → is_kept other ≡ true
  same_after_tick sim other alone there same =
      let after = ticked_at sim other there ∙ ticked_as sim other in
      let tells : ℕ → Bool = λ b. are_same (control_of byte) (control_of b) in
      elim (became (is_last sim.apply_left) (moved_at sim other) (lane_at sim other).applying refl) [
        | inl stays ↦ alone.same other there (sym (ap tells (ap (λ (l : Lane). l.active) after ∙ stays)) ∙ same)
        | inr done ↦
            let told : tells done.0 ≡ true = sym (ap tells (ap (λ (l : Lane). l.active) after ∙ done.2)) ∙ same in
            let apart : tells done.0 ≡ false = alone.apart other done.0 there done.1 in
            cc
      ]

  pub apart_tick : (sim : SimModule) → StaysApart is_kept lane byte sim → StaysApart is_kept lane byte (ticked sim)
  unfolding ticked
  apart_tick sim alone =
      let after : (other : ℕ) → IsLane other → is_kept other ≡ true → lane_at (ticked sim) other ≡ moved_at sim other = λ other there kept. settled_after sim other there (alone.none other there kept) in
      record {
        eight = length-map-range_with_len (ticked_lane sim) 1 8;
        active = ap (λ (l : Lane). l.active) (after lane one.within one.kept) ∙ alone.active;
        same = λ other there told. same_after_tick sim other alone there told;
        quiet = λ other there kept. ap is_in_progress (after other there kept) ∙ alone.quiet other there kept;
        none = λ other there kept. ap (λ (l : Lane). l.applying) (after other there kept) ∙ alone.none other there kept;
        apart = λ other k there some. alone.apart other k there (was_kept (is_last sim.apply_left) (moved_at sim other) (lane_at sim other).applying k refl (sym (ap (λ (l : Lane). l.applying) (ticked_at sim other there ∙ ticked_as sim other)) ∙ some));
      }

  pub keeps_tick : (sim : SimModule) → StaysKept is_kept lane byte sim → StaysKept is_kept lane byte (ticked sim)
  unfolding ticked
  keeps_tick sim keeps =
      let up = stays_up sim lane one.within keeps.path (not_down sim keeps) (keeps.alone.none lane one.within one.kept) in
      record {
        alone = apart_tick sim keeps.alone;
        ready = next_ready sim keeps;
        power = keeps.power;
        path = up.path ∙ keeps.path;
        clear = keeps.clear;
      }
