-- The goal that a port takes for a module is a plan of what the module advertises, and its kept paths are active with their control bytes:
-- if the control bytes that are active are those of a plan.
use Rattle.std.proofs.Common.{◌≡◌, ◌⊎◌, inl, inr, ℕ, ◌-◌, ◌≤◌, ◌||◌, not, true, List, None, filter, get_or, All, Contains, refl, sym, ap, subst, ◌∙◌, arith}
use Rattle.std.specs.FinSet as set
use Rattle.std.proofs.lemmas.Bool.{and_parts, eqb-true}
use Rattle.std.proofs.lemmas.List.Elements.{All-filter, Contains-get_or, filter_passes}
use Rattle.std.proofs.lemmas.List.Folds.{Any-from_list_any}
use Rattle.field_tables.specs.LaneSets.{IsLane, Lanes}
use Rattle.field_tables.proofs.TrueTests.{in_range}
use Rattle.applications.specs.declared.active.ActiveSet.{ActiveSet}
use Rattle.applications.specs.Advertised.{Advertised}
use Rattle.managed_module.proofs.ShownAdverts.{with_active}
use Rattle.plan_certificate.specs.declared.path.Path.{Path}
use Rattle.plan_certificate.specs.Paths.{app_of, host_lanes, is_allowed}
use Rattle.plan_certificate.specs.Plans.{IsAdmissible, are_apart}
use Rattle.control_sets.specs.declared.control_byte.ControlByte.{ControlByte}
use Rattle.control_sets.specs.ControlBytes.{control_byte, control_bytes, control_in, control_of, path_on}
use Rattle.control_sets.specs.HostPaths.{control_at, host_paths}
use Rattle.control_sets.specs.PlanLanes.{is_taken, lanes_outside, plan_lanes}
use Rattle.control_sets.specs.PlanPaths.{host_path_of}
use Rattle.control_sets.proofs.Bytes.{takes}
use Rattle.control_sets.proofs.Owners.{takes_lane}
use Rattle.control_sets.proofs.PlanPathLaws.{told_paths}
use Rattle.control_sets.proofs.ReadBack.{no_wrong_lane}
use Rattle.control_sets.proofs.ToldLanes.{IsPathOf, IsPlan, lane_cases, path_of, told_free, told_of}
use Rattle.port_manager.specs.declared.deciding.Goal.{Goal}
use Rattle.port_manager.specs.declared.deciding.Wanted.{Wanted}
use Rattle.port_manager.specs.Goals.{HasGoal, active_at, are_up, at_lane, conventions_of, is_activated, is_active, is_kept, is_up, kept_of, stays_up, wanted_of}
use Rattle.sim_module.specs.declared.module.SimModule.{SimModule}
use Rattle.sim_module.specs.KeptPaths.{IsActivePath}
use Rattle.sim_module.specs.Lanes.{active_bytes}
use Rattle.sim_liveness.specs.Accepted.{read_by}
use Rattle.module_states.specs.declared.state.ModuleState.TheVariants.{Ready}
use Rattle.managed_module.proofs.GoalLanes.{still_admissible}
use Rattle.managed_module.proofs.FoundStates.{has_it}
use Rattle.managed_module.specs.Bounds.{IsSteady}
use Rattle.managed_module.specs.Managed.{HasHalves}
use Rattle.managed_module.specs.ModuleGoals.{IsOwnGoal, IsPlanned}
use Rattle.sim_liveness.proofs.OwnPlans.{plan_read}

-- ---- what is active makes no difference to a plan

module _ (active : ActiveSet) (advert : Advertised) where
  abbrev shown : Advertised
  shown = with_active active advert

  pub allowed_same : (path : Path) → is_allowed shown path ≡ is_allowed advert path
  unfolding is_allowed app_of
  allowed_same path = refl

  apart_same : (path other : Path) → are_apart shown path other ≡ are_apart advert path other
  unfolding are_apart app_of
  apart_same path other = refl

  lanes_same : (path : Path) → host_lanes shown path ≡ host_lanes advert path
  unfolding app_of
  lanes_same path = refl

  control_same : (paths : List Path) → control_bytes shown paths ≡ control_bytes advert paths
  unfolding control_bytes control_byte app_of
  control_same paths = refl

  pub plan_same : (paths : List Path) → plan_lanes shown paths ≡ plan_lanes advert paths
  unfolding plan_lanes app_of
  plan_same paths = refl

  outside_same : (paths : List Path) → lanes_outside shown paths ≡ lanes_outside advert paths
  unfolding lanes_outside app_of
  outside_same paths = refl

  kept_same : (page control : List ℕ) (paths : List Path) → kept_of shown page control paths ≡ kept_of advert page control paths
  unfolding app_of
  kept_same page control paths = refl

  pub wanted_same : (down : Lanes) (paths : List Path) → wanted_of shown down paths ≡ wanted_of advert down paths
  unfolding app_of
  wanted_same down paths = refl

  pub admissible_same : (paths : List Path) → IsAdmissible shown paths → IsAdmissible advert paths
  admissible_same paths plan = record {
    allowed = λ k d below. sym (allowed_same (get_or paths k d)) ∙ plan.allowed k d below;
    apart = λ i j d order below. sym (apart_same (get_or paths i d) (get_or paths j d)) ∙ plan.apart i j d order below;
  }

-- ---- kept paths

lane_up : (page control : List ℕ) (lanes : Lanes) (lane : ℕ) → IsLane lane → are_up page control lanes ≡ true → set.contains lanes lane ≡ true → active_at page lane ≡ at_lane control lane
lane_up page control lanes lane (from, to) up inside =
    let all : (not (set.contains lanes lane) || is_up page control lane) ≡ true = in_range (λ lane. not (set.contains lanes lane) || is_up page control lane) 1 8 lane up from (omega (arith, to)) in
    let one : is_up page control lane ≡ true = has_it (set.contains lanes lane) (is_up page control lane) all inside in
    eqb-true (active_at page lane) (at_lane control lane) (and_parts (is_activated page lane) (is_active page control lane) one).1

-- a lane of a kept path has its control byte
kept_bytes : (advert : Advertised) (paths : List Path) (page control : List ℕ) (lane : ℕ) → IsLane lane → is_taken advert (filter (is_kept advert page control) paths) lane ≡ true → active_at page lane ≡ at_lane control lane
kept_bytes advert paths page control lane within taken =
    let (k, path, below, here, takes_it) = Any-from_list_any (takes advert lane) (filter (is_kept advert page control) paths) taken in
    let up : is_kept advert page control path ≡ true = ap (is_kept advert page control) (sym here) ∙ filter_passes (is_kept advert page control) paths k path below in
    lane_up page control (host_lanes advert path) lane within up takes_it

module _ (advert : Advertised) (paths active : List Path) (plan : IsPlan advert paths) (was : IsPlan advert active) (page bytes : List ℕ) (shows : (lane : ℕ) → IsLane lane → active_at page lane ≡ at_lane bytes lane)
    (is : bytes ≡ control_bytes advert active) where
  -- the lanes of a path are those of its Application
  abbrev count_of : ℕ → ℕ
  count_of app = (app_of advert (record { app = app; host = 0; media = 0 })).host_lanes

  -- the path of what is active that begins where the kept one does
  same_path : (path other : Path) → control_in path ≡ control_in other → 1 ≤ path.host → 1 ≤ other.host → host_path_of advert other ≡ host_path_of advert path
  unfolding app_of
  same_path path other same first too =
      let app : path.app ≡ other.app = ap (λ (c : ControlByte). c.app_sel_code) same in
      let place : path.host - 1 ≡ other.host - 1 = ap (λ (c : ControlByte). c.data_path_id) same in
      let host : other.host ≡ path.host = omega (arith, place, first, too) in
      λ i. record { app = sym app i; host = host i; lanes = count_of (sym app i) }

  kept_active : (path : Path) → Contains paths path → is_kept advert page (control_bytes advert paths) path ≡ true → IsActivePath advert bytes path
  kept_active path one up =
      let of = path_of advert paths path plan one in
      let within : IsLane path.host = (of.lanes.first, omega (arith, of.lanes.last, of.lanes.some)) in
      let taken = takes_lane advert path path.host (omega arith) (omega (arith, of.lanes.some)) in
      let byte : at_lane bytes path.host ≡ at_lane (control_bytes advert paths) path.host = sym (shows path.host within) ∙ lane_up page (control_bytes advert paths) (host_lanes advert path) path.host within up taken in
      let told : control_at bytes path.host ≡ control_in path = ap control_of byte ∙ told_of advert paths path path.host plan of taken in
      by path of within (sym (ap (λ (bytes : List ℕ). control_at bytes path.host) is) ∙ told) (lane_cases advert active path.host was) where
        by : (path : Path) → IsPathOf advert paths path → IsLane path.host → control_at (control_bytes advert active) path.host ≡ control_in path
            → (path_on advert active path.host ≡ None) ⊎ ((other : Path) × IsPathOf advert active other × (takes advert path.host other ≡ true)) → IsActivePath advert bytes path
        by path of within told (inl none) =
            let unused : control_of 0 ≡ control_in path = sym (told_free advert active path.host within none) ∙ told in
            let zeroth : 0 ≡ path.app = ap (λ (c : ControlByte). c.app_sel_code) unused in
            absurd (omega (arith, zeroth, of.from_one))
        by path of within told (inr (other, too, taken)) =
            let same : control_in path ≡ control_in other = sym told ∙ told_of advert active other path.host was too taken in
            let (k, below, here) = too.one in
            let each = (told_paths advert active was).each k other below in
            subst (λ (bytes : List ℕ). IsActivePath advert bytes path) (sym is) (
              no_wrong_lane advert active was,
              subst (Contains (host_paths (control_bytes advert active))) (ap (host_path_of advert) here ∙ same_path path other same of.lanes.first too.lanes.first) each,
            )

-- ---- the goal

pub own_goal : (most : ℕ) (wanted : Wanted) (sim : SimModule) (active : ActiveSet) (page : List ℕ) (goal : Goal) → HasGoal (with_active active (read_by (conventions_of wanted) sim)) wanted page goal → IsPlanned (conventions_of wanted) sim
    → ((lane : ℕ) → IsLane lane → active_at page lane ≡ at_lane (active_bytes sim) lane) → HasHalves sim → IsSteady most sim → sim.state ≡ Ready → IsOwnGoal most wanted sim goal
own_goal most wanted sim active page goal (plan, is) planned shows has steady ready =
    let advert = read_by (conventions_of wanted) sim in
    let paths = wanted_of advert wanted.down plan in
    let control : goal.control ≡ control_bytes advert paths =
    is.control ∙ control_same active advert (wanted_of (with_active active advert) wanted.down plan) ∙ ap (control_bytes advert) (wanted_same active advert wanted.down plan) in
    let admissible : IsAdmissible advert plan = admissible_same active advert plan is.first.candidate.best.admissible in
    let still : IsAdmissible advert paths = still_admissible advert (stays_up advert wanted.down) plan admissible in
    let keeps = is_kept advert page (control_bytes advert paths) in
    let inside : All (Contains paths) (filter keeps paths) = All-filter keeps (Contains paths) paths (λ k d below. Contains-get_or paths k d below) in
    record {
      halves = has;
      steady = steady;
      ready = ready;
      paths = paths;
      kept = filter keeps paths;
      plan = still;
      keeps = inside;
      active = λ k d below.
          kept_active advert paths planned.paths (plan_read (conventions_of wanted) sim.image paths still) (plan_read (conventions_of wanted) sim.image planned.paths planned.plan) page (active_bytes sim) shows planned.active
          (get_or (filter keeps paths) k d) (inside k d below) (filter_passes keeps paths k d below);
      bytes = λ lane within taken.
          sym (shows lane within) ∙ kept_bytes advert paths page (control_bytes advert paths) lane within taken ∙ ap (λ (control : List ℕ). at_lane control lane) (sym control);
      control = control;
      lanes = is.lanes ∙ plan_same active advert (wanted_of (with_active active advert) wanted.down plan) ∙ ap (plan_lanes advert) (wanted_same active advert wanted.down plan);
      outside = is.outside
          ∙ outside_same active advert (kept_of (with_active active advert) page goal.control (wanted_of (with_active active advert) wanted.down plan))
          ∙ ap (lanes_outside advert) (kept_same active advert page goal.control (wanted_of (with_active active advert) wanted.down plan)
          ∙ ap (kept_of advert page goal.control) (wanted_same active advert wanted.down plan) ∙ ap (λ (control : List ℕ). kept_of advert page control paths) control);
    }
