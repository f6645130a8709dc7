-- If a path that a module can carry weighs something, the plan that is wanted has a path.
use Rattle.std.proofs.Common.{[], ◌≡◌, ◌⊎◌, inl, inr, ℕ, zero, suc, ◌<◌, ◌≤◌, ◌==◌, ◌&&◌, Bool, true, false, List, ◌∷◌, Option, Some, None, cond, find, get_or, Contains, refl, sym, ap, subst, ◌∙◌, arith}
use Rattle.std.specs.FinSet as set
use Rattle.std.specs.FinSet.{contains-empty, contains-intersection, contains-retain, empty_of_len, len-empty, nat_cmp-IsAntisymmetric, same_set}
use Rattle.std.specs.Cmp.{nat_cmp_total}
use Rattle.std.specs.Ordering.{nat_cmp}
use Rattle.std.specs.Option.{option_map_or, unwrap_or}
use Rattle.std.proofs.lemmas.Bool.{eqb-true}
use Rattle.std.proofs.lemmas.Bool.Decides.{nat_tests}
use Rattle.std.proofs.lemmas.List.FromFn.{get_or-map-range_with_len}
use Rattle.std.proofs.lemmas.List.Folds.{list_any-from_Any}
use Rattle.std.proofs.lemmas.List.Sums.{sum_by-cons}
use Rattle.field_tables.specs.LaneBytes.{contains-run_of}
use Rattle.field_tables.specs.LaneSets.{IsLane, Lanes, every_lane, is_disjoint, is_empty}
use Rattle.applications.specs.declared.active.ActiveSet.{ActiveSet}
use Rattle.applications.specs.declared.app.App.{App}
use Rattle.applications.specs.Advertised.{Advertised}
use Rattle.managed_module.proofs.ShownAdverts.{with_active}
use Rattle.applications.specs.AppWeights.{PathWeights, app_weight, app_weights, weight_from, weight_of_number}
use Rattle.applications.specs.Weights.{ListedWeights, weight_at, weights_of_hosts}
use Rattle.plan_certificate.specs.declared.path.Path.{Path}
use Rattle.plan_certificate.specs.Paths.{app_of, has_number, host_lanes, is_allowed, no_app, path_weight}
use Rattle.plan_certificate.specs.Plans.{IsAdmissible, plan_weight}
use Rattle.control_sets.specs.PlanLanes.{is_taken, plan_lanes}
use Rattle.control_sets.proofs.Bytes.{takes}
use Rattle.control_sets.proofs.Owners.{takes_lane}
use Rattle.control_sets.proofs.ToldLanes.{IsPathOf, IsPlan, path_of}
use Rattle.port_manager.specs.declared.deciding.Goal.{Goal}
use Rattle.port_manager.specs.declared.deciding.Wanted.{Wanted}
use Rattle.port_manager.specs.Decisions.{has_no_plan}
use Rattle.port_manager.specs.Goals.{HasGoal, conventions_of, wanted_of}
use Rattle.sim_module.specs.declared.module.SimModule.{SimModule}
use Rattle.sim_liveness.specs.Accepted.{read_by}
use Rattle.sim_liveness.proofs.OwnPlans.{plan_read}
use Rattle.managed_module.specs.Succeeds.{HasPath}
use Rattle.managed_module.proofs.OwnGoals.{admissible_same, allowed_same, plan_same, wanted_same}

-- ---- lanes

among : (lane : ℕ) → IsLane lane → set.contains every_lane lane ≡ true
among lane (from, to) = contains-run_of 1 8 lane ∙ grind (arith, nat_tests, from, to)

-- a set that has a lane isn't empty
has_lane : (lanes : Lanes) (lane : ℕ) → set.contains lanes lane ≡ true → is_empty lanes ≡ false
has_lane lanes lane one = by (is_empty lanes) refl where
  by : (none : Bool) → is_empty lanes ≡ none → none ≡ false
  by false e = refl
  by true e =
      let empty : lanes ≡ set.empty = empty_of_len lanes (eqb-true (set.len lanes) 0 e) in
      let wrong : true ≡ false = sym one ∙ ap (λ (lanes : Lanes). set.contains lanes lane) empty ∙ contains-empty nat_cmp lane in
      absurd cc

-- the lanes of a plan with a path
some_lane : (advert : Advertised) (paths : List Path) (path : Path) → IsPathOf advert paths path → is_empty (plan_lanes advert paths) ≡ false
unfolding plan_lanes
some_lane advert paths path of =
    let within : IsLane path.host = (of.lanes.first, omega (arith, of.lanes.last, of.lanes.some)) in
    let takes_it = takes_lane advert path path.host (omega arith) (omega (arith, of.lanes.some)) in
    let (k, below, here) = of.one in
    has_lane (plan_lanes advert paths) path.host
    (contains-retain every_lane (is_taken advert paths) path.host (λ other tie. ap (is_taken advert paths) (sym (nat_cmp-IsAntisymmetric path.host other tie)))
    ∙ ap (λ (one : Bool). one && is_taken advert paths path.host) (among path.host within) ∙ list_any-from_Any (takes advert path.host) paths (k, path, below, here, takes_it))

-- no lane is to be down
and_false : (b : Bool) → (b && false) ≡ false
and_false true = refl
and_false false = refl

nothing : (s : Lanes) → ((lane : ℕ) → set.contains s lane ≡ false) → is_empty s ≡ true
nothing s none =
    let same : s ≡ set.empty = same_set nat_cmp_total nat_cmp-IsAntisymmetric s set.empty (λ lane. none lane ∙ sym (contains-empty nat_cmp lane)) in
    ap (λ (s : Lanes). is_empty s) same ∙ ap (λ (n : ℕ). n == 0) (len-empty nat_cmp)

disjoint_of_none : (lanes down : Lanes) → down ≡ set.empty → is_disjoint lanes down ≡ true
disjoint_of_none lanes down none =
    let outside : (lane : ℕ) → set.contains (set.intersection lanes down) lane ≡ false = (λ lane.
    contains-intersection nat_cmp_total lanes down lane ∙ ap (λ (d : Lanes). set.contains lanes lane && set.contains d lane) none
    ∙ ap (λ (b : Bool). set.contains lanes lane && b) (contains-empty nat_cmp lane) ∙ and_false (set.contains lanes lane)) in
    nothing (set.intersection lanes down) outside

all_stay : (advert : Advertised) (down : Lanes) (paths : List Path) → down ≡ set.empty → wanted_of advert down paths ≡ paths
all_stay advert down [] none = refl
all_stay advert down (path ∷ paths) none =
    ap (λ (b : Bool). cond b (path ∷ wanted_of advert down paths) (wanted_of advert down paths)) (disjoint_of_none (host_lanes advert path) down none) ∙ ap (λ (rest : List Path). path ∷ rest) (all_stay advert down paths none)

-- ---- weights

same_weight : (active : ActiveSet) (advert : Advertised) (weights : ListedWeights) (number : ℕ) → weight_of_number (with_active active advert) weights number ≡ weight_of_number advert weights number
unfolding weight_of_number
same_weight active advert weights number = refl

-- an Application with lanes is advertised, so what it weighs is what its host interface does
weighs_by : (found : Option App) (hosts : List ℕ) (stay : ℕ) → 1 ≤ (unwrap_or found no_app).host_lanes → 0 < weight_at hosts (unwrap_or found no_app).host_id → 0 < option_map_or (app_weight (weights_of_hosts hosts stay)) found 0
weighs_by None hosts stay some weighs = absurd (omega (arith, some))
weighs_by (Some app) hosts stay some weighs = omega (arith, weighs)

number_weighs : (advert : Advertised) (path : Path) (hosts : List ℕ) (stay : ℕ) → 1 ≤ (app_of advert path).host_lanes → 0 < weight_at hosts (app_of advert path).host_id → 0 < weight_of_number advert (weights_of_hosts hosts stay) path.app
unfolding weight_of_number app_of
number_weighs advert path hosts stay some weighs = weighs_by (find (has_number path) advert.apps) hosts stay some weighs

path_weighs : (weights : PathWeights) (path : Path) → 0 < weight_at weights.by_app path.app → 0 < path_weight weights path
unfolding weight_from
path_weighs weights path some = omega (arith, some)

one_path : (weights : PathWeights) (path : Path) → path_weight weights path ≤ plan_weight weights (path ∷ [])
one_path weights path = omega (arith, sum_by-cons (path_weight weights) path [])

-- a plan that weighs something has a path
first_path : (weights : PathWeights) (paths : List Path) → 0 < plan_weight weights paths → (path : Path) × Contains paths path
first_path weights [] some = absurd (omega (arith, some))
first_path weights (path ∷ paths) some = (path, (zero, omega arith, refl))

alone : (advert : Advertised) (path : Path) → is_allowed advert path ≡ true → IsAdmissible advert (path ∷ [])
alone advert path allowed = record { allowed = each; apart = λ i j d order below. absurd (omega (arith, order, below)) } where
  each : (k : ℕ) (d : Path) → k < 1 → is_allowed advert (get_or (path ∷ []) k d) ≡ true
  each zero d below = allowed
  each (suc k) d below = absurd (omega (arith, below))

-- ---- the plan that is wanted

and_off : (a b : Bool) → b ≡ false → (a && b) ≡ false
and_off true b e = e
and_off false b e = refl

off_and : (a b : Bool) → a ≡ false → (a && b) ≡ false
off_and a b e = ap (λ (a : Bool). a && b) e

pub has_a_plan : (sim : SimModule) (wanted : Wanted) (active : ActiveSet) (page : List ℕ) (goal : Goal) → HasPath sim wanted ⊎ (is_empty wanted.down ≡ false) → HasGoal (with_active active (read_by (conventions_of wanted) sim)) wanted page goal
    → has_no_plan wanted goal ≡ false
has_a_plan sim wanted active page goal (inr some) has = and_off (is_empty goal.lanes) (is_empty wanted.down) some
has_a_plan sim wanted active page goal (inl p) (plan, is) = by (is_empty wanted.down) refl where
  by : (none : Bool) → is_empty wanted.down ≡ none → has_no_plan wanted goal ≡ false
  by false e = and_off (is_empty goal.lanes) (is_empty wanted.down) e
  by true e =
      let shown = with_active active (read_by (conventions_of wanted) sim) in
      let weights = app_weights shown (weights_of_hosts wanted.hosts wanted.stay) in
      let none : wanted.down ≡ set.empty = empty_of_len wanted.down (eqb-true (set.len wanted.down) 0 e) in
      let best = is.first.candidate.best in
      let admissible : IsAdmissible (read_by (conventions_of wanted) sim) plan = admissible_same active (read_by (conventions_of wanted) sim) plan best.admissible in
      let one : IsPlan (read_by (conventions_of wanted) sim) (p.path ∷ []) = plan_read (conventions_of wanted) sim.image (p.path ∷ []) (alone (read_by (conventions_of wanted) sim) p.path p.allowed) in
      let of = path_of (read_by (conventions_of wanted) sim) (p.path ∷ []) p.path one (zero, omega arith, refl) in
      let number : 0 < weight_of_number shown (weights_of_hosts wanted.hosts wanted.stay) p.path.app =
      subst (λ (n : ℕ). 0 < n) (sym (same_weight active (read_by (conventions_of wanted) sim) (weights_of_hosts wanted.hosts wanted.stay) p.path.app)) (number_weighs (read_by (conventions_of wanted) sim) p.path wanted.hosts wanted.stay of.lanes.some p.weighs) in
      let listed : weight_at weights.by_app p.path.app ≡ weight_of_number shown (weights_of_hosts wanted.hosts wanted.stay) p.path.app =
      get_or-map-range_with_len (weight_of_number shown (weights_of_hosts wanted.hosts wanted.stay)) 0 16 p.path.app p.path.app 0 (omega (arith, of.to_fifteen)) (omega arith) in
      let some : 0 < path_weight weights p.path = path_weighs weights p.path (omega (arith, number, listed)) in
      let heaviest = best.heaviest (p.path ∷ []) (alone shown p.path (allowed_same active (read_by (conventions_of wanted) sim) p.path ∙ p.allowed)) tt in
      let (path, there) = first_path weights plan (omega (arith, some, heaviest, one_path weights p.path)) in
      let lanes : goal.lanes ≡ plan_lanes (read_by (conventions_of wanted) sim) plan =
      is.lanes ∙ plan_same active (read_by (conventions_of wanted) sim) (wanted_of shown wanted.down plan)
      ∙ ap (plan_lanes (read_by (conventions_of wanted) sim)) (wanted_same active (read_by (conventions_of wanted) sim) wanted.down plan ∙ all_stay (read_by (conventions_of wanted) sim) wanted.down plan none) in
      off_and (is_empty goal.lanes) (is_empty wanted.down)
      (ap (λ (l : Lanes). is_empty l) lanes ∙ some_lane (read_by (conventions_of wanted) sim) plan path (path_of (read_by (conventions_of wanted) sim) plan path (plan_read (conventions_of wanted) sim.image plan admissible) there))
