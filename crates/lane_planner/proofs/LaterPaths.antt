-- Plans that grow from a state by a path at a later host lane: each kept path has been taken or may still come, and what else is kept.
use Rattle.std.proofs.Common.{◌≡◌, ℕ, ◌+◌, ◌<◌, ◌≤◌, ◌&&◌, true, List, [], ◌∷◌, ◌++◌, get_or, arith, ◌⊎◌, subst, inl, inr}
use Rattle.std.specs.List.{All, AllPairs, Contains}
use Rattle.std.proofs.lemmas.List.Elements.{All-contains, All-from_recursion, All-nil, All-push, All-weaker, Contains-append_left, Contains-push}
use Rattle.std.proofs.lemmas.List.Quantifiers.{all_pairs_push}
use Rattle.std.proofs.lemmas.List.Sums.{sum_by-append, sum_by-cons}
use Rattle.field_tables.specs.LaneSets.{Lanes, is_disjoint}
use Rattle.lane_planner.proofs.Words.{Advertised, PathWeights, Path, State, start, free_decision, path_decision, app_of, media_lanes, is_allowed, path_weight, is_eligible, may_stay_free, IsAdmissible, plan_weight, Keeps}
use Rattle.plan_certificate.specs.Plans.{are_apart}
use Rattle.plan_certificate.proofs.Heaviest.{allowed, IsLater, after_path, all_later, lanes_later}
use Rattle.plan_certificate.proofs.KeptPaths.{eligible_allowed}
use Rattle.plan_certificate.proofs.LaneRuns.{disjoint_back}
use Rattle.plan_certificate.proofs.Lists.{each_contained, map_each}
use Rattle.lane_planner.proofs.DisjointLanes.{disjoint_parts, runs_disjoint}
use Rattle.lane_planner.proofs.KeptLanes.{has_lane, none_has, same_or_beside}

-- ---- the kept paths: in the end all have been taken

abbrev pub AreTakenOrLater : Advertised → List Path → State → List Path → Type 0
AreTakenOrLater advert kept state paths = (path : Path) → Contains kept path → Contains paths path ⊎ IsLater advert kept state path

pub all_taken : (advert : Advertised) (kept : List Path) (state : State) (paths : List Path) → 8 ≤ state.boundary → AreTakenOrLater advert kept state paths → Keeps kept paths
all_taken advert kept state paths ended are =
    map_each (Contains kept) (Contains paths) kept
    (λ path held. elim (are path held) [
      | inl taken ↦ taken
      | inr later ↦ let lanes = lanes_later advert kept state path later in absurd (omega (arith, later.past, lanes.host_to, lanes.host_some, ended))
    ]) (each_contained kept)

-- ---- the paths so far

-- a path that ends at or below the boundary, at used media lanes
pub record Stands (advert : Advertised) (state : State) (path : Path) : Type 0 where
  pub can : is_allowed advert path ≡ true
  pub before : path.host + (app_of advert path).host_lanes ≤ state.boundary + 1
  pub used : (others : Lanes) → is_disjoint others state.used ≡ true → is_disjoint others (media_lanes advert path) ≡ true

-- any two: the one ahead is at lower host lanes, and they share no lane
pub record AreInOrder (advert : Advertised) (path later : Path) : Type 0 where
  pub apart : are_apart advert path later ≡ true
  pub rises : path.host < later.host

-- the paths come before the state, in order, and the kept ones are among them or may still come
pub record Grown (advert : Advertised) (kept : List Path) (state : State) (paths : List Path) : Type 0 where
  pub within : state.boundary ≤ 8
  pub stand : All (Stands advert state) paths
  pub ordered : AllPairs (AreInOrder advert) paths
  pub keeps : AreTakenOrLater advert kept state paths

pub grown_from_start : (advert : Advertised) (kept : List Path) → IsAdmissible advert kept → Grown advert kept start []
grown_from_start advert kept plan =
    let Later : Path → Type 0 = IsLater advert kept start in
    record {
      within = omega arith;
      stand = All-nil (Stands advert start);
      ordered = λ i j d before below. absurd (omega (arith, below));
      keeps = λ path held. inr (All-contains Later kept path (All-from_recursion Later kept (all_later advert kept kept plan (each_contained kept))) held);
    }

-- ---- one decision more

in_order : (advert : Advertised) (state : State) (path taken : Path) → Stands advert state path → taken.host ≡ state.boundary + 1 → is_disjoint (media_lanes advert taken) state.used ≡ true → AreInOrder advert path taken
unfolding are_apart
in_order advert state path taken is begins unused =
    let lanes = allowed advert path is.can in
    let hosts = runs_disjoint path.host (app_of advert path).host_lanes taken.host (app_of advert taken).host_lanes (omega (arith, is.before, begins)) in
    let media = disjoint_back (media_lanes advert taken) (media_lanes advert path) (is.used (media_lanes advert taken) unused) in
    record { apart = (λ i. hosts i && media i); rises = omega (arith, is.before, begins, lanes.host_some) }

pub grown_free : (advert : Advertised) (kept : List Path) (state : State) (paths : List Path) → Grown advert kept state paths → state.boundary < 8 → may_stay_free advert kept (state.boundary + 1) ≡ true → Grown advert kept (free_decision state).end paths
grown_free advert kept state paths is below may =
    let lane : ℕ = state.boundary + 1 in
    let End : State = (free_decision state).end in
    record {
      within = omega (arith, below);
      stand = All-weaker (Stands advert state) (Stands advert End) (λ path one. record { can = one.can; before = omega (arith, one.before); used = one.used }) paths is.stand;
      ordered = is.ordered;
      keeps = λ path held. elim (is.keeps path held) [
        | inl taken ↦ inl taken
        | inr later ↦
            let lanes = lanes_later advert kept state path later in
            let elsewhere : path.host ≡ lane → ⊥ = λ begins. none_has advert kept lane path may held (has_lane advert path lane (omega (arith, begins)) (omega (arith, begins, lanes.host_some))) in
            inr (record { can = later.can; past = omega (arith, later.past, elsewhere); unused = later.unused })
      ];
    }

pub grown_path : (advert : Advertised) (weights : PathWeights) (kept : List Path) (state : State) (paths : List Path) (path : Path) → IsAdmissible advert kept → Grown advert kept state paths → path.host ≡ state.boundary + 1 → is_eligible advert kept path ≡ true → is_disjoint (media_lanes advert path) state.used ≡ true
    → Grown advert kept (path_decision advert weights state path).end (paths ++ path ∷ [])
grown_path advert weights kept state paths path plan is begins can unused =
    let End : State = (path_decision advert weights state path).end in
    let may = eligible_allowed advert kept path can in
    let parts = λ (others : Lanes). disjoint_parts others state.used (media_lanes advert path) in
    let before : (one : Path) → Stands advert state one → Stands advert End one = λ one stands. record { can = stands.can; before = omega (arith, stands.before); used = λ others none. stands.used others (parts others none).0 } in
    record {
      within = omega (arith, begins, (allowed advert path may).host_to);
      stand = All-push (Stands advert End) paths path (All-weaker (Stands advert state) (Stands advert End) before paths is.stand)
          (record { can = may; before = omega (arith, begins); used = λ others none. (parts others none).1 });
      ordered = all_pairs_push (AreInOrder advert) paths path is.ordered (λ k d inside. in_order advert state (get_or paths k d) path (is.stand k d inside) begins unused);
      keeps = λ other held. elim (is.keeps other held) [
        | inl taken ↦ inl (Contains-append_left paths (path ∷ []) other taken)
        | inr later ↦ elim (same_or_beside advert kept path other plan can held) [
          | inl same ↦ inl (subst (Contains (paths ++ path ∷ [])) same (Contains-push paths path))
          | inr apart ↦ inr (after_path advert weights kept state path other (record { can = can; past = omega (arith, begins); unused = unused }) begins later apart)
        ]
      ];
    }

pub weight_more : (advert : Advertised) (weights : PathWeights) (paths : List Path) (path : Path) → plan_weight weights (paths ++ path ∷ []) ≡ plan_weight weights paths + path_weight weights path
weight_more advert weights paths path =
    let weigh : Path → ℕ = path_weight weights in
    omega (arith, sum_by-append weigh paths (path ∷ []), sum_by-cons weigh path [])
