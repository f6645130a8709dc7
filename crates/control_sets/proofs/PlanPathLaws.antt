-- The host paths that the control bytes of a plan tell are those of the plan.
use Rattle.std.proofs.Common.{◌≡◌, ℕ, ◌+◌, ◌-◌, ◌/◌, ◌%◌, ◌<◌, ◌&&◌, true, false, List, not, count_by, get_or, map, filter, Contains, All, sym, subst, ap, ◌∙◌, inl, inr, nat_eq, nat_le, nat_lt, arith}
use Rattle.std.proofs.lemmas.Bool.{and_from, and_parts, cases_Bool, eq-eqb, eqb-true, false_from_ne_true, ne_eqb}
use Rattle.std.proofs.lemmas.List.{get_or_default}
use Rattle.std.proofs.lemmas.List.Elements.{All-filter, All-map, filter_passes}
use Rattle.std.proofs.lemmas.List.Kept.{AllPairs-filter}
use Rattle.std.specs.List.{range_with_len}
use Rattle.applications.specs.Advertised.{Advertised}
use Rattle.plan_certificate.specs.declared.path.Path.{Path}
use Rattle.plan_certificate.specs.Paths.{app_of}
use Rattle.control_sets.specs.declared.control_byte.ControlByte.{ControlByte}
use Rattle.control_sets.specs.declared.host_path.HostPath.{HostPath}
use Rattle.control_sets.specs.ControlBytes.{control_bytes, control_in, control_of}
use Rattle.field_tables.specs.LaneSets.{IsLane}
use Rattle.control_sets.specs.HostPaths.{agree, are_same, begins, control_at, first_lane, host_paths, is_used, path_from}
use Rattle.control_sets.specs.PlanPaths.{AreHostPathsOf, host_path_of}
use Rattle.control_sets.proofs.Begun.{are_lanes, begun_is_told}
use Rattle.control_sets.proofs.Bytes.{takes}
use Rattle.control_sets.proofs.Counts.{count_alike, count_within, mapped, pairs_mapped, row_rises}
use Rattle.control_sets.proofs.Owners.{owner, takes_lane, takes_run}
use Rattle.control_sets.proofs.ReadBack.{first_of, path_agrees}
use Rattle.control_sets.proofs.ToldLanes.{IsPlan, IsPathOf, lane_cases, path_of, told_of, told_free}

takes_first : (advert : Advertised) (paths : List Path) (path : Path) → IsPathOf advert paths path → takes advert path.host path ≡ true
takes_first advert paths path of = takes_lane advert path path.host (omega arith) (omega (arith, of.lanes.some))

-- what the lanes of a path are told is that they are in one
used : (advert : Advertised) (paths : List Path) (path : Path) → IsPathOf advert paths path → is_used (control_in path) ≡ true
used advert paths path of = ap not (ne_eqb path.app 0 (λ none. omega (arith, none, of.from_one)))

-- paths that begin at one lane are one
same_first : (advert : Advertised) (paths : List Path) (path other : Path) → IsPlan advert paths → IsPathOf advert paths path → IsPathOf advert paths other → path.host ≡ other.host → path ≡ other
same_first advert paths path other plan of other_of same =
    let one = owner advert paths path path.host plan.admissible of.one (takes_first advert paths path of) in
    let taken : takes advert path.host other ≡ true = ap (λ (lane : ℕ). takes advert lane other) same ∙ takes_first advert paths other other_of in
    let both = sym one ∙ owner advert paths other path.host plan.admissible other_of.one taken in
    cc

-- a lane agrees with the first one of a path exactly where the path takes it
agrees : (advert : Advertised) (paths : List Path) (path : Path) (lane : ℕ) → IsPlan advert paths → IsPathOf advert paths path → IsLane lane →
    agree (control_bytes advert paths) path.host lane ≡ takes advert lane path
agrees advert paths path lane plan of within =
    let bytes = control_bytes advert paths in
    let first = told_of advert paths path path.host plan of (takes_first advert paths path of) in
    elim (cases_Bool (takes advert lane path)) [
      | inl taken ↦ path_agrees advert paths path path.host lane plan of (takes_first advert paths path of) taken ∙ sym taken
      | inr free ↦ false_from_ne_true (agree bytes path.host lane) (λ same.
          elim (lane_cases advert paths lane plan) [
            | inl none ↦
                let told : are_same (control_in path) (control_of 0) ≡ true = (λ i. are_same (sym first i) (sym (told_free advert paths lane within none) i)) ∙ same in
                let parts = and_parts (nat_eq path.app (0 / 16 % 16)) (nat_eq (path.host - 1) (0 / 2 % 8)) told in
                let code = eqb-true path.app (0 / 16 % 16) parts.0 in
                absurd (omega (arith, code, of.from_one))
            | inr (other, other_of, taken) ↦
                let told : are_same (control_in path) (control_in other) ≡ true = (λ i. are_same (sym first i) (sym (told_of advert paths other lane plan other_of taken) i)) ∙ same in
                let parts = and_parts (nat_eq path.app other.app) (nat_eq (path.host - 1) (other.host - 1)) told in
                let id = eqb-true (path.host - 1) (other.host - 1) parts.1 in
                let one = same_first advert paths path other plan of other_of (omega (arith, id, of.lanes.first, other_of.lanes.first)) in
                let wrong = sym free ∙ ap (takes advert lane) one ∙ taken in
                absurd cc
          ]) ∙ sym free
    ]

path_told : (advert : Advertised) (paths : List Path) (path : Path) → IsPlan advert paths → IsPathOf advert paths path → path_from (control_bytes advert paths) path.host ≡ host_path_of advert path
unfolding path_from
path_told advert paths path plan of =
    let bytes = control_bytes advert paths in
    let count = (app_of advert path).host_lanes in
    let control = told_of advert paths path path.host plan of (takes_first advert paths path of) in
    let lanes : count_by (agree bytes path.host) (range_with_len 1 8) ≡ count =
    count_alike (agree bytes path.host) (λ lane. nat_le path.host lane && nat_lt lane (path.host + count)) 1 8 (λ lane from to. agrees advert paths path lane plan of (from, omega (arith, to)) ∙ takes_run advert path lane)
    ∙ count_within path.host (path.host + count) 1 8 (omega arith)
    ∙ omega (arith, of.lanes.first, of.lanes.last) in
    (λ i. record { app = (control i).app_sel_code; host = path.host; lanes = lanes i })

-- a path begins at its first lane
begun : (advert : Advertised) (paths : List Path) (path : Path) → IsPlan advert paths → IsPathOf advert paths path → begins (control_bytes advert paths) path.host ≡ true
begun advert paths path plan of =
    let control = told_of advert paths path path.host plan of (takes_first advert paths path of) in
    ap (λ (control : ControlByte). is_used control && nat_eq (first_lane control) path.host) control
    ∙ and_from _ _ (used advert paths path of) (eq-eqb _ _ (first_of path of.lanes.first))

-- where one begins, that path is the plan's
beginner : (advert : Advertised) (paths : List Path) (lane : ℕ) → IsPlan advert paths → IsLane lane → begins (control_bytes advert paths) lane ≡ true →
    Contains (map (host_path_of advert) paths) (path_from (control_bytes advert paths) lane)
beginner advert paths lane plan within begun =
    let bytes = control_bytes advert paths in
    let parts = and_parts (is_used (control_at bytes lane)) (nat_eq (first_lane (control_at bytes lane)) lane) begun in
    elim (lane_cases advert paths lane plan) [
      | inl none ↦
          let wrong : false ≡ true = sym (ap is_used (told_free advert paths lane within none)) ∙ parts.0 in
          absurd cc
      | inr (path, of, taken) ↦
          let first : path.host ≡ lane = sym (ap first_lane (told_of advert paths path lane plan of taken) ∙ first_of path of.lanes.first) ∙ eqb-true _ _ parts.1 in
          let here : host_path_of advert path ≡ path_from bytes lane = sym (path_told advert paths path plan of) ∙ ap (path_from bytes) first in
          subst (λ (h : HostPath). Contains (map (host_path_of advert) paths) h) here (mapped (host_path_of advert) paths path of.one)
    ]

each_told : (advert : Advertised) (paths : List Path) → IsPlan advert paths → (path : Path) → Contains paths path → Contains (host_paths (control_bytes advert paths)) (host_path_of advert path)
each_told advert paths plan path one =
    let bytes = control_bytes advert paths in
    let of = path_of advert paths path plan one in
    let within : IsLane path.host = (of.lanes.first, omega (arith, of.lanes.some, of.lanes.last)) in
    subst (λ (h : HostPath). Contains (host_paths bytes) h) (path_told advert paths path plan of) (begun_is_told bytes path.host within (begun advert paths path plan of))

only_plans : (advert : Advertised) (paths : List Path) → IsPlan advert paths →
    All (λ lane. Contains (map (host_path_of advert) paths) (path_from (control_bytes advert paths) lane)) (filter (begins (control_bytes advert paths)) (range_with_len 1 8))
only_plans advert paths plan k d below =
    let starts = begins (control_bytes advert paths) in
    let lane = get_or (filter starts (range_with_len 1 8)) k d in
    beginner advert paths lane plan (All-filter starts IsLane (range_with_len 1 8) are_lanes k d below) (filter_passes starts (range_with_len 1 8) k d below)

pub told_paths : (advert : Advertised) (paths : List Path) → IsPlan advert paths → AreHostPathsOf advert paths (host_paths (control_bytes advert paths))
unfolding host_paths path_from
told_paths advert paths plan = record {
  each = λ k d below. each_told advert paths plan (get_or paths k d) (k, below, get_or_default paths k (get_or paths k d) d below);
  only = All-map (Contains (map (host_path_of advert) paths)) (path_from (control_bytes advert paths)) (filter (begins (control_bytes advert paths)) (range_with_len 1 8)) (only_plans advert paths plan);
  rising = pairs_mapped (λ (a b : HostPath). a.host < b.host) (path_from (control_bytes advert paths)) (filter (begins (control_bytes advert paths)) (range_with_len 1 8))
      (AllPairs-filter (λ k later. k < later) (begins (control_bytes advert paths)) (range_with_len 1 8) (row_rises 1 8));
}
