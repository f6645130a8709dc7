-- Lanes that agree are a path.
use Rattle.std.proofs.Common.{◌≡◌, ℕ, ◌+◌, ◌-◌, ◌≤◌, ◌||◌, ◌↔◌, Bool, true, false, List, None, IsTrue, not, count_by, get_or, filter, All, Any, refl, sym, ap, ◌∙◌, nat_eq, nat_le, nat_lt, arith}
use Rattle.std.proofs.lemmas.Bool.{and_from, and_parts, eq-eqb, eqb-true, false_from_ne_true, leb-true, lt-ltb, ltb-true, not-false}
use Rattle.std.proofs.lemmas.List.Elements.{All-filter, All-map, filter_passes}
use Rattle.std.proofs.lemmas.List.FromFn.{get_or-range_with_len, length-range_with_len}
use Rattle.std.proofs.lemmas.List.Sums.{AllPass-from_list_all}
use Rattle.std.specs.List.{range_with_len}
use Rattle.control_sets.specs.declared.control_byte.ControlByte.{ControlByte}
use Rattle.field_tables.specs.LaneSets.{IsLane}
use Rattle.control_sets.specs.HostPaths.{agree, all_agree, are_same, begins, control_at, first_lane, host_paths, is_reached, is_right, is_used, path_from, wrong_lane}
use Rattle.control_sets.specs.LanesOfPaths.{HasLane, IsOnLane, TakesWhatAgrees}
use Rattle.control_sets.proofs.Begun.{are_lanes, begun_is_told}
use Rattle.control_sets.proofs.Counts.{count_later, front_counted}
use Rattle.control_sets.proofs.Finding.{absent}

right_lane : (bytes : List ℕ) (lane : ℕ) → wrong_lane bytes ≡ None → IsLane lane → is_right bytes lane ≡ true
unfolding wrong_lane
right_lane bytes lane none (from, to) =
    let lanes = range_with_len 1 8 in
    let test : ℕ → Bool = λ lane. not (is_right bytes lane) in
    let here : get_or lanes (lane - 1) 0 ≡ lane = get_or-range_with_len 1 8 (lane - 1) 0 (omega (arith, from, to)) ∙ omega (arith, from) in
    not-false (is_right bytes lane) (ap test (sym here) ∙ absent test lanes (lane - 1) 0 none (omega (arith, from, to)))

pub implied : (a b : Bool) → (not a || b) ≡ true → a ≡ true → b ≡ true
implied true b e h = e
implied false b e h = cc

pub same_control : (control other : ControlByte) → are_same control other ≡ true → control ≡ other
same_control control other same =
    let parts = and_parts (nat_eq control.app_sel_code other.app_sel_code) (nat_eq control.data_path_id other.data_path_id) same in
    let code = eqb-true control.app_sel_code other.app_sel_code parts.0 in
    let id = eqb-true control.data_path_id other.data_path_id parts.1 in
    (λ i. record { app_sel_code = code i; data_path_id = id i })

pub same_itself : (control : ControlByte) → are_same control control ≡ true
same_itself control = and_from _ _ (eq-eqb control.app_sel_code control.app_sel_code refl) (eq-eqb control.data_path_id control.data_path_id refl)

-- a lane that is used: its path begins no later, and each lane in between is told the same
record IsReached (bytes : List ℕ) (lane : ℕ) : Type 0 where
  first : first_lane (control_at bytes lane) ≤ lane
  same : (other : ℕ) → first_lane (control_at bytes lane) ≤ other → other ≤ lane → control_at bytes other ≡ control_at bytes lane

reached : (bytes : List ℕ) (lane : ℕ) → wrong_lane bytes ≡ None → IsLane lane → is_used (control_at bytes lane) ≡ true → IsReached bytes lane
unfolding is_right
reached bytes lane none within used =
    let start = first_lane (control_at bytes lane) in
    let both : is_reached bytes lane ≡ true = implied (is_used (control_at bytes lane)) (is_reached bytes lane) (right_lane bytes lane none within) used in
    let parts = and_parts (nat_le start lane) (all_agree bytes start lane) both in
    let first = leb-true start lane parts.0 in
    let row = range_with_len start (lane + 1 - start) in
    record {
      first = first;
      same = λ other from to.
          let at : get_or row (other - start) 0 ≡ other = get_or-range_with_len start (lane + 1 - start) (other - start) 0 (omega (arith, from, to)) ∙ omega (arith, from) in
          let passes = AllPass-from_list_all (agree bytes lane) row parts.1 (other - start) 0 (omega (arith, from, to, length-range_with_len start (lane + 1 - start))) in
          sym (same_control (control_at bytes lane) (control_at bytes other) (ap (agree bytes lane) (sym at) ∙ passes));
    }

pub begun_parts : (bytes : List ℕ) (host : ℕ) → begins bytes host ≡ true → (is_used (control_at bytes host) ≡ true) × (first_lane (control_at bytes host) ≡ host)
begun_parts bytes host begun =
    let parts = and_parts (is_used (control_at bytes host)) (nat_eq (first_lane (control_at bytes host)) host) begun in
    (parts.0, eqb-true (first_lane (control_at bytes host)) host parts.1)

-- a lane that agrees with the first one of a path comes no earlier, and each lane in between agrees too
agreeing : (bytes : List ℕ) (host lane : ℕ) → wrong_lane bytes ≡ None → begins bytes host ≡ true → IsLane lane → agree bytes host lane ≡ true →
    (host ≤ lane) × ((other : ℕ) → host ≤ other → other ≤ lane → agree bytes host other ≡ true)
agreeing bytes host lane none begun within same =
    let parts = begun_parts bytes host begun in
    let told : control_at bytes host ≡ control_at bytes lane = same_control (control_at bytes host) (control_at bytes lane) same in
    let start : first_lane (control_at bytes lane) ≡ host = ap first_lane (sym told) ∙ parts.1 in
    let lane_reached = reached bytes lane none within (ap is_used (sym told) ∙ parts.0) in (
      omega (arith, lane_reached.first, start),
      λ other from to.
          (λ i. are_same (control_at bytes host) ((lane_reached.same other (omega (arith, from, start)) to ∙ sym told) i))
          ∙ same_itself (control_at bytes host),
    )

-- how many lanes agree, from the first one on
agrees_within : (bytes : List ℕ) (host lane : ℕ) → wrong_lane bytes ≡ None → IsLane host → begins bytes host ≡ true → IsLane lane →
    IsTrue (agree bytes host lane) ↔ HasLane (path_from bytes host) lane
unfolding path_from
agrees_within bytes host lane none (host_from, host_to) begun (lane_from, lane_to) =
    let test = agree bytes host in
    let from_host : (k : ℕ) → IsLane k → test k ≡ true → host ≤ k = λ k within yes. (agreeing bytes host k none begun within yes).0 in
    let count = count_by test (range_with_len 1 8) in
    let later : count ≡ count_by test (range_with_len host (9 - host)) =
    count_later test 1 8 host host_from (omega (arith, host_to))
    (λ k from before. false_from_ne_true (test k) (λ yes. omega (arith, from_host k (from, omega (arith, before, host_to)) yes, before))) in
    let front : host ≤ lane → test lane ≡ nat_lt lane (host + count) = λ from.
    front_counted test host (9 - host)
    (λ j k above order below yes. (agreeing bytes host k none begun (omega (arith, host_from, above, order), omega (arith, below)) yes).1 j above order)
    lane from (omega (arith, from, lane_to, host_to))
    ∙ ap (λ (n : ℕ). nat_lt lane (host + n)) (sym later) in (
      λ yes.
          let from = from_host lane (lane_from, lane_to) yes in
          (from, ltb-true lane (host + count) (sym (front from) ∙ yes)),
      λ (from, to). front from ∙ lt-ltb lane (host + count) to,
    )

pub lanes_taken : (bytes : List ℕ) → wrong_lane bytes ≡ None → All (TakesWhatAgrees bytes) (host_paths bytes)
unfolding host_paths path_from
lanes_taken bytes none =
    let starts = filter (begins bytes) (range_with_len 1 8) in
    All-map (TakesWhatAgrees bytes) (path_from bytes) starts (λ k d below lane within.
    let host = get_or starts k d in
    agrees_within bytes host lane none (All-filter (begins bytes) IsLane (range_with_len 1 8) are_lanes k d below) (filter_passes (begins bytes) (range_with_len 1 8) k d below) within)

pub lane_taken : (bytes : List ℕ) (lane : ℕ) → wrong_lane bytes ≡ None → IsLane lane → IsTrue (is_used (control_at bytes lane)) → Any (IsOnLane bytes lane) (host_paths bytes)
unfolding path_from
lane_taken bytes lane none (from, to) used =
    let host = first_lane (control_at bytes lane) in
    let one = reached bytes lane none (from, to) used in
    let told : control_at bytes host ≡ control_at bytes lane = one.same host (omega arith) one.first in
    let within : IsLane host = (omega arith, omega (arith, one.first, to)) in
    let begun : begins bytes host ≡ true = and_from _ _ (ap is_used told ∙ used) (eq-eqb (first_lane (control_at bytes host)) host (ap first_lane told)) in
    let same : agree bytes host lane ≡ true = (λ i. are_same (told i) (control_at bytes lane)) ∙ same_itself (control_at bytes lane) in
    let place = begun_is_told bytes host within begun in
    let lanes = (agrees_within bytes host lane none within begun (from, to)).0 same in
    (place.0, path_from bytes host, place.1, place.2, (ap (λ (control : ControlByte). control.app_sel_code) told, lanes))
