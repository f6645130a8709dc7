-- The path of the move that is chosen at a state keeps the state's gain, and is the lowest that does; where none is chosen, none does.
use Rattle.std.proofs.Common.{◌≡◌, ℕ, ◌+◌, ◌⊎◌, ◌&&◌, ◌||◌, Bool, true, false, List, [], ◌∷◌, Some, None, nat_lt, filter, find, refl, ap, ◌∙◌, sym, inl, inr}
use Rattle.std.specs.List.{All, AllByRecursion, AllPairs}
use Rattle.std.proofs.lemmas.Bool.{and_parts, both_ways, cases_Bool, eqb-true, eq-eqb, lt-ltb, ltb-true, or_cases, or_left, or_right}
use Rattle.std.proofs.lemmas.List.Elements.{All-filter, All-from_recursion, All-map, filter_passes, recursion_from_All}
use Rattle.lane_planner.proofs.Words.{Advertised, PathWeights, Path, Move, State, path_decision, paths_at, move_decision, move_of, moves_at, IsLower, path_weight, is_among, is_eligible}
use Rattle.plan_certificate.specs.Moves.{moves_of}
use Rattle.plan_certificate.proofs.Heaviest.{listed}
use Rattle.plan_certificate.proofs.KeptPaths.{among_listed, eligible_allowed, listed_among}
use Rattle.plan_certificate.proofs.Lists.{each_of_filter, each_of_map, found}
use Rattle.plan_certificate.proofs.MoveLists.{BeginsAt, each_begins}
use Rattle.plan_certificate.proofs.Ranks.{first_found, ranked_from_pairs}
use Rattle.lane_planner.specs.Tables.{gain_at, move_keeps_gain}
use Rattle.lane_planner.proofs.GainLaws.{Keeps, NoneKeeps}

-- ---- the moves are those of the paths that may begin at a host lane

record IsOfPath (advert : Advertised) (weights : PathWeights) (kept : List Path) (host : ℕ) (move : Move) : Type 0 where
  pub is : move ≡ move_of advert weights move.path
  pub begins : move.path.host ≡ host
  pub can : is_eligible advert kept move.path ≡ true

each_of_path : (advert : Advertised) (weights : PathWeights) (kept : List Path) (host : ℕ) → All (IsOfPath advert weights kept host) (moves_at advert weights kept host)
unfolding moves_of
each_of_path advert weights kept host =
    let test = is_eligible advert kept in
    let paths = paths_at advert host in
    let begin = All-filter test (BeginsAt host) paths (All-from_recursion (BeginsAt host) paths (each_begins advert host)) in
    All-map (IsOfPath advert weights kept host) (move_of advert weights) (filter test paths) (λ k d below. record { is = refl; begins = begin k d below; can = filter_passes test paths k d below })

-- what holds of each move holds of each such path's
of_each : (advert : Advertised) (weights : PathWeights) (kept : List Path) (host : ℕ) (P : Move → Type 0) → AllByRecursion P (moves_at advert weights kept host) → (path : Path) → path.host ≡ host → is_eligible advert kept path ≡ true → P (move_of advert weights path)
unfolding moves_of
of_each advert weights kept host P each path begins can =
    let of_paths = each_of_filter (λ (p : Path). P (move_of advert weights p)) (is_eligible advert kept) (paths_at advert host) (each_of_map P (move_of advert weights) (filter (is_eligible advert kept) (paths_at advert host)) each) in
    listed advert (λ (p : Path). is_eligible advert kept p ≡ true → P (move_of advert weights p)) path host begins (eligible_allowed advert kept path can) of_paths can

-- ---- a path keeps the gain if its move passes the test

keeps_from_test : (advert : Advertised) (weights : PathWeights) (kept : List Path) (table : List ℕ) (state : State) (path : Path) → path.host ≡ state.boundary + 1 → is_eligible advert kept path ≡ true → move_keeps_gain kept table state (move_of advert weights path) ≡ true → Keeps advert weights kept (gain_at table) state path
keeps_from_test advert weights kept table state path begins can passes =
    let parts = and_parts _ _ passes in
    let first = and_parts _ _ parts.0 in
    record {
      begins = begins;
      can = can;
      unused = first.0;
      of_use = elim (or_cases _ _ first.1) [
        | inl some ↦ inl (ltb-true 0 (path_weight weights path) some)
        | inr among ↦ inr (listed_among kept path among)
      ];
      leaves = eqb-true _ _ parts.1;
    }

test_from_keeps : (advert : Advertised) (weights : PathWeights) (kept : List Path) (table : List ℕ) (state : State) (path : Path) → Keeps advert weights kept (gain_at table) state path → move_keeps_gain kept table state (move_of advert weights path) ≡ true
test_from_keeps advert weights kept table state path keeps =
    let of_use : (nat_lt 0 (path_weight weights path) || is_among kept path) ≡ true = elim (keeps.of_use) [
      | inl some ↦ or_left _ _ (lt-ltb 0 (path_weight weights path) some)
      | inr held ↦ or_right _ _ (among_listed kept path held)
    ] in
    let unused = keeps.unused in
    let rest = eq-eqb _ _ keeps.leaves in
    (λ i. unused i && of_use i && rest i)

-- ---- the move that is found

-- no path that keeps the gain is lower
abbrev pub IsLowest : Advertised → PathWeights → List Path → List ℕ → State → Path → Type 0
IsLowest advert weights kept table state path = (other : Path) → Keeps advert weights kept (gain_at table) state other → (path ≡ other) ⊎ IsLower path other

abbrev IsLowerMove : Move → Move → Type 0
IsLowerMove one later = IsLower one.path later.path

pub record IsChosen (advert : Advertised) (weights : PathWeights) (kept : List Path) (table : List ℕ) (state : State) (move : Move) : Type 0 where
  pub keeps : Keeps advert weights kept (gain_at table) state move.path
  pub lowest : IsLowest advert weights kept table state move.path
  pub end : (move_decision state move).end ≡ (path_decision advert weights state move.path).end

-- the first of the rising moves that passes the test
pub chosen_move : (advert : Advertised) (weights : PathWeights) (kept : List Path) (table : List ℕ) (state : State) (move : Move) → AllPairs IsLowerMove (moves_at advert weights kept (state.boundary + 1)) → find (move_keeps_gain kept table state) (moves_at advert weights kept (state.boundary + 1)) ≡ Some move → IsChosen advert weights kept table state move
chosen_move advert weights kept table state move rising is =
    let host : ℕ = state.boundary + 1 in
    let moves = moves_at advert weights kept host in
    let test = move_keeps_gain kept table state in
    let Found : Move → Type 0 = λ one. test one ≡ true → (move ≡ one) ⊎ IsLowerMove move one in
    let one = found (IsOfPath advert weights kept host) test moves move is (recursion_from_All (IsOfPath advert weights kept host) moves (each_of_path advert weights kept host)) in
    record {
      keeps = keeps_from_test advert weights kept table state move.path one.0.begins one.0.can (ap test (sym one.0.is) ∙ one.1);
      lowest = λ other keeps. elim (of_each advert weights kept host Found (first_found IsLowerMove test moves move (ranked_from_pairs IsLowerMove moves rising) is) other keeps.begins keeps.can (test_from_keeps advert weights kept table state other keeps)) [
        | inl here ↦ inl (ap (λ (m : Move). m.path) here)
        | inr lower ↦ inr lower
      ];
      end = ap (λ (m : Move). (move_decision state m).end) one.0.is;
    }

-- ---- none is found

pub none_passes : {X : Type 0} (test : X → Bool) (xs : List X) → find test xs ≡ None → AllByRecursion (λ x. test x ≡ false) xs
none_passes test [] is = tt
none_passes {X} test (y ∷ xs) is =
    elim (cases_Bool (test y)) [
      | inl passes ↦ absurd (let one = rw passes at is in cc)
      | inr fails ↦ (fails, none_passes test xs (rw fails at is))
    ]

pub none_keeps : (advert : Advertised) (weights : PathWeights) (kept : List Path) (table : List ℕ) (state : State) → find (move_keeps_gain kept table state) (moves_at advert weights kept (state.boundary + 1)) ≡ None → NoneKeeps advert weights kept (gain_at table) state
none_keeps advert weights kept table state is path keeps =
    let test = move_keeps_gain kept table state in
    let host : ℕ = state.boundary + 1 in
    let fails = of_each advert weights kept host (λ (move : Move). test move ≡ false) (none_passes test (moves_at advert weights kept host) is) path keeps.begins keeps.can in
    both_ways (test (move_of advert weights path)) fails (test_from_keeps advert weights kept table state path keeps)
