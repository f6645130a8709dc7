-- What the decisions from a state are: the free lane's, and those of paths that fit.
use Rattle.std.proofs.Common.{◌≡◌, ◌+◌, ◌*◌, ◌<◌, ◌⊎◌, Bool, true, List, [], ◌∷◌, ◌++◌, filter, nat_lt, get_or, refl, inl, inr, arith, ℕ, ◌%◌, ◌≤◌, ap}
use Rattle.std.specs.List.{All, Contains}
use Rattle.std.proofs.lemmas.Bool.{and_parts, cond_both, ltb-true}
use Rattle.std.proofs.lemmas.List.Elements.{All-append, All-cons, All-contains, All-filter, All-from_recursion, All-map, All-nil, All-weaker, filter_passes}
use Rattle.field_tables.specs.LaneSets.{is_disjoint}
use Rattle.lane_planner.proofs.Words.{Advertised, PathWeights, Path, State, Decision, start, fits, free_decision, free_decisions, path_decision, paths_at, state_at, state_place, media_lanes, is_eligible, may_stay_free}
use Rattle.plan_certificate.specs.States.{decisions_from, path_decisions}
use Rattle.plan_certificate.proofs.Lists.{each_contained}
use Rattle.plan_certificate.proofs.MoveLists.{BeginsAt, each_begins}
use Rattle.plan_certificate.proofs.ByteLanes.{IsByte, each_end_is_byte}
use Rattle.plan_certificate.proofs.Heaviest.{allowed, each_decision}
use Rattle.plan_certificate.proofs.KeptPaths.{eligible_allowed}

pub record OfPath (advert : Advertised) (weights : PathWeights) (kept : List Path) (state : State) (decision : Decision) : Type 0 where
  pub path : Path
  pub begins : path.host ≡ state.boundary + 1
  pub can : is_eligible advert kept path ≡ true
  pub unused : is_disjoint (media_lanes advert path) state.used ≡ true
  pub is : decision ≡ path_decision advert weights state path

-- the free lane's, where it may stay free, or that of such a path
pub record IsDecision (advert : Advertised) (weights : PathWeights) (kept : List Path) (state : State) (decision : Decision) : Type 0 where
  pub below : state.boundary < 8
  pub kind : ((decision ≡ free_decision state) × (may_stay_free advert kept (state.boundary + 1) ≡ true)) ⊎ OfPath advert weights kept state decision

-- ---- the decisions

-- they are listed
pub listed_decisions : (advert : Advertised) (weights : PathWeights) (kept : List Path) (state : State) → state.boundary < 8
    → (may_stay_free advert kept (state.boundary + 1) ≡ true → Contains (decisions_from advert weights kept state) (free_decision state))
    × ((path : Path) → path.host ≡ state.boundary + 1 → is_eligible advert kept path ≡ true → is_disjoint (media_lanes advert path) state.used ≡ true → Contains (decisions_from advert weights kept state) (path_decision advert weights state path))
listed_decisions advert weights kept state below =
    let all = decisions_from advert weights kept state in
    each_decision advert weights kept (Contains all) state below (each_contained all)

path_decisions_are : (advert : Advertised) (weights : PathWeights) (kept : List Path) (state : State) → All (OfPath advert weights kept state) (path_decisions advert weights kept state (paths_at advert (state.boundary + 1)))
unfolding path_decisions
path_decisions_are advert weights kept state =
    let test = fits advert kept state in
    let paths = paths_at advert (state.boundary + 1) in
    let begin = All-filter test (BeginsAt (state.boundary + 1)) paths (All-from_recursion (BeginsAt (state.boundary + 1)) paths (each_begins advert (state.boundary + 1))) in
    All-map (OfPath advert weights kept state) (path_decision advert weights state) (filter test paths) (λ k d below.
    let parts = and_parts _ _ (filter_passes test paths k d below) in
    record { path = get_or (filter test paths) k d; begins = begin k d below; can = parts.0; unused = parts.1; is = refl })

pub decision_is : (advert : Advertised) (weights : PathWeights) (kept : List Path) (state : State) (decision : Decision) → Contains (decisions_from advert weights kept state) decision → IsDecision advert weights kept state decision
unfolding decisions_from
decision_is advert weights kept state decision =
    let Is = IsDecision advert weights kept state in
    let may : Bool = may_stay_free advert kept (state.boundary + 1) in
    let of_paths = path_decisions advert weights kept state (paths_at advert (state.boundary + 1)) in
    All-contains Is (decisions_from advert weights kept state) decision (cond_both (nat_lt state.boundary 8) (free_decisions may state ++ of_paths) [] (All Is)
    (λ is.
    let below = ltb-true state.boundary 8 is in
    All-append Is (free_decisions may state) of_paths
    (cond_both may (free_decision state ∷ []) [] (All Is) (λ free. All-cons Is (free_decision state) [] (record { below = below; kind = inl (refl, free) }) (All-nil Is)) (λ taken. All-nil Is))
    (All-weaker (OfPath advert weights kept state) Is (λ decision h. record { below = below; kind = inr h }) of_paths (path_decisions_are advert weights kept state)))
    (λ fails. All-nil Is))

pub at_is_byte : (place : ℕ) → IsByte (state_at place).used
at_is_byte place = record { byte = place % 256; below = omega arith; is = refl }

-- the place of a state tells it, and is that of the start or past the first boundary
pub record HasPlace (state : State) : Type 0 where
  pub within : state.boundary ≤ 8
  pub is_byte : IsByte state.used
  pub later : (state ≡ start) ⊎ (0 < state.boundary)

-- a decision leads past the boundary, and to a state that has a place
pub ends_later : (advert : Advertised) (weights : PathWeights) (kept : List Path) (state : State) (decision : Decision) → IsByte state.used → Contains (decisions_from advert weights kept state) decision → (state.boundary < decision.end.boundary) × HasPlace decision.end
ends_later advert weights kept state decision is_byte contains =
    let decisions = decisions_from advert weights kept state in
    let EndsAtByte : Decision → Type 0 = λ s. IsByte s.end.used in
    let byte = All-contains EndsAtByte decisions decision (All-from_recursion EndsAtByte decisions (each_end_is_byte advert weights kept state is_byte)) contains in
    let is = decision_is advert weights kept state decision contains in
    let Later : ℕ → Type 0 = λ end. (state.boundary < end) × (end ≤ 8) in
    let later : Later decision.end.boundary = elim (is.kind) [
      | inl free ↦ let end = ap (λ (s : Decision). s.end.boundary) free.0 in (omega (arith, end), omega (arith, end, is.below))
      | inr taken ↦
          let end = ap (λ (s : Decision). s.end.boundary) taken.is in
          let lanes = allowed advert taken.path (eligible_allowed advert kept taken.path taken.can) in
          (omega (arith, end, lanes.host_some), omega (arith, end, taken.begins, lanes.host_to))
    ] in
    (later.0, record { within = later.1; is_byte = byte; later = inr (omega (arith, later.0)) })

-- the place of a state with a higher boundary is past those at this one
pub place_past : (boundary : ℕ) (state : State) → boundary < state.boundary → 256 * boundary + 256 ≤ state_place state
place_past boundary state past = omega (arith, past)
