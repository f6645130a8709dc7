-- Gains and decisions: a gain covers each decision; where no path that weighs something or is kept keeps it, the free lane does.
use Rattle.std.proofs.Common.{◌≡◌, ◌⊎◌, ℕ, ◌+◌, ◌-◌, ◌<◌, ◌≤◌, true, List, [], ◌∷◌, subst, ap, inl, inr, arith, zero, suc, false, refl, sym, ◌∙◌}
use Rattle.std.specs.List.{All, Contains}
use Rattle.std.proofs.lemmas.Bool.{cases_Bool, cases_lt}
use Rattle.std.proofs.lemmas.List.Elements.{All-contains}
use Rattle.std.proofs.lemmas.List.Sums.{sum_by-cons}
use Rattle.field_tables.specs.LaneSets.{is_disjoint, Lanes}
use Rattle.lane_planner.proofs.Words.{Advertised, PathWeights, Path, State, Decision, free_decision, path_decision, decisions_from, media_lanes, path_weight, app_of, is_among, is_eligible, may_stay_free}
use Rattle.plan_certificate.proofs.Heaviest.{IsPreserved, LeavesEnough, allowed}
use Rattle.plan_certificate.proofs.KeptPaths.{eligible_allowed, listed_among}
use Rattle.plan_certificate.proofs.Lists.{each_contained, map_each}
use Rattle.lane_planner.specs.FirstBest.{IsOfUse}
use Rattle.lane_planner.specs.Gains.{Follow, IsGain, IsLimit, CanBeGained, decisions_weight}
use Rattle.lane_planner.proofs.KeptLanes.{has_lane, lane_of_other}
use Rattle.lane_planner.proofs.DecisionKinds.{decision_is, listed_decisions}
use Rattle.plan_certificate.proofs.LaneRuns.{disjoint_union}
use Rattle.lane_planner.proofs.DisjointLanes.{disjoint_parts}

abbrev weight : Decision → ℕ
weight decision = decision.weight

-- ---- fewer used media lanes

-- what is apart from the first lanes is apart from the second
abbrev HasFewer : Lanes → Lanes → Type 0
HasFewer used fewer = (others : Lanes) → is_disjoint others used ≡ true → is_disjoint others fewer ≡ true

as_much : (advert : Advertised) (weights : PathWeights) (kept : List Path) (decisions : List Decision) (state freer : State) → state.boundary ≡ freer.boundary → HasFewer state.used freer.used → Follow advert weights kept state decisions → CanBeGained advert weights kept freer (decisions_weight decisions)
as_much advert weights kept [] state freer at fewer follow = ([], tt, refl)
as_much advert weights kept (decision ∷ decisions) state freer at fewer follow =
    let is = decision_is advert weights kept state decision follow.0 in
    let each = listed_decisions advert weights kept freer (omega (arith, at, is.below)) in
    let total = sum_by-cons weight decision decisions in
    elim (is.kind) [
      | inl free ↦
          let may : may_stay_free advert kept (freer.boundary + 1) ≡ true = ap (λ (n : ℕ). may_stay_free advert kept (n + 1)) (sym at) ∙ free.1 in
          let next = subst (λ (s : State). Follow advert weights kept s decisions) (ap (λ (s : Decision). s.end) free.0) follow.1 in
          let rest = as_much advert weights kept decisions (free_decision state).end (free_decision freer).end (omega (arith, at)) fewer next in
          (free_decision freer ∷ rest.0, (each.0 may, rest.1), omega (arith, rest.2, total, sum_by-cons weight (free_decision freer) rest.0, ap weight free.0))
      | inr taken ↦
          let path : Path = taken.path in
          let lanes = media_lanes advert path in
          let next = subst (λ (s : State). Follow advert weights kept s decisions) (ap (λ (s : Decision). s.end) taken.is) follow.1 in
          let fewer_after : HasFewer (path_decision advert weights state path).end.used (path_decision advert weights freer path).end.used =
          (λ others none. disjoint_union others freer.used lanes (fewer others (disjoint_parts others state.used lanes none).0) (disjoint_parts others state.used lanes none).1) in
          let rest = as_much advert weights kept decisions (path_decision advert weights state path).end (path_decision advert weights freer path).end (omega (arith, at)) fewer_after next in
          let contains = each.1 path (omega (arith, taken.begins, at)) taken.can (fewer lanes taken.unused) in
          (path_decision advert weights freer path ∷ rest.0, (contains, rest.1), omega (arith, rest.2, total, sum_by-cons weight (path_decision advert weights freer path) rest.0, ap weight taken.is))
    ]

-- ---- lanes that stay free, one after another

free_run : (advert : Advertised) (weights : PathWeights) (kept : List Path) (count : ℕ) (state : State) (gain : ℕ) → state.boundary + count ≤ 8 → ((lane : ℕ) → state.boundary < lane → lane ≤ state.boundary + count → may_stay_free advert kept lane ≡ true)
    → CanBeGained advert weights kept (record { boundary = state.boundary + count; used = state.used }) gain → CanBeGained advert weights kept state gain
free_run advert weights kept zero state gain within free gained =
    let same : state.boundary + zero ≡ state.boundary = omega arith in
    subst (λ (n : ℕ). CanBeGained advert weights kept (record { boundary = n; used = state.used }) gain) same gained
free_run advert weights kept (suc count) state gain within free gained =
    let same : state.boundary + suc count ≡ state.boundary + 1 + count = omega arith in
    let after = subst (λ (n : ℕ). CanBeGained advert weights kept (record { boundary = n; used = state.used }) gain) same gained in
    let rest = free_run advert weights kept count (free_decision state).end gain (omega (arith, within)) (λ lane past upto. free lane (omega (arith, past)) (omega (arith, upto))) after in
    let each = listed_decisions advert weights kept state (omega (arith, within)) in
    (free_decision state ∷ rest.0, (each.0 (free (state.boundary + 1) (omega arith) (omega arith)), rest.1), omega (arith, rest.2, sum_by-cons weight (free_decision state) rest.0))

-- ---- in place of a path

pub after_path_free : (advert : Advertised) (weights : PathWeights) (kept : List Path) (state : State) (taken : Path) (free : ℕ) → is_eligible advert kept taken ≡ true → is_among kept taken ≡ false → taken.host ≡ state.boundary + 1 → IsGain advert weights kept (free_decision state).end free
    → (decisions : List Decision) → Follow advert weights kept (path_decision advert weights state taken).end decisions → decisions_weight decisions ≤ free
after_path_free advert weights kept state taken free can not_kept begins gain decisions follow =
    let lanes = allowed advert taken (eligible_allowed advert kept taken can) in
    let count : ℕ = (app_of advert taken).host_lanes - 1 in
    let Free : State = (free_decision state).end in
    let Past : State = record { boundary = Free.boundary + count; used = Free.used } in
    let much = as_much advert weights kept decisions (path_decision advert weights state taken).end Past (omega (arith, lanes.host_some)) (λ others none. (disjoint_parts others state.used (media_lanes advert taken) none).0) follow in
    let run = free_run advert weights kept count Free (decisions_weight decisions) (omega (arith, lanes.host_some, lanes.host_to, begins))
    (λ lane past upto. lane_of_other advert kept taken lane can not_kept (has_lane advert taken lane (omega (arith, past, begins)) (omega (arith, upto, begins, lanes.host_some)))) much in
    let most = gain.greatest run.0 run.1 in
    omega (arith, most, run.2)

-- ---- limits

pub limit_preserved : (advert : Advertised) (weights : PathWeights) (kept : List Path) → IsPreserved advert weights kept (IsLimit advert weights kept)
limit_preserved advert weights kept state potential limit =
    let decisions = decisions_from advert weights kept state in
    map_each (Contains decisions) (LeavesEnough (IsLimit advert weights kept) potential) decisions
    (λ decision contains.
    let alone = limit (decision ∷ []) (contains, tt) in
    let fits : decision.weight ≤ potential = omega (arith, alone, sum_by-cons weight decision []) in
    let later : IsLimit advert weights kept decision.end (potential - decision.weight) = λ more follow. omega (arith, fits, limit (decision ∷ more) (contains, follow), sum_by-cons weight decision more) in
    (potential - decision.weight, later, omega (arith, fits)))
    (each_contained decisions)

-- a decision and what can be gained after it is no more than the gain
pub covers_decision : (advert : Advertised) (weights : PathWeights) (kept : List Path) (state : State) (gain later : ℕ) (decision : Decision) → IsGain advert weights kept state gain → IsGain advert weights kept decision.end later → Contains (decisions_from advert weights kept state) decision → decision.weight + later ≤ gain
covers_decision advert weights kept state gain later decision is is_later contains =
    let run = is_later.gained in
    omega (arith, run.2, is.greatest (decision ∷ run.0) (contains, run.1), sum_by-cons weight decision run.0)

-- what can be gained after each decision
abbrev pub GainsAfter : Advertised → PathWeights → List Path → (State → ℕ) → State → Type 0
GainsAfter advert weights kept gain state = (decision : Decision) → Contains (decisions_from advert weights kept state) decision → IsGain advert weights kept decision.end (gain decision.end)

-- what covers each decision and what can be gained after it is a limit
pub limit_of : (advert : Advertised) (weights : PathWeights) (kept : List Path) (state : State) (most : ℕ) (gain : State → ℕ) → GainsAfter advert weights kept gain state → All (λ decision. decision.weight + gain decision.end ≤ most) (decisions_from advert weights kept state)
    → IsLimit advert weights kept state most
limit_of advert weights kept state most gain gains covered [] follow = omega arith
limit_of advert weights kept state most gain gains covered (decision ∷ decisions) follow =
    let covers = All-contains (λ (s : Decision). s.weight + gain s.end ≤ most) (decisions_from advert weights kept state) decision covered follow.0 in
    omega (arith, covers, (gains decision follow.0).greatest decisions follow.1, sum_by-cons weight decision decisions)

-- ---- what keeps the gain

-- what the state's gain is, and those after its decisions
pub record KnowsGains (advert : Advertised) (weights : PathWeights) (kept : List Path) (gain : State → ℕ) (state : State) : Type 0 where
  pub below : state.boundary < 8
  pub here : IsGain advert weights kept state (gain state)
  pub after : GainsAfter advert weights kept gain state

-- a path that fits, and weighs something or is kept, leaves the rest of the gain
pub record Keeps (advert : Advertised) (weights : PathWeights) (kept : List Path) (gain : State → ℕ) (state : State) (path : Path) : Type 0 where
  pub begins : path.host ≡ state.boundary + 1
  pub can : is_eligible advert kept path ≡ true
  pub unused : is_disjoint (media_lanes advert path) state.used ≡ true
  pub of_use : IsOfUse weights kept path
  pub leaves : path_weight weights path + gain (path_decision advert weights state path).end ≡ gain state

abbrev pub NoneKeeps : Advertised → PathWeights → List Path → (State → ℕ) → State → Type 0
NoneKeeps advert weights kept gain state = (path : Path) → Keeps advert weights kept gain state path → ⊥

-- unless nothing can be gained, a decision reaches the gain together with what can be gained after it
attained : (advert : Advertised) (weights : PathWeights) (kept : List Path) (gain : State → ℕ) (state : State) → KnowsGains advert weights kept gain state → CanBeGained advert weights kept state (gain state)
    → (gain state ≡ 0) ⊎ ((decision : Decision) × Contains (decisions_from advert weights kept state) decision × (decision.weight + gain decision.end ≡ gain state))
attained advert weights kept gain state knows ([], follow, is) = inl (sym is)
attained advert weights kept gain state knows (decision ∷ decisions, follow, is) =
    let rest = knows.after decision follow.0 in
    let covers = covers_decision advert weights kept state (gain state) (gain decision.end) decision knows.here rest follow.0 in
    inr (decision, follow.0, omega (arith, is, rest.greatest decisions follow.1, covers, sum_by-cons weight decision decisions))

-- where no path keeps the gain, either nothing can be gained, or the lane may stay free, and then the gain can be had
pub had_after_free : (advert : Advertised) (weights : PathWeights) (kept : List Path) (gain : State → ℕ) (state : State) → KnowsGains advert weights kept gain state → NoneKeeps advert weights kept gain state
    → (gain state ≡ 0) ⊎ ((may_stay_free advert kept (state.boundary + 1) ≡ true) × (gain state ≤ gain (free_decision state).end))
had_after_free advert weights kept gain state knows none =
    elim (attained advert weights kept gain state knows knows.here.gained) [
      | inl nothing ↦ inl nothing
      | inr by ↦ elim ((decision_is advert weights kept state by.0 by.1).kind) [
        | inl free ↦ inr (free.1, omega (arith, by.2, ap weight free.0, ap (λ (s : Decision). gain s.end) free.0))
        | inr taken ↦
            let path : Path = taken.path in
            let leaves : path_weight weights path + gain (path_decision advert weights state path).end ≡ gain state = omega (arith, by.2, ap weight taken.is, ap (λ (s : Decision). gain s.end) taken.is) in
            let not_of_use = λ (worth : IsOfUse weights kept path). none path (record { begins = taken.begins; can = taken.can; unused = taken.unused; of_use = worth; leaves = leaves }) in
            elim (cases_lt 0 (path_weight weights path)) [
              | inl some ↦ absurd (not_of_use (inl some))
              | inr nothing ↦ elim (cases_Bool (is_among kept path)) [
                | inl among ↦ absurd (not_of_use (inr (listed_among kept path among)))
                | inr not_kept ↦
                    let lanes = allowed advert path (eligible_allowed advert kept path taken.can) in
                    let has = has_lane advert path (state.boundary + 1) (omega (arith, taken.begins)) (omega (arith, taken.begins, lanes.host_some)) in
                    let may = lane_of_other advert kept path (state.boundary + 1) taken.can not_kept has in
                    let later = knows.after (free_decision state) ((listed_decisions advert weights kept state knows.below).0 may) in
                    let run = subst (λ (s : State). CanBeGained advert weights kept s (gain s)) (ap (λ (s : Decision). s.end) taken.is) (knows.after by.0 by.1).gained in
                    let bound = after_path_free advert weights kept state path (gain (free_decision state).end) taken.can not_kept taken.begins later run.0 run.1 in
                    inr (may, omega (arith, leaves, nothing, bound, run.2))
              ]
            ]
      ]
    ]
