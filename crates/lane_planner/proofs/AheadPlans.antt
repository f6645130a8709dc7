-- A plan beside another that takes the same paths up to a state: what is left of it comes after the state. Why the plan that is read off
-- is the first: each other plan of the whole gain agrees with it so far, or comes later.
use Rattle.std.proofs.Common.{◌≡◌, ◌≢◌, ℕ, ◌+◌, ◌<◌, ◌≤◌, ◌⊎◌, true, List, [], ◌∷◌, ◌++◌, sym, subst, ◌∙◌, inl, inr, arith, ap}
use Rattle.std.specs.List.{All, AllByRecursion, Contains}
use Rattle.std.proofs.lemmas.List.Elements.{All-contains, All-from_recursion, Contains-append_left, Contains-push, All-push, Contains-push_cases}
use Rattle.std.proofs.lemmas.Bool.{both_ways, cases_Bool}
use Rattle.lane_planner.proofs.Words.{Advertised, PathWeights, Path, State, start, free_decision, path_decision, is_allowed, path_weight, IsAdmissible, Keeps, plan_weight, is_among}
use Rattle.plan_certificate.proofs.Heaviest.{ComesOrCame, IsLater, after_path, all_later, allowed, bounded, come_free, come_taken, kept_come, stay_later, lanes_later}
use Rattle.plan_certificate.proofs.KeptPaths.{same_or_apart, among_listed, listed_among}
use Rattle.plan_certificate.proofs.Lists.{each_contained, each_pair, map_each}
use Rattle.plan_certificate.proofs.PathTakenOut.{AreApart, IsApart, Picked, from_pairs, pick}
use Rattle.lane_planner.specs.Gains.{IsLimit}
use Rattle.lane_planner.specs.FirstBest.{AgreeOn, ComesBefore, IsOfUse, IsSameOrBefore}
use Rattle.lane_planner.specs.Tables.{IsPlanOf, gain_at}
use Rattle.lane_planner.proofs.GainLaws.{limit_preserved, Keeps as KeepsGain, KnowsGains, NoneKeeps, covers_decision}
use Rattle.lane_planner.proofs.KeptLanes.{has_lane, not_both}
use Rattle.lane_planner.proofs.LaterPaths.{Stands, weight_more}
use Rattle.lane_planner.proofs.ChosenPaths.{IsLowest}
use Rattle.lane_planner.proofs.DecisionKinds.{listed_decisions}

-- its paths are those that were taken, and others that may still come
pub record Ahead (advert : Advertised) (weights : PathWeights) (kept : List Path) (state : State) (taken others : List Path) : Type 0 where
  pub rest : List Path
  pub split : (path : Path) → Contains others path → Contains taken path ⊎ Contains rest path
  pub inside : AllByRecursion (Contains others) rest
  pub later : AllByRecursion (IsLater advert kept state) rest
  pub apart : AreApart advert rest
  pub come : AllByRecursion (ComesOrCame advert state rest) kept
  pub weighs : plan_weight weights others ≡ plan_weight weights taken + plan_weight weights rest

pub ahead_at_start : (advert : Advertised) (weights : PathWeights) (kept others : List Path) → IsAdmissible advert others → Keeps kept others → Ahead advert weights kept start [] others
ahead_at_start advert weights kept others plan keeps = record {
  rest = others;
  split = λ path held. inr held;
  inside = each_contained others;
  later = all_later advert kept others plan keeps;
  apart = from_pairs advert others plan.apart;
  come = kept_come advert kept others keeps;
  weighs = omega arith;
}

-- those of its paths that begin past the state are left, and may still come
left_past : (advert : Advertised) (weights : PathWeights) (kept : List Path) (state : State) (taken others : List Path) (path : Path) → All (Stands advert state) taken → (is : Ahead advert weights kept state taken others) → Contains others path → state.boundary < path.host → Contains is.rest path
left_past advert weights kept state taken others path stand is held past =
    elim (is.split path held) [
      | inl so_far ↦
          let stands = All-contains (Stands advert state) taken path stand so_far in
          absurd (omega (arith, stands.before, past, (allowed advert path stands.can).host_some))
      | inr left ↦ left
    ]

pub rest_later : (advert : Advertised) (weights : PathWeights) (kept : List Path) (state : State) (taken others : List Path) (path : Path) → (is : Ahead advert weights kept state taken others) → Contains is.rest path → IsLater advert kept state path
rest_later advert weights kept state taken others path is = All-contains (IsLater advert kept state) is.rest path (All-from_recursion (IsLater advert kept state) is.rest is.later)

pub left_later : (advert : Advertised) (weights : PathWeights) (kept : List Path) (state : State) (taken others : List Path) (path : Path) → All (Stands advert state) taken → Ahead advert weights kept state taken others → Contains others path → state.boundary < path.host → IsLater advert kept state path
left_later advert weights kept state taken others path stand is held past = rest_later advert weights kept state taken others path is (left_past advert weights kept state taken others path stand is held past)

-- what it weighs at most
pub ahead_bounded : (advert : Advertised) (weights : PathWeights) (kept : List Path) (state : State) (taken others : List Path) (gain : ℕ) → IsLimit advert weights kept state gain → Ahead advert weights kept state taken others → plan_weight weights others ≤ plan_weight weights taken + gain
ahead_bounded advert weights kept state taken others gain limit is =
    let most = bounded advert weights kept (IsLimit advert weights kept) (limit_preserved advert weights kept) 8 state gain (omega arith) limit is.rest is.apart is.later is.come in
    omega (arith, most, is.weighs)

-- ---- none of its paths begins at the next host lane

pub ahead_free : (advert : Advertised) (weights : PathWeights) (kept : List Path) (state : State) (taken others : List Path) → Ahead advert weights kept state taken others → ((path : Path) → Contains others path → path.host ≢ state.boundary + 1) → Ahead advert weights kept (free_decision state).end taken others
ahead_free advert weights kept state taken others is elsewhere =
    let Elsewhere : Path → Type 0 = λ path. path.host ≢ state.boundary + 1 in
    let away = map_each (Contains others) Elsewhere is.rest elsewhere is.inside in
    record {
      rest = is.rest;
      split = is.split;
      inside = is.inside;
      later = stay_later advert kept state is.rest is.later away;
      apart = is.apart;
      come = come_free advert kept state is.rest is.come;
      weighs = is.weighs;
    }

-- ---- one of them does

-- two paths of a plan that begin at the same host lane
pub same_at_host : (advert : Advertised) (paths : List Path) (path other : Path) → IsAdmissible advert paths → Contains paths path → Contains paths other → other.host ≡ path.host → other ≡ path
same_at_host advert paths path other plan held also same =
    elim (same_or_apart advert paths path other plan.apart held also) [
      | inl is ↦ is
      | inr apart ↦
          let may : Path → Type 0 = λ p. is_allowed advert p ≡ true in
          let one = allowed advert path (All-contains may paths path plan.allowed held) in
          let two = allowed advert other (All-contains may paths other plan.allowed also) in
          let has = has_lane advert path path.host (omega arith) (omega (arith, one.host_some)) in
          let has_too = has_lane advert other path.host (omega (arith, same)) (omega (arith, same, two.host_some)) in
          absurd (not_both advert other path path.host apart has_too has)
    ]

took : (advert : Advertised) (weights : PathWeights) (kept : List Path) (state : State) (taken others : List Path) (is : Ahead advert weights kept state taken others) (picked : Picked advert (path_weight weights) is.rest (state.boundary + 1))
    → Ahead advert weights kept (path_decision advert weights state picked.path).end (taken ++ picked.path ∷ []) others
took advert weights kept state taken others is picked =
    let path : Path = picked.path in
    let End : State = (path_decision advert weights state path).end in
    let parts = picked.each (IsLater advert kept state) is.later in
    let Split : Path → Type 0 = λ other. Contains (taken ++ path ∷ []) other ⊎ Contains picked.rest other in
    let split = picked.back Split (inl (Contains-push taken path), map_each (Contains picked.rest) Split picked.rest (λ other held. inr held) (each_contained picked.rest)) in
    record {
      rest = picked.rest;
      split = λ other held. elim (is.split other held) [
        | inl so_far ↦ inl (Contains-append_left taken (path ∷ []) other so_far)
        | inr left ↦ All-contains Split is.rest other (All-from_recursion Split is.rest split) left
      ];
      inside = (picked.each (Contains others) is.inside).1;
      later = each_pair (IsLater advert kept state) (IsApart advert path) (IsLater advert kept End) picked.rest
          (λ other is_later apart. after_path advert weights kept state path other parts.0 picked.begins is_later apart) parts.1 picked.path_apart;
      apart = picked.rest_apart;
      come = come_taken advert weights (path_weight weights) kept state is.rest picked is.come;
      weighs = omega (arith, is.weighs, picked.weighs, weight_more advert weights taken path);
    }

pub ahead_path : (advert : Advertised) (weights : PathWeights) (kept : List Path) (state : State) (taken others : List Path) (path : Path) → IsAdmissible advert others → All (Stands advert state) taken → Ahead advert weights kept state taken others → Contains others path → path.host ≡ state.boundary + 1
    → Ahead advert weights kept (path_decision advert weights state path).end (taken ++ path ∷ []) others
ahead_path advert weights kept state taken others path plan stand is held begins =
    elim (pick advert (path_weight weights) is.rest (state.boundary + 1) is.apart) [
      | inl picked ↦
          let same = same_at_host advert others path picked.path plan held (picked.each (Contains others) is.inside).0 (picked.begins ∙ sym begins) in
          let Next : Path → Type 0 = λ p. Ahead advert weights kept (path_decision advert weights state p).end (taken ++ p ∷ []) others in
          subst Next same (took advert weights kept state taken others is picked)
      | inr elsewhere ↦
          let Elsewhere : Path → Type 0 = λ other. other.host ≢ state.boundary + 1 in
          let left = left_past advert weights kept state taken others path stand is held (omega (arith, begins)) in
          absurd (All-contains Elsewhere is.rest path (All-from_recursion Elsewhere is.rest elsewhere) left begins)
    ]

-- ---- plans that agree, or come later

-- the paths so far are in the other plan, and what else it has may still come
pub record Agrees (advert : Advertised) (weights : PathWeights) (kept : List Path) (state : State) (paths others : List Path) : Type 0 where
  pub ahead : Ahead advert weights kept state paths others
  pub taken : All (Contains others) paths

abbrev pub AgreesOrLater : Advertised → PathWeights → List Path → State → List Path → List Path → Type 0
AgreesOrLater advert weights kept state paths others = Agrees advert weights kept state paths others ⊎ ComesBefore paths others

-- the plans have the same paths, but for those that may still come
agree_on : (advert : Advertised) (weights : PathWeights) (kept : List Path) (state : State) (paths others : List Path) → Agrees advert weights kept state paths others → (path : Path) → (IsLater advert kept state path → ⊥) → AgreeOn paths others path
agree_on advert weights kept state paths others agrees path never = (
  (λ held. All-contains (Contains others) paths path agrees.taken held),
  (λ held. elim (agrees.ahead.split path held) [
    | inl so_far ↦ so_far
    | inr left ↦ absurd (never (rest_later advert weights kept state paths others path agrees.ahead left))
  ]),
)

-- one more path changes nothing at lower host lanes
agree_below : (paths others : List Path) (path lower : Path) → lower.host < path.host → AgreeOn paths others lower → AgreeOn (paths ++ path ∷ []) others lower
agree_below paths others path lower is_below agree = (
  (λ held. elim (Contains-push_cases paths path lower held) [
    | inl so_far ↦ agree.0 so_far
    | inr same ↦ absurd (omega (arith, is_below, ap (λ (p : Path). p.host) same))
  ]),
  (λ held. Contains-append_left paths (path ∷ []) lower (agree.1 held)),
)

-- ---- one decision further, of plans that weigh the state's gain more than the paths so far

module _ (advert : Advertised) (weights : PathWeights) (kept : List Path) (table : List ℕ) (state : State) (paths others : List Path) (gains : KnowsGains advert weights kept (gain_at table) state) (stand : All (Stands advert state) paths) (plan : IsPlanOf advert weights kept (plan_weight weights paths + gain_at table state) others) where
  -- a path that the other plan begins at the next host lane keeps the gain
  keeps_gain : Ahead advert weights kept state paths others → (path : Path) → Contains others path → path.host ≡ state.boundary + 1 → KeepsGain advert weights kept (gain_at table) state path
  keeps_gain ahead path held begins =
      let later = left_later advert weights kept state paths others path stand ahead held (omega (arith, begins)) in
      let decision = path_decision advert weights state path in
      let listed = (listed_decisions advert weights kept state gains.below).1 path begins later.can later.unused in
      let after = gains.after decision listed in
      let covers = covers_decision advert weights kept state (gain_at table state) (gain_at table decision.end) decision gains.here after listed in
      let ahead_after = ahead_path advert weights kept state paths others path plan.admissible stand ahead held begins in
      let most = ahead_bounded advert weights kept decision.end (paths ++ path ∷ []) others (gain_at table decision.end) after.greatest ahead_after in
      record {
        begins = begins;
        can = later.can;
        unused = later.unused;
        of_use = All-contains (IsOfUse weights kept) others path plan.of_use held;
        leaves = omega (arith, covers, most, plan.weighs, weight_more advert weights paths path);
      }

  pub agrees_free : NoneKeeps advert weights kept (gain_at table) state → Agrees advert weights kept state paths others → Agrees advert weights kept (free_decision state).end paths others
  agrees_free none agrees = record {
    ahead = ahead_free advert weights kept state paths others agrees.ahead (λ path held begins. none path (keeps_gain agrees.ahead path held begins));
    taken = agrees.taken;
  }

  -- where the other plan takes another path at the next host lane, or none, the plan with this path comes before it
  pub agrees_path : (path : Path) → path.host ≡ state.boundary + 1 → IsLowest advert weights kept table state path → Agrees advert weights kept state paths others → AgreesOrLater advert weights kept (path_decision advert weights state path).end (paths ++ path ∷ []) others
  agrees_path path begins lowest agrees =
      elim (cases_Bool (is_among others path)) [
        | inl among ↦
            let held = listed_among others path among in
            inl (record { ahead = ahead_path advert weights kept state paths others path plan.admissible stand agrees.ahead held begins; taken = All-push (Contains others) paths path agrees.taken held })
        | inr lacks ↦ inr (record {
          path = path;
          held = Contains-push paths path;
          below = λ low is_below. agree_below paths others path low is_below (agree_on advert weights kept state paths others agrees low (λ later. omega (arith, later.past, is_below, begins)));
          there = λ other held same_host. elim (lowest other (keeps_gain agrees.ahead other held (same_host ∙ begins))) [
            | inl same ↦ absurd (both_ways (is_among others path) lacks (among_listed others path (subst (Contains others) (sym same) held)))
            | inr lower ↦ lower
          ];
        })
      ]

-- a plan that comes before another does so still when it grows
pub still_before : (advert : Advertised) (state : State) (paths others : List Path) (path : Path) → All (Stands advert state) paths → path.host ≡ state.boundary + 1 → ComesBefore paths others → ComesBefore (paths ++ path ∷ []) others
still_before advert state paths others path stand begins ahead =
    let stands = All-contains (Stands advert state) paths ahead.path stand ahead.held in
    let lanes = allowed advert ahead.path stands.can in
    record {
      path = ahead.path;
      held = Contains-append_left paths (path ∷ []) ahead.path ahead.held;
      below = λ low is_below. agree_below paths others path low (omega (arith, is_below, begins, stands.before, lanes.host_some)) (ahead.below low is_below);
      there = ahead.there;
    }

-- ---- at the end

pub agrees_at_end : (advert : Advertised) (weights : PathWeights) (kept : List Path) (state : State) (paths others : List Path) → 8 ≤ state.boundary → AgreesOrLater advert weights kept state paths others → IsSameOrBefore paths others
agrees_at_end advert weights kept state paths others ended (inr ahead) = inr ahead
agrees_at_end advert weights kept state paths others ended (inl agrees) =
    inl (λ path. agree_on advert weights kept state paths others agrees path (λ later.
    let lanes = lanes_later advert kept state path later in
    omega (arith, later.past, lanes.host_to, lanes.host_some, ended)))
