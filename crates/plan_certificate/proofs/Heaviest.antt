-- Why the plan of a good certificate is best: from each state, what is still gained weighs no more than its potential.
use Rattle.std.proofs.Common.{◌≡◌, ◌≢◌, ◌⊎◌, ℕ, zero, suc, ◌+◌, ◌<◌, ◌≤◌, ◌&&◌, Bool, true, List, [], ◌∷◌, ◌++◌, Option, Some, None, refl, sym, subst, ap, inl, inr, filter, cond, nat_lt, arith}
use Rattle.std.specs.List.{All, AllByRecursion, Contains, find, range_with_len, sum_by}
use Rattle.std.specs.Option.{unwrap_or}
use Rattle.std.proofs.lemmas.List.Elements.{All-contains, All-from_recursion, recursion_from_All}
use Rattle.std.proofs.lemmas.Bool.{and_parts, cases_lt, eqb-true}
use Rattle.std.proofs.lemmas.Bool.Decides.{nat_tests}
use Rattle.field_tables.specs.LaneSets.{is_disjoint}
use Rattle.applications.specs.declared.app.App.{App}
use Rattle.applications.specs.Advertised.{Advertised}
use Rattle.applications.specs.AppWeights.{PathWeights}
use Rattle.plan_certificate.specs.declared.path.Path.{Path}
use Rattle.plan_certificate.specs.declared.state.State.{State}
use Rattle.plan_certificate.specs.declared.state.Decision.{Decision}
use Rattle.plan_certificate.specs.declared.certificate.Entry.{Entry}
use Rattle.plan_certificate.specs.Paths.{app_of, has_number, no_app, media_lanes, is_allowed, path_weight}
use Rattle.plan_certificate.specs.Plans.{are_apart, IsAdmissible, IsBest, Keeps, plan_weight}
use Rattle.plan_certificate.specs.KeptPaths.{is_eligible, may_stay_free}
use Rattle.plan_certificate.specs.States.{start, free_decision, free_decisions, path_decision, paths_at, paths_of_app, fits, path_decisions, decisions_from}
use Rattle.plan_certificate.specs.Certificates.{Claim, IsBound, IsCovered, IsGood, state_of}
use Rattle.plan_certificate.proofs.LaneRuns.{disjoint_back, disjoint_none, disjoint_union, runs_apart}
use Rattle.plan_certificate.proofs.Lists.{each_contained, each_of_append, each_of_map, each_pair, map_each, each_of_filter, each_of_flat_map, each_in_range, found}
use Rattle.plan_certificate.proofs.KeptPaths.{IsBeside, all_beside, eligible_allowed, plan_eligible}
use Rattle.plan_certificate.proofs.PathTakenOut.{AreApart, IsApart, Picked, from_pairs, pick}

-- what an allowed path's Application and first lanes are
pub record Allowed (advert : Advertised) (path : Path) : Type 0 where
  pub host_from : 1 ≤ path.host
  pub host_to : path.host + (app_of advert path).host_lanes ≤ 9
  pub media_from : 1 ≤ path.media
  pub media_to : path.media + (app_of advert path).media_lanes ≤ 9
  pub host_some : 1 ≤ (app_of advert path).host_lanes
  pub media_some : 1 ≤ (app_of advert path).media_lanes

pub allowed : (advert : Advertised) (path : Path) → is_allowed advert path ≡ true → Allowed advert path
unfolding is_allowed
allowed advert path can = record {
  host_from = grind (arith, nat_tests);
  host_to = grind (arith, nat_tests);
  media_from = grind (arith, nat_tests);
  media_to = grind (arith, nat_tests);
  host_some = grind (arith, nat_tests);
  media_some = grind (arith, nat_tests);
}

pub app_found : (advert : Advertised) (path : Path) (o : Option App) → find (has_number path) advert.apps ≡ o → is_allowed advert path ≡ true → (app : App) × (find (has_number path) advert.apps ≡ Some app)
unfolding app_of
app_found advert path (Some app) is can = (app, is)
app_found advert path None is can =
    let none : app_of advert path ≡ no_app = ap (λ (o : Option App). unwrap_or o no_app) is in
    let lanes = (allowed advert path can).host_some in
    absurd (omega (arith, ap (λ (app : App). app.host_lanes) none, lanes))

-- an allowed path is among those that begin at its host lane
pub listed : (advert : Advertised) (P : Path → Type 0) (path : Path) (host : ℕ) → path.host ≡ host → is_allowed advert path ≡ true → AllByRecursion P (paths_at advert host) → P path
listed advert P path host begins can each =
    let lanes = allowed advert path can in
    let app = app_found advert path (find (has_number path) advert.apps) refl can in
    let of_app = found (λ (a : App). AllByRecursion P (paths_of_app host a.number)) (has_number path) advert.apps app.0 app.1 (each_of_flat_map P (λ (a : App). paths_of_app host a.number) advert.apps each) in
    let number : app.0.number ≡ path.app = eqb-true _ _ of_app.1 in
    let by_media = each_of_map P (λ (media : ℕ). record { app = app.0.number; host = host; media = media }) (range_with_len 1 8) of_app.0 in
    let one : P (record { app = app.0.number; host = host; media = path.media }) =
    each_in_range (λ (media : ℕ). P (record { app = app.0.number; host = host; media = media })) 1 8 path.media by_media lanes.media_from (omega (arith, lanes.media_to, lanes.media_some)) in
    subst P (λ i. record { app = number i; host = sym begins i; media = path.media }) one

-- what holds of each decision from a state holds of the free lane's decision and of each path's that fits
pub each_decision : (advert : Advertised) (weights : PathWeights) (kept : List Path) (P : Decision → Type 0) (state : State) → state.boundary < 8 → AllByRecursion P (decisions_from advert weights kept state)
    → (may_stay_free advert kept (state.boundary + 1) ≡ true → P (free_decision state))
    × ((path : Path) → path.host ≡ state.boundary + 1 → is_eligible advert kept path ≡ true → is_disjoint (media_lanes advert path) state.used ≡ true → P (path_decision advert weights state path))
unfolding decisions_from path_decisions
each_decision advert weights kept P state below each =
    let host : ℕ = state.boundary + 1 in
    let free = free_decisions (may_stay_free advert kept host) state in
    let by_paths = path_decisions advert weights kept state (paths_at advert host) in
    let decisions = free ++ by_paths in
    let is_below : nat_lt state.boundary 8 ≡ true = grind (arith, nat_tests) in
    let all : AllByRecursion P decisions = subst (λ (b : Bool). AllByRecursion P (cond b decisions [])) is_below each in
    let parts = each_of_append P free by_paths all in
    let of_paths = each_of_filter (λ (path : Path). P (path_decision advert weights state path)) (fits advert kept state) (paths_at advert host) (each_of_map P (path_decision advert weights state) (filter (fits advert kept state) (paths_at advert host)) parts.1) in (
      λ may. (subst (λ (b : Bool). AllByRecursion P (free_decisions b state)) may parts.0).0,
      λ path begins can unused.
          listed advert (λ (p : Path). fits advert kept state p ≡ true → P (path_decision advert weights state p)) path host begins (eligible_allowed advert kept path can) of_paths (λ i. can i && unused i),
    )

-- a path that may still come: it begins past the boundary, at lanes that aren't used
pub record IsLater (advert : Advertised) (kept : List Path) (state : State) (path : Path) : Type 0 where
  pub can : is_eligible advert kept path ≡ true
  pub past : state.boundary < path.host
  pub unused : is_disjoint (media_lanes advert path) state.used ≡ true

-- what an allowed path's lanes are
pub lanes_later : (advert : Advertised) (kept : List Path) (state : State) (path : Path) → IsLater advert kept state path → Allowed advert path
lanes_later advert kept state path later = allowed advert path (eligible_allowed advert kept path later.can)

none_later : (advert : Advertised) (kept : List Path) (weigh : Path → ℕ) (state : State) (paths : List Path) → 8 ≤ state.boundary → AllByRecursion (IsLater advert kept state) paths → sum_by weigh paths ≡ 0
none_later advert kept weigh state [] ended each = refl
none_later advert kept weigh state (path ∷ paths) ended each =
    let lanes = lanes_later advert kept state path each.0 in
    absurd (omega (arith, ended, each.0.past, lanes.host_to, lanes.host_some))

-- the lane after the boundary stays free
pub stay_later : (advert : Advertised) (kept : List Path) (state : State) (paths : List Path) → AllByRecursion (IsLater advert kept state) paths → AllByRecursion (λ path. path.host ≢ state.boundary + 1) paths → AllByRecursion (IsLater advert kept (free_decision state).end) paths
stay_later advert kept state paths each elsewhere =
    each_pair (IsLater advert kept state) (λ path. path.host ≢ state.boundary + 1) (IsLater advert kept (free_decision state).end) paths
    (λ path later other. record { can = later.can; past = omega (arith, later.past, other); unused = later.unused }) each elsewhere

pub after_path : (advert : Advertised) (weights : PathWeights) (kept : List Path) (state : State) (taken path : Path) → IsLater advert kept state taken → taken.host ≡ state.boundary + 1 → IsLater advert kept state path → IsApart advert taken path → IsLater advert kept (path_decision advert weights state taken).end path
unfolding are_apart
after_path advert weights kept state taken path is_taken begins later apart =
    let lanes = lanes_later advert kept state path later in
    let parts = and_parts _ _ apart in
    let past = runs_apart taken.host (app_of advert taken).host_lanes path.host (app_of advert path).host_lanes parts.0 lanes.host_some (omega (arith, begins, later.past)) in
    record {
      can = later.can;
      past = omega (arith, begins, past);
      unused = disjoint_union (media_lanes advert path) state.used (media_lanes advert taken) later.unused (disjoint_back (media_lanes advert taken) (media_lanes advert path) parts.1);
    }

-- a decision leads to where this bounds what can be gained by what is left of the potential
abbrev pub LeavesEnough : (State → ℕ → Type 0) → ℕ → Decision → Type 0
LeavesEnough Bounds potential decision = (later : ℕ) × Bounds decision.end later × (decision.weight + later ≤ potential)

-- what bounds the gain at a state does so after each decision
abbrev pub IsPreserved : Advertised → PathWeights → List Path → (State → ℕ → Type 0) → Type 0
IsPreserved advert weights kept Bounds = (state : State) (potential : ℕ) → Bounds state potential → AllByRecursion (LeavesEnough Bounds potential) (decisions_from advert weights kept state)

-- a kept path is one of those that may still come, or its host lanes are decided
abbrev pub ComesOrCame : Advertised → State → List Path → Path → Type 0
ComesOrCame advert state paths path = Contains paths path ⊎ (path.host + (app_of advert path).host_lanes ≤ state.boundary + 1)

-- where none of them begins at the next host lane, that lane may stay free
lane_free : (advert : Advertised) (keeping kept : List Path) (state : State) (paths : List Path) → AllByRecursion (IsLater advert keeping state) paths → AllByRecursion (λ path. path.host ≢ state.boundary + 1) paths
    → AllByRecursion (ComesOrCame advert state paths) kept → may_stay_free advert kept (state.boundary + 1) ≡ true
lane_free advert keeping kept state paths each elsewhere come =
    let lane : ℕ = state.boundary + 1 in
    let Past : Path → Type 0 = λ path. lane < path.host in
    let past = All-from_recursion Past paths (each_pair (IsLater advert keeping state) (λ path. path.host ≢ lane) Past paths (λ path later other. omega (arith, later.past, other)) each elsewhere) in
    all_beside advert kept lane (map_each (ComesOrCame advert state paths) (IsBeside advert lane) kept (λ path either. elim (either) [
      | inl comes ↦ inl (All-contains Past paths path past comes)
      | inr came ↦ inr came
    ]) come)

pub come_free : (advert : Advertised) (kept : List Path) (state : State) (paths : List Path) → AllByRecursion (ComesOrCame advert state paths) kept → AllByRecursion (ComesOrCame advert (free_decision state).end paths) kept
come_free advert kept state paths come =
    map_each (ComesOrCame advert state paths) (ComesOrCame advert (free_decision state).end paths) kept (λ path either. elim (either) [
      | inl comes ↦ inl comes
      | inr came ↦ inr (omega (arith, came))
    ]) come

pub come_taken : (advert : Advertised) (weights : PathWeights) (weigh : Path → ℕ) (kept : List Path) (state : State) (paths : List Path) → (picked : Picked advert weigh paths (state.boundary + 1)) → AllByRecursion (ComesOrCame advert state paths) kept
    → AllByRecursion (ComesOrCame advert (path_decision advert weights state picked.path).end picked.rest) kept
come_taken advert weights weigh kept state paths picked come =
    let End : State = (path_decision advert weights state picked.path).end in
    let Left : Path → Type 0 = λ path. Contains picked.rest path ⊎ (path ≡ picked.path) in
    let left = All-from_recursion Left paths (picked.back Left (inr refl, map_each (Contains picked.rest) Left picked.rest (λ path comes. inl comes) (each_contained picked.rest))) in
    map_each (ComesOrCame advert state paths) (ComesOrCame advert End picked.rest) kept (λ path either. elim (either) [
      | inl comes ↦ elim (All-contains Left paths path left comes) [
        | inl rest ↦ inl rest
        | inr same ↦ inr (omega (arith, picked.begins, ap (λ (p : Path). p.host + (app_of advert p).host_lanes) same))
      ]
      | inr came ↦ inr (omega (arith, came))
    ]) come

-- then no paths that may still come, the kept ones among them, weigh more
pub bounded : (advert : Advertised) (weights : PathWeights) (kept : List Path) (Bounds : State → ℕ → Type 0) → IsPreserved advert weights kept Bounds → (left : ℕ) (state : State) (potential : ℕ) → 8 ≤ state.boundary + left → Bounds state potential
    → (paths : List Path) → AreApart advert paths → AllByRecursion (IsLater advert kept state) paths → AllByRecursion (ComesOrCame advert state paths) kept → plan_weight weights paths ≤ potential
bounded advert weights kept Bounds is_preserved zero state potential ends bound paths apart each come = omega (arith, none_later advert kept (path_weight weights) state paths (omega (arith, ends)) each)
bounded advert weights kept Bounds is_preserved (suc left) state potential ends bound paths apart each come =
    let weigh = path_weight weights in
    elim (cases_lt state.boundary 8) [
      | inr ended ↦ omega (arith, none_later advert kept weigh state paths (omega (arith, ended)) each)
      | inl below ↦
          let decisions = each_decision advert weights kept (LeavesEnough Bounds potential) state below (is_preserved state potential bound) in
          elim (pick advert weigh paths (state.boundary + 1) apart) [
            | inr elsewhere ↦
                let decision = decisions.0 (lane_free advert kept kept state paths each elsewhere come) in
                let rest = bounded advert weights kept Bounds is_preserved left (free_decision state).end decision.0 (omega (arith, ends)) decision.1 paths apart (stay_later advert kept state paths each elsewhere) (come_free advert kept state paths come) in
                omega (arith, rest, decision.2)
            | inl picked ↦
                let parts = picked.each (IsLater advert kept state) each in
                let decision = decisions.1 picked.path picked.begins parts.0.can parts.0.unused in
                let lanes = lanes_later advert kept state picked.path parts.0 in
                let End : State = (path_decision advert weights state picked.path).end in
                let later = each_pair (IsLater advert kept state) (IsApart advert picked.path) (IsLater advert kept End) picked.rest
                (λ path is_later apart. after_path advert weights kept state picked.path path parts.0 picked.begins is_later apart) parts.1 picked.path_apart in
                let rest = bounded advert weights kept Bounds is_preserved left End decision.0 (omega (arith, ends, lanes.host_some)) decision.1 picked.rest picked.rest_apart later (come_taken advert weights weigh kept state paths picked come) in
                omega (arith, rest, decision.2, picked.weighs)
          ]
    ]

-- the potentials of a good certificate's entries do
entries_preserved : (advert : Advertised) (weights : PathWeights) (c : Claim) → IsGood advert weights c → IsPreserved advert weights c.kept (IsBound c.entries)
entries_preserved advert weights c good state potential bound =
    let Covered : Decision → Type 0 = IsCovered c.entries potential in
    let at_entry = All-contains (λ (entry : Entry). All (IsCovered c.entries entry.potential) (decisions_from advert weights c.kept (state_of entry))) c.entries bound.0 good.closed bound.1 in
    let at_state : All Covered (decisions_from advert weights c.kept state) =
    subst (λ (s : State). All Covered (decisions_from advert weights c.kept s)) bound.2 (subst (λ (p : ℕ). All (IsCovered c.entries p) (decisions_from advert weights c.kept (state_of bound.0))) bound.3 at_entry) in
    recursion_from_All Covered (decisions_from advert weights c.kept state) at_state

-- the paths of a plan that holds the kept ones may all still come at the start
pub all_later : (advert : Advertised) (kept others : List Path) → IsAdmissible advert others → Keeps kept others → AllByRecursion (IsLater advert kept start) others
all_later advert kept others plan keeps =
    map_each (Contains others) (IsLater advert kept start) others
    (λ path held.
    let can = All-contains (λ (p : Path). is_allowed advert p ≡ true) others path plan.allowed held in
    record { can = plan_eligible advert kept others plan keeps path held can; past = (allowed advert path can).host_from; unused = disjoint_none (media_lanes advert path) })
    (each_contained others)

-- the kept ones among them
pub kept_come : (advert : Advertised) (kept others : List Path) → Keeps kept others → AllByRecursion (ComesOrCame advert start others) kept
kept_come advert kept others keeps = map_each (Contains others) (ComesOrCame advert start others) kept (λ path held. inl held) keeps

pub good_is_best : (advert : Advertised) (weights : PathWeights) (c : Claim) → IsGood advert weights c → IsBest advert weights c.kept c.paths
good_is_best advert weights c good = record {
  admissible = good.admissible;
  keeps = good.keeps;
  heaviest = λ others is_plan keeps.
      omega (arith, good.weighs, bounded advert weights c.kept (IsBound c.entries) (entries_preserved advert weights c good) 8 start c.weight (omega arith) good.begun others (from_pairs advert others is_plan.apart) (all_later advert c.kept others is_plan keeps) (kept_come advert c.kept others keeps));
}
