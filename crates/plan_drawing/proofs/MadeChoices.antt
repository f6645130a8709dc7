-- A choice that is made in a state: a path begins at the next host lane, or the lane stays free.
use Rattle.std.proofs.Common.{◌≡◌, ◌≢◌, ℕ, ◌+◌, ◌<◌, ◌⊎◌, true, List, [], ◌∷◌, ◌++◌, Option, Some, None, ap, inl, inr, arith}
use Rattle.std.specs.List.{All, Contains}
use Rattle.std.proofs.lemmas.List.Elements.{All-contains, Contains-append_left, Contains-push_cases}
use Rattle.field_tables.specs.LaneSets.{is_disjoint}
use Rattle.applications.specs.Advertised.{Advertised}
use Rattle.plan_certificate.specs.declared.path.Path.{Path}
use Rattle.plan_certificate.specs.declared.state.State.{State}
use Rattle.plan_certificate.specs.declared.state.Decision.{Decision}
use Rattle.plan_certificate.specs.Paths.{is_allowed, media_lanes}
use Rattle.plan_certificate.specs.Plans.{IsAdmissible, plan_weight}
use Rattle.plan_certificate.specs.KeptPaths.{is_eligible, may_stay_free}
use Rattle.plan_certificate.specs.States.{decisions_from}
use Rattle.plan_certificate.proofs.Heaviest.{allowed}
use Rattle.plan_certificate.proofs.KeptPaths.{eligible_allowed}
use Rattle.lane_planner.proofs.AheadPlans.{Ahead, ahead_free, ahead_path}
use Rattle.lane_planner.proofs.DecisionKinds.{decision_is, listed_decisions}
use Rattle.lane_planner.proofs.KeptLanes.{has_lane, none_has}
use Rattle.lane_planner.proofs.LaterPaths.{Grown, Stands, grown_free, grown_path, weight_more}
use Rattle.plan_drawing.specs.Alternatives.{Makes}
use Rattle.plan_drawing.specs.Walks.{Basis, decision_of}

pub record CanBegin (basis : Basis) (state : State) (path : Path) : Type 0 where
  pub begins : path.host ≡ state.boundary + 1
  pub can : is_eligible basis.advert basis.kept path ≡ true
  pub unused : is_disjoint (media_lanes basis.advert path) state.used ≡ true

-- the state has the choice's decision
abbrev pub CanMake : Basis → State → Option Path → Type 0
CanMake basis state (Some path) = CanBegin basis state path
CanMake basis state None = may_stay_free basis.advert basis.kept (state.boundary + 1) ≡ true

-- the paths that were taken, and the choice's
abbrev pub with_made : List Path → Option Path → List Path
with_made taken (Some path) = taken ++ path ∷ []
with_made taken None = taken

pub made_listed : (basis : Basis) (state : State) (made : Option Path) → state.boundary < 8 → CanMake basis state made
    → Contains (decisions_from basis.advert basis.weights basis.kept state) (decision_of basis state made)
made_listed basis state (Some path) below is =
    (listed_decisions basis.advert basis.weights basis.kept state below).1 path is.begins is.can is.unused
made_listed basis state None below may = (listed_decisions basis.advert basis.weights basis.kept state below).0 may

-- each decision is one's
pub record IsMade (basis : Basis) (state : State) (decision : Decision) : Type 0 where
  pub below : state.boundary < 8
  pub made : Option Path
  pub can : CanMake basis state made
  pub is : decision ≡ decision_of basis state made

pub is_made : (basis : Basis) (state : State) (decision : Decision)
    → Contains (decisions_from basis.advert basis.weights basis.kept state) decision → IsMade basis state decision
is_made basis state decision listed =
    let kind = decision_is basis.advert basis.weights basis.kept state decision listed in
    elim (kind.kind) [
      | inl free ↦ record { below = kind.below; made = None; can = free.1; is = free.0 }
      | inr one ↦ record {
        below = kind.below;
        made = Some one.path;
        can = record { begins = one.begins; can = one.can; unused = one.unused };
        is = one.is;
      }
    ]

-- ---- what it changes

pub made_past : (basis : Basis) (state : State) (made : Option Path) → CanMake basis state made
    → state.boundary < (decision_of basis state made).end.boundary
made_past basis state (Some path) is =
    omega (arith, (allowed basis.advert path (eligible_allowed basis.advert basis.kept path is.can)).host_some)
made_past basis state None may = omega arith

pub made_grown : (basis : Basis) (state : State) (taken : List Path) (made : Option Path) → IsAdmissible basis.advert basis.kept
    → state.boundary < 8 → Grown basis.advert basis.kept state taken → CanMake basis state made
    → Grown basis.advert basis.kept (decision_of basis state made).end (with_made taken made)
made_grown basis state taken (Some path) plan below grown is =
    grown_path basis.advert basis.weights basis.kept state taken path plan grown is.begins is.can is.unused
made_grown basis state taken None plan below grown may = grown_free basis.advert basis.kept state taken grown below may

pub made_weighs : (basis : Basis) (state : State) (taken : List Path) (made : Option Path)
    → plan_weight basis.weights (with_made taken made) ≡ plan_weight basis.weights taken + (decision_of basis state made).weight
made_weighs basis state taken (Some path) = weight_more basis.advert basis.weights taken path
made_weighs basis state taken None = omega arith

pub still_taken : (taken : List Path) (made : Option Path) (path : Path) → Contains taken path → Contains (with_made taken made) path
still_taken taken (Some made) path held = Contains-append_left taken (made ∷ []) path held
still_taken taken None path held = held

pub taken_or_begins : (basis : Basis) (state : State) (taken : List Path) (made : Option Path) (path : Path) → CanMake basis state made
    → Contains (with_made taken made) path → Contains taken path ⊎ (state.boundary < path.host)
taken_or_begins basis state taken (Some made) path is held =
    elim (Contains-push_cases taken made path held) [
      | inl before ↦ inl before
      | inr same ↦ inr (omega (arith, is.begins, ap (λ (p : Path). p.host) same))
    ]
taken_or_begins basis state taken None path may held = inl held

-- ---- a plan that makes it

-- the plan has the path, or none that begins in the state
abbrev pub HasMade : List Path → State → Option Path → Type 0
HasMade paths state (Some path) = Contains paths path
HasMade paths state None = (path : Path) → Contains paths path → path.host ≢ state.boundary + 1

pub has_made : (advert : Advertised) (paths : List Path) (state : State) (made : Option Path) → IsAdmissible advert paths
    → Makes advert paths (state.boundary + 1) made → HasMade paths state made
has_made advert paths state (Some path) plan held = held
has_made advert paths state None plan free = λ path held begins.
    let lanes = allowed advert path (All-contains (λ (p : Path). is_allowed advert p ≡ true) paths path plan.allowed held) in
    none_has advert paths (state.boundary + 1) path free held
    (has_lane advert path (state.boundary + 1) (omega (arith, begins)) (omega (arith, begins, lanes.host_some)))

pub made_ahead : (basis : Basis) (state : State) (taken others : List Path) (made : Option Path) → IsAdmissible basis.advert others
    → All (Stands basis.advert state) taken → CanMake basis state made → HasMade others state made
    → Ahead basis.advert basis.weights basis.kept state taken others
    → Ahead basis.advert basis.weights basis.kept (decision_of basis state made).end (with_made taken made) others
made_ahead basis state taken others (Some path) plan stand is held ahead =
    ahead_path basis.advert basis.weights basis.kept state taken others path plan stand ahead held is.begins
made_ahead basis state taken others None plan stand may none ahead =
    ahead_free basis.advert basis.weights basis.kept state taken others ahead none
