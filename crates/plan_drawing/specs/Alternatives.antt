-- What else a plan could have done at a host lane, and how much less that weighs in the end. (docs/formats.md, "draw"; this
-- project's own)
use Rattle.std.specs.Prelude.{◌≡◌, ℕ, ◌+◌, ◌-◌, ◌<◌, ◌≤◌, true, List, Option, Some, None, Contains}
use Rattle.std.specs.List.{AllByRecursion}
use Rattle.applications.specs.Advertised.{Advertised}
use Rattle.plan_certificate.specs.declared.path.Path.{Path}
use Rattle.plan_certificate.specs.declared.state.State.{State}
use Rattle.plan_certificate.specs.KeptPaths.{may_stay_free}
use Rattle.plan_certificate.specs.Plans.{IsAdmissible, Keeps, plan_weight}
use Rattle.lane_planner.specs.FirstBest.{AgreeOn}
use Rattle.lane_planner.specs.Tables.{gain_at}
use Rattle.plan_drawing.specs.declared.choices.Choice.{Choice}
use Rattle.plan_drawing.specs.Choices.{choices_in, ranked}
use Rattle.plan_drawing.specs.Walks.{Basis}

-- the plan has the path, or none that takes the host lane
abbrev pub Makes : Advertised → List Path → ℕ → Option Path → Type 0
Makes advert paths lane (Some path) = Contains paths path
Makes advert paths lane None = may_stay_free advert paths lane ≡ true

abbrev pub SameBelow : List Path → ℕ → List Path → Type 0
SameBelow paths lane others = (path : Path) → path.host < lane → AgreeOn paths others path

-- a plan with the kept paths that has the same paths below the host lane as this one, and makes the choice there
pub record IsAlternative (basis : Basis) (paths : List Path) (lane : ℕ) (choice : Option Path) (others : List Path) : Type 0 where
  pub admissible : IsAdmissible basis.advert others
  pub keeps : Keeps basis.kept others
  pub same_below : SameBelow paths lane others
  pub makes : Makes basis.advert others lane choice

-- the heaviest of them weighs so much less than this one
pub record IsLess (basis : Basis) (paths : List Path) (lane : ℕ) (choice : Option Path) (less : ℕ) : Type 0 where
  pub attained : (others : List Path) × IsAlternative basis paths lane choice others
      × (plan_weight basis.weights others + less ≡ plan_weight basis.weights paths)
  pub greatest : (others : List Path) → IsAlternative basis paths lane choice others
      → plan_weight basis.weights others + less ≤ plan_weight basis.weights paths

-- in a state, the heaviest plan of each choice weighs as much less as the choice's sum is below what can be gained
abbrev pub AreLess : Basis → List Path → State → Type 0
AreLess basis paths state =
    AllByRecursion (λ (choice : Choice). IsLess basis paths (state.boundary + 1) choice.path (gain_at basis.table state - choice.sum))
    (ranked (choices_in basis state))
