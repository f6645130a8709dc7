-- What can still be gained from a state, by decisions that follow one another. (docs/planning.md, "States and decisions"; this
-- project's own)
use Rattle.std.specs.Prelude.{◌≡◌, ℕ, ◌≤◌, List, [], ◌∷◌, Contains, sum_by}
use Rattle.applications.specs.Advertised.{Advertised}
use Rattle.applications.specs.AppWeights.{PathWeights}
use Rattle.plan_certificate.specs.declared.path.Path.{Path}
use Rattle.plan_certificate.specs.declared.state.State.{State}
use Rattle.plan_certificate.specs.declared.state.Decision.{Decision}
use Rattle.plan_certificate.specs.States.{decisions_from}

-- each decision is one from where the decision before it leads, the first from this state
abbrev pub Follow : Advertised → PathWeights → List Path → State → List Decision → Type 0
Follow advert weights kept state [] = Unit {0}
Follow advert weights kept state (decision ∷ decisions) = Contains (decisions_from advert weights kept state) decision × Follow advert weights kept decision.end decisions

abbrev pub decisions_weight : List Decision → ℕ
decisions_weight decisions = sum_by (λ decision. decision.weight) decisions

-- decisions that follow one another from the state weigh so much
abbrev pub CanBeGained : Advertised → PathWeights → List Path → State → ℕ → Type 0
CanBeGained advert weights kept state gain = (decisions : List Decision) × Follow advert weights kept state decisions × (decisions_weight decisions ≡ gain)

-- none weigh more
abbrev pub IsLimit : Advertised → PathWeights → List Path → State → ℕ → Type 0
IsLimit advert weights kept state gain = (decisions : List Decision) → Follow advert weights kept state decisions → decisions_weight decisions ≤ gain

-- the greatest weight of decisions that follow one another from the state
pub record IsGain (advert : Advertised) (weights : PathWeights) (kept : List Path) (state : State) (gain : ℕ) : Type 0 where
  pub gained : CanBeGained advert weights kept state gain
  pub greatest : IsLimit advert weights kept state gain
