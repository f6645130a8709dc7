-- The states that decisions from the start reach. (docs/planning.md, "States and decisions"; this project's own)
use Rattle.std.specs.Prelude.{◌≡◌, List, [], ◌∷◌, Contains}
use Rattle.applications.specs.Advertised.{Advertised}
use Rattle.applications.specs.AppWeights.{PathWeights}
use Rattle.plan_certificate.specs.declared.path.Path.{Path}
use Rattle.plan_certificate.specs.declared.state.State.{State}
use Rattle.plan_certificate.specs.declared.state.Decision.{Decision}
use Rattle.plan_certificate.specs.States.{start, decisions_from}

-- each decision is one from where the decision before it leads, the first from this state, and the last leads there
abbrev pub Leads : Advertised → PathWeights → List Path → State → List Decision → State → Type 0
Leads advert weights kept state [] end = state ≡ end
Leads advert weights kept state (decision ∷ decisions) end =
    Contains (decisions_from advert weights kept state) decision × Leads advert weights kept decision.end decisions end

abbrev pub IsReached : Advertised → PathWeights → List Path → State → Type 0
IsReached advert weights kept state = (decisions : List Decision) × Leads advert weights kept start decisions state
