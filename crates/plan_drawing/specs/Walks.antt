-- What a plan is drawn by, and how it comes from the start over all host lanes. (docs/planning.md, "States and decisions"; this project's own)
use Rattle.std.specs.Prelude.{ℕ, ◌+◌, ◌==◌, Bool, if◌then◌else◌, List, [], ◌∷◌, Option, Some, None, find}
use Rattle.std.specs.List.{range_with_len}
use Rattle.applications.specs.Advertised.{Advertised}
use Rattle.applications.specs.AppWeights.{PathWeights}
use Rattle.plan_certificate.specs.declared.path.Path.{Path}
use Rattle.plan_certificate.specs.declared.state.State.{State}
use Rattle.plan_certificate.specs.declared.state.Decision.{Decision}
use Rattle.plan_certificate.specs.States.{start, free_decision, path_decision}
use Rattle.lane_planner.specs.declared.problem.Problem.{Problem}

-- a planning problem, and what can be gained from each state
pub record Basis : Type 0 where
  pub advert : Advertised
  pub weights : PathWeights
  pub kept : List Path
  pub table : List ℕ

abbrev pub basis_of : Problem → List ℕ → Basis
basis_of problem table = record {
  advert = problem.advert.now;
  weights = problem.weights.now;
  kept = problem.kept.now;
  table = table;
}

abbrev pub begins_at : ℕ → Path → Bool
begins_at lane path = path.host == lane

-- the path of the plan that begins at a host lane
abbrev pub path_at : List Path → ℕ → Option Path
path_at paths lane = find (begins_at lane) paths

-- the decision of the path that begins in a state, or of the free lane
abbrev pub decision_of : Basis → State → Option Path → Decision
decision_of basis state (Some path) = path_decision basis.advert basis.weights state path
decision_of basis state None = free_decision state

-- where the plan comes to from a state
abbrev pub next_state : Basis → List Path → State → State
next_state basis paths state = (decision_of basis state (path_at paths (state.boundary + 1))).end

-- the states in which it decides on these host lanes; those that a path takes after its first are decided with that
unfoldable pub states_on : Basis → List Path → State → List ℕ → List State
states_on basis paths state [] = []
states_on basis paths state (lane ∷ lanes) =
    if state.boundary + 1 == lane
    then state ∷ states_on basis paths (next_state basis paths state) lanes
    else states_on basis paths state lanes

-- from the start on, over all host lanes
abbrev pub states_of : Basis → List Path → List State
states_of basis paths = states_on basis paths start (range_with_len 1 8)
