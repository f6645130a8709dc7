-- The paths that may begin at a host lane, listed once for all states, and the decisions that they give from a state.
-- (docs/planning.md, "States and decisions"; this project's own)
use Rattle.std.specs.Prelude.{◌≡◌, ℕ, ◌+◌, ◌*◌, ◌≤◌, Bool, List, ◌++◌, All, Contains, length, map, filter}
use Rattle.std.specs.FinSet as set
use Rattle.field_tables.specs.LaneSets.{is_disjoint}
use Rattle.applications.specs.Advertised.{Advertised}
use Rattle.applications.specs.AppWeights.{PathWeights}
use Rattle.plan_certificate.specs.declared.path.Path.{Path}
use Rattle.plan_certificate.specs.declared.moves.Move.{Move}
use Rattle.plan_certificate.specs.declared.state.State.{State}
use Rattle.plan_certificate.specs.declared.state.Decision.{Decision}
use Rattle.plan_certificate.specs.Paths.{app_of, media_lanes, path_weight}
use Rattle.plan_certificate.specs.KeptPaths.{is_eligible, may_stay_free}
use Rattle.plan_certificate.specs.States.{free_decisions, paths_at}

abbrev pub move_of : Advertised → PathWeights → Path → Move
move_of advert weights path = record {
  path = path;
  host_lanes = (app_of advert path).host_lanes;
  media_lanes = media_lanes advert path;
  weight = path_weight weights path;
}

-- those of the paths that a plan with these kept paths may hold
unfoldable pub moves_of : Advertised → PathWeights → List Path → List Path → List Move
moves_of advert weights kept paths = map (move_of advert weights) (filter (is_eligible advert kept) paths)

-- by rising Application and media lane
abbrev pub moves_at : Advertised → PathWeights → List Path → ℕ → List Move
moves_at advert weights kept host = moves_of advert weights kept (paths_at advert host)

-- a move is open at a state that uses none of its media lanes
abbrev pub is_open : State → Move → Bool
is_open state move = is_disjoint move.media_lanes state.used

abbrev pub move_decision : State → Move → Decision
move_decision state move = record {
  weight = move.weight;
  end = record { boundary = state.boundary + move.host_lanes; used = set.union state.used move.media_lanes };
}

abbrev pub move_decisions : State → List Move → List Decision
move_decisions state moves = map (move_decision state) (filter (is_open state) moves)

-- the free lane's decision, if it may stay free, and those of the moves that are open
abbrev pub decisions_by : Bool → State → List Move → List Decision
decisions_by free state moves = free_decisions free state ++ move_decisions state moves

-- from a state with this boundary a move leads further, and not past the last host lane; it weighs at most four weights of 32
-- bits
pub record LeadsOn (boundary : ℕ) (move : Move) : Type 0 where
  pub further : 1 ≤ move.host_lanes
  pub within : boundary + move.host_lanes ≤ 8
  pub light : move.weight ≤ 4 * 4294967295

-- on as many host lanes, and the same media lanes
pub record HasLanesOf (move other : Move) : Type 0 where
  pub host_lanes : other.host_lanes ≡ move.host_lanes
  pub media_lanes : other.media_lanes ≡ move.media_lanes

-- one of these moves has the same lanes and weighs at least as much
pub record IsOutweighed (moves : List Move) (move : Move) : Type 0 where
  pub other : Move
  pub listed : Contains moves other
  pub lanes : HasLanesOf move other
  pub weighs : move.weight ≤ other.weight

-- some of the moves, by which each of the moves is outweighed
pub record AreHeaviest (moves heaviest : List Move) : Type 0 where
  pub among : All (Contains moves) heaviest
  pub outweighed : All (IsOutweighed heaviest) moves
  pub few : length heaviest ≤ length moves

-- what begins at the host lane after a boundary
pub record AreMoves (advert : Advertised) (weights : PathWeights) (kept : List Path) (boundary : ℕ) (free : Bool)
    (all heaviest : List Move) : Type 0 where
  pub freed : free ≡ may_stay_free advert kept (boundary + 1)
  pub listed : all ≡ moves_at advert weights kept (boundary + 1)
  pub heavy : AreHeaviest all heaviest
  pub lead_on : All (LeadsOn boundary) all
