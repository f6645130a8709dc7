-- How a plan grows, one host lane after another: states, and the decisions from a state. (docs/planning.md, "States and decisions";
-- this project's own)
use Rattle.std.specs.Prelude.{ℕ, ◌+◌, ◌*◌, ◌/◌, ◌%◌, ◌&&◌, Bool, nat_lt, if◌then◌else◌, List, [], ◌∷◌, ◌++◌, map, filter, flat_map}
use Rattle.std.specs.List.{range_with_len}
use Rattle.std.specs.FinSet as set
use Rattle.field_tables.specs.LaneSets.{is_disjoint, lanes_in, byte_of}
use Rattle.applications.specs.Advertised.{Advertised}
use Rattle.applications.specs.AppWeights.{PathWeights}
use Rattle.plan_certificate.specs.declared.path.Path.{Path}
use Rattle.plan_certificate.specs.declared.state.State.{State}
use Rattle.plan_certificate.specs.declared.state.Decision.{Decision}
use Rattle.plan_certificate.specs.Paths.{app_of, media_lanes, path_weight}
use Rattle.plan_certificate.specs.KeptPaths.{is_eligible, may_stay_free}

-- the place of a state among all 2,304: by boundary, then by the byte of used media lanes
abbrev pub state_place : State → ℕ
state_place state = 256 * state.boundary + byte_of state.used

abbrev pub state_at : ℕ → State
state_at place = record { boundary = place / 256; used = lanes_in (place % 256) }

-- no host lane is decided, no media lane used
abbrev pub start : State
start = record { boundary = 0; used = set.empty }

-- the next host lane stays free
abbrev pub free_decision : State → Decision
free_decision state = record { weight = 0; end = record { boundary = state.boundary + 1; used = state.used } }

-- its decision, if it may
abbrev pub free_decisions : Bool → State → List Decision
free_decisions may state = if may then free_decision state ∷ [] else []

-- a path begins at the next host lane
abbrev pub path_decision : Advertised → PathWeights → State → Path → Decision
path_decision advert weights state path = record {
  weight = path_weight weights path;
  end = record {
    boundary = state.boundary + (app_of advert path).host_lanes;
    used = set.union state.used (media_lanes advert path);
  };
}

-- the paths of an Application from a host lane on, by rising media lane
abbrev pub paths_of_app : ℕ → ℕ → List Path
paths_of_app host app = map (λ media. record { app = app; host = host; media = media }) (range_with_len 1 8)

-- all paths from a host lane on, by rising Application and media lane
abbrev pub paths_at : Advertised → ℕ → List Path
paths_at advert host = flat_map (λ app. paths_of_app host app.number) advert.apps

abbrev pub fits : Advertised → List Path → State → Path → Bool
fits advert kept state path = is_eligible advert kept path && is_disjoint (media_lanes advert path) state.used

-- the decisions of those of these paths that fit
unfoldable pub path_decisions : Advertised → PathWeights → List Path → State → List Path → List Decision
path_decisions advert weights kept state paths = map (path_decision advert weights state) (filter (fits advert kept state) paths)

-- the free lane's decision, unless the lane is a kept path's, and then those of the paths that fit
unfoldable pub decisions_from : Advertised → PathWeights → List Path → State → List Decision
decisions_from advert weights kept state =
    if nat_lt state.boundary 8
    then free_decisions (may_stay_free advert kept (state.boundary + 1)) state
    ++ path_decisions advert weights kept state (paths_at advert (state.boundary + 1))
    else []
