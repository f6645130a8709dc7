-- What a port is to have: a plan's control bytes, and which of its data paths are kept. (docs/planning.md, "Control bytes"
-- and "Kept paths"; OIF-CMIS-05.0, page 11h: DPState, bytes 128 to 131, and the Active Control Set, bytes 206 to 213)
use Rattle.std.specs.Prelude.{◌≡◌, ℕ, ◌+◌, ◌-◌, ◌<◌, ◌==◌, ◌&&◌, ◌||◌, not, Bool, true, List, [], Some, slice_index}
use Rattle.std.specs.List.{filter, list_all, range_with_len}
use Rattle.std.specs.List.{AllPairs}
use Rattle.std.specs.FinSet as set
use Rattle.std.specs.FinMap as map
use Rattle.bus_model.specs.declared.device.Dev.TheVariants.{A0}
use Rattle.paged_memory.specs.Keys.{upper_key}
use Rattle.field_tables.specs.LaneSets.{Lanes, is_disjoint}
use Rattle.datapath_states.specs.Lanes.{codes_in}
use Rattle.paged_memory.specs.Images.{Memory}
use Rattle.applications.specs.Advertised.{Advertised, advertised_under}
use Rattle.applications.specs.AppWeights.{app_weights}
use Rattle.applications.specs.Weights.{weights_of_hosts}
use Rattle.applications.specs.declared.conventions.Conventions.{Conventions}
use Rattle.plan_certificate.specs.declared.path.Path.{Path}
use Rattle.plan_certificate.specs.Paths.{host_lanes}
use Rattle.lane_planner.specs.FirstBest.{IsFirstBest}
use Rattle.control_sets.specs.ControlBytes.{control_bytes}
use Rattle.control_sets.specs.PlanLanes.{lanes_outside, plan_lanes}
use Rattle.port_manager.specs.declared.deciding.Goal.{Goal}
use Rattle.port_manager.specs.declared.deciding.Wanted.{Wanted}

-- of eight codes or bytes, lane 1 first, that of a lane
abbrev pub at_lane : List ℕ → ℕ → ℕ
at_lane values lane = slice_index values (lane - 1)

-- the byte of a lane in the Active Control Set of page 11h
abbrev pub active_at : List ℕ → ℕ → ℕ
active_at page lane = slice_index page (78 + (lane - 1))

-- the lane has its control byte there
abbrev pub is_active : List ℕ → List ℕ → ℕ → Bool
is_active page control lane = active_at page lane == at_lane control lane

-- it is DPActivated
abbrev pub is_activated : List ℕ → ℕ → Bool
is_activated page lane = at_lane (codes_in page 8) lane == 4

-- it is DPDeactivated
abbrev pub is_deactivated : List ℕ → ℕ → Bool
is_deactivated page lane = at_lane (codes_in page 8) lane == 1

abbrev pub is_up : List ℕ → List ℕ → ℕ → Bool
is_up page control lane = is_activated page lane && is_active page control lane

abbrev pub are_up : List ℕ → List ℕ → Lanes → Bool
are_up page control lanes = list_all (λ lane. not (set.contains lanes lane) || is_up page control lane) (range_with_len 1 8)

-- page 11h shows the control bytes of all lanes
abbrev pub has_all : List ℕ → List ℕ → Bool
has_all page control = list_all (is_active page control) (range_with_len 1 8)

-- a lane that is in use may be taken down only if it is one of these
abbrev pub is_permitted_if : Bool → Lanes → ℕ → Bool
is_permitted_if in_use may lane = set.contains may lane || not in_use

-- a lane that is DPActivated is in use
abbrev pub is_permitted : List ℕ → Lanes → ℕ → Bool
is_permitted page may lane = is_permitted_if (is_activated page lane) may lane

-- each lane outside of the kept paths may be taken down
abbrev pub may_provision : List ℕ → Lanes → Lanes → Bool
may_provision page outside may = list_all (λ lane. not (set.contains outside lane) || is_permitted page may lane) (range_with_len 1 8)

-- each lane but those of the plan may be held down
abbrev pub may_activate : List ℕ → Lanes → Lanes → Bool
may_activate page plan may = list_all (λ lane. set.contains plan lane || is_permitted page may lane) (range_with_len 1 8)

-- a path of the plan all of whose lanes are up with the plan's control bytes
abbrev pub is_kept : Advertised → List ℕ → List ℕ → Path → Bool
is_kept advert page control path = are_up page control (host_lanes advert path)

-- the paths of a plan that are kept, by what page 11h shows
abbrev pub kept_of : Advertised → List ℕ → List ℕ → List Path → List Path
kept_of advert page control plan = filter (is_kept advert page control) plan

-- the paths of a plan but those of lanes that are to be down
abbrev pub stays_up : Advertised → Lanes → Path → Bool
stays_up advert down path = is_disjoint (host_lanes advert path) down

abbrev pub wanted_of : Advertised → Lanes → List Path → List Path
wanted_of advert down plan = filter (stays_up advert down) plan

-- what the module advertises to a host with these wishes
abbrev pub conventions_of : Wanted → Conventions
conventions_of wanted = record { paired = wanted.paired; counts_by_id = wanted.counts_by_id; now = true }

abbrev pub advert_of : Wanted → Memory → Advertised
advert_of wanted image = advertised_under (conventions_of wanted) image

-- the goal is the first best plan by the weights, but for paths of lanes that are to be down, and keeps those of its paths that page 11h
-- shows as up
pub record IsGoalBy (advert : Advertised) (wanted : Wanted) (page : List ℕ) (plan : List Path) (goal : Goal) : Type 0 where
  pub first : IsFirstBest advert (app_weights advert (weights_of_hosts wanted.hosts wanted.stay)) [] plan
  pub rising : AllPairs (λ path later. path.host < later.host) plan
  pub control : goal.control ≡ control_bytes advert (wanted_of advert wanted.down plan)
  pub lanes : goal.lanes ≡ plan_lanes advert (wanted_of advert wanted.down plan)
  pub outside : goal.outside ≡ lanes_outside advert (kept_of advert page goal.control (wanted_of advert wanted.down plan))

abbrev pub HasGoal : Advertised → Wanted → List ℕ → Goal → Type 0
HasGoal advert wanted page goal = (plan : List Path) × IsGoalBy advert wanted page plan goal

-- of the module with this memory, by its own page 11h
pub record IsGoalOf (wanted : Wanted) (image : Memory) (goal : Goal) : Type 0 where
  pub page : List ℕ
  pub there : map.get image (upper_key A0 0 0x11) ≡ Some page
  pub has : HasGoal (advert_of wanted image) wanted page goal
