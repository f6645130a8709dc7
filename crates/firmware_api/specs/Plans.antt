-- A plan as C sees it, and why kept paths are refused. (docs/firmware.md, "Plans"; this project's own)
use Rattle.std.specs.Prelude.{◌≡◌, ℕ, ◌-◌, ◌<◌, nat_lt, List, ◌++◌, length, replicate, AllPairs, Option, Some, if◌then◌else◌}
use Rattle.std.specs.Option.{option_map, option_or}
use Rattle.field_tables.specs.LaneSets.{byte_of}
use Rattle.applications.specs.Advertised.{Advertised}
use Rattle.applications.specs.declared.conventions.Conventions.{Conventions}
use Rattle.applications.specs.AppWeights.{PathWeights, app_weights}
use Rattle.applications.specs.Weights.{TableWeights, weights_of_hosts}
use Rattle.plan_certificate.specs.declared.path.Path.{Path}
use Rattle.plan_certificate.specs.Limits.{most_paths}
use Rattle.plan_certificate.specs.Plans.{plan_weight}
use Rattle.plan_certificate.specs.Verdicts.{kept_fault}
use Rattle.lane_planner.specs.FirstBest.{IsFirstBest}
use Rattle.control_sets.specs.ControlBytes.{control_bytes}
use Rattle.control_sets.specs.PlanLanes.{lanes_outside, plan_lanes}
use Rattle.firmware_api.specs.declared.half.HalfBytes.{HalfBytes}
use Rattle.firmware_api.specs.declared.planning.LanePlan.{LanePlan}
use Rattle.firmware_api.specs.declared.status.Refusal.{Refusal}
use Rattle.firmware_api.specs.declared.status.Refusal.TheVariants.{KeptNotAdmissible, TooManyKept}
use Rattle.firmware_api.specs.Halves.{advert_of, refusal_under}

-- there are more than a plan has, or the module can't carry them together
abbrev pub kept_refusal : Advertised → List Path → Option Refusal
kept_refusal advert kept =
    if nat_lt most_paths (length kept) then Some TooManyKept
    else option_map (λ number. KeptNotAdmissible) (kept_fault advert kept)

-- refusals of the halves come first
abbrev pub plan_refusal : List HalfBytes → Conventions → List Path → Option Refusal
plan_refusal halves conventions kept = option_or (refusal_under conventions halves) (kept_refusal (advert_of halves conventions) kept)

-- what stands after the last path
abbrev pub no_path : Path
no_path = record { app = 0; host = 0; media = 0 }

abbrev pub paths_of : List Path → List Path
paths_of paths = paths ++ replicate (most_paths - length paths) no_path

-- what paths weigh, by the weights of host interfaces and of staying that C hands over
abbrev pub path_weights : Advertised → TableWeights → ℕ → PathWeights
path_weights advert weights stay = app_weights advert (weights_of_hosts weights stay)

-- these paths, with their weight, the lanes that they take, those that the kept ones leave, and their control bytes
abbrev pub lane_plan : Advertised → PathWeights → List Path → List Path → LanePlan
lane_plan advert weights kept paths = record {
  weight = plan_weight weights paths;
  count = length paths;
  lanes = byte_of (plan_lanes advert paths);
  outside = byte_of (lanes_outside advert kept);
  control = control_bytes advert paths;
  paths = paths_of paths;
}

-- the first of the best plans that hold the kept paths, by rising host lane
pub record IsPlanned (advert : Advertised) (weights : PathWeights) (kept : List Path) (plan : LanePlan) : Type 0 where
  pub paths : List Path
  pub is_first : IsFirstBest advert weights kept paths
  pub rising : AllPairs (λ path later. path.host < later.host) paths
  pub plan_is : plan ≡ lane_plan advert weights kept paths
