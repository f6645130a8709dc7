-- Data paths: which are allowed on a module, the lanes that they take, and what they weigh. (docs/planning.md, "Data
-- paths"; OIF-CMIS-05.0, chapter 6 "Core Management Features", "Data Paths", and chapter 8, "Applications Advertising". That
-- each first host lane may go with each first media lane unless the module pairs them, and what a path weighs, is this
-- project's own)
use Rattle.std.specs.Prelude.{◌≡◌, ℕ, ◌+◌, ◌<◌, ◌⊎◌, ◌==◌, ◌&&◌, ◌||◌, Bool, not, nat_le, nat_lt, count_by, find}
use Rattle.std.specs.List.{range_with_len}
use Rattle.std.specs.Option.{unwrap_or}
use Rattle.std.specs.FinSet as set
use Rattle.field_tables.specs.LaneSets.{Lanes, run_of, is_disjoint}
use Rattle.applications.specs.declared.app.App.{App}
use Rattle.applications.specs.Advertised.{Advertised}
use Rattle.applications.specs.Usable.{is_usable}
use Rattle.applications.specs.AppWeights.{PathWeights, weight_from}
use Rattle.plan_certificate.specs.declared.path.Path.{Path}

-- what stands for an Application that isn't advertised: it takes no lanes, and no path of it is allowed
abbrev pub no_app : App
no_app = record {
  number = 0;
  host_id = 0;
  media_id = 0;
  host_lanes = 0;
  media_lanes = 0;
  host_starts = set.empty;
  media_starts = set.empty;
}

abbrev pub has_number : Path → App → Bool
has_number path app = app.number == path.app

-- the Application of a path
unfoldable pub app_of : Advertised → Path → App
app_of advert path = unwrap_or (find (has_number path) advert.apps) no_app

abbrev pub host_lanes : Advertised → Path → Lanes
host_lanes advert path = run_of path.host (app_of advert path).host_lanes

abbrev pub media_lanes : Advertised → Path → Lanes
media_lanes advert path = run_of path.media (app_of advert path).media_lanes

-- so many lanes from the first on are among the lanes 1 to 8
abbrev pub is_within : ℕ → ℕ → Bool
is_within first count = nat_le 1 first && nat_le (first + count) 9

-- the lanes are there, and a path may begin at the first of them
abbrev pub is_run : Lanes → ℕ → ℕ → Bool
is_run starts first count = is_within first count && set.contains starts first

abbrev pub is_before : Lanes → ℕ → ℕ → Bool
is_before lanes lane other = nat_lt other lane && set.contains lanes other

-- how many of the lanes come before this one
unfoldable pub rank : Lanes → ℕ → ℕ
rank lanes lane = count_by (is_before lanes lane) (range_with_len 1 8)

-- if the module pairs first lanes, the path's have the same rank among those of the Application
abbrev pub is_paired : Advertised → App → ℕ → ℕ → Bool
is_paired advert app host media = not advert.paired || rank app.host_starts host == rank app.media_starts media

-- a path that the module can carry
unfoldable pub is_allowed : Advertised → Path → Bool
is_allowed advert path =
    is_usable (app_of advert path)
    && is_run (app_of advert path).host_starts path.host (app_of advert path).host_lanes
    && is_run (app_of advert path).media_starts path.media (app_of advert path).media_lanes
    && is_disjoint (media_lanes advert path) advert.unsupported
    && is_paired advert (app_of advert path) path.host path.media

-- a path of the Application may begin at the host lane
abbrev pub may_begin : App → ℕ → Bool
may_begin app host = is_usable app && is_run app.host_starts host app.host_lanes

-- and take media lanes from this one on, none of them unsupported, which it may be joined with
abbrev pub may_take : Advertised → App → ℕ → ℕ → Bool
may_take advert app host media =
    is_run app.media_starts media app.media_lanes
    && is_disjoint (run_of media app.media_lanes) advert.unsupported
    && is_paired advert app host media

-- what a path of its Application from its first host lane on weighs
abbrev pub path_weight : PathWeights → Path → ℕ
path_weight weights path = weight_from weights path.app path.host

-- the path has the lower Application, or the same and the lower media lane
abbrev pub IsLower : Path → Path → Type 0
IsLower path other = (path.app < other.app) ⊎ ((path.app ≡ other.app) × (path.media < other.media))
