-- Control bytes under explicit control: the lane's settings are those of its control set, and not those of the Application.
-- (docs/lanes.md, "Signal integrity settings"; OIF-CMIS-05.0, "Data Path Configuration", ExplicitControl of DPConfigLane)
use Rattle.std.specs.Prelude.{ℕ, ◌+◌, ◌*◌, ◌/◌, Bool, List, map, if◌then◌else◌}
use Rattle.std.specs.List.{range_with_len}
use Rattle.std.specs.FinSet as set
use Rattle.field_tables.specs.LaneSets.{Lanes}
use Rattle.applications.specs.Advertised.{Advertised}
use Rattle.plan_certificate.specs.declared.path.Path.{Path}
use Rattle.control_sets.specs.Judgements.{at_lane}
use Rattle.control_sets.specs.PlanLanes.{plan_lanes}
use Rattle.lane_controls.specs.declared.settings_change.SettingsChange.{SettingsChange}

-- the lowest bit, ExplicitControl, is 1, and the others are as they were
abbrev pub with_explicit : ℕ → ℕ
with_explicit byte = byte / 2 * 2 + 1

abbrev pub explicit_if : Bool → ℕ → ℕ
explicit_if explicit byte = if explicit then with_explicit byte else byte

-- those of host lanes 1 to 8
abbrev pub explicit_bytes : List ℕ → Lanes → List ℕ
explicit_bytes control lanes = map (λ lane. explicit_if (set.contains lanes lane) (at_lane control lane)) (range_with_len 1 8)

-- a lane of no path has no settings of its own
abbrev pub explicit_lanes : Advertised → List Path → Lanes → Lanes
explicit_lanes advert paths lanes = set.intersection lanes (plan_lanes advert paths)

-- the settings of such lanes alone are changed
abbrev pub change_for : Advertised → List Path → SettingsChange → SettingsChange
change_for advert paths change = record { lanes = explicit_lanes advert paths change.lanes; settings = change.settings; tries = change.tries }
