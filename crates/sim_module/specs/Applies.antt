-- What a store to ApplyDPInit makes of a module. (docs/module.md, "Apply"; OIF-CMIS-05.0, chapter 8 "Module Management
-- Memory Map", "Data Path Configuration" and Configuration Command Status. Which lane gets which code is this project's own)
use Rattle.std.specs.Prelude.{ℕ, ◌-◌, ◌==◌, ◌&&◌, ◌||◌, Bool, true, false, not, Option, Some, None, is_none, is_some, unwrap_or, if◌then◌else◌, List, [], ◌∷◌, find, map, nat_le}
use Rattle.std.specs.List.{list_all}
use Rattle.std.specs.Option.{option_map_or}
use Rattle.std.specs.FinSet as set
use Rattle.field_tables.specs.FieldValues.{is_set}
use Rattle.field_tables.specs.FirstFault.{first_fault}
use Rattle.field_tables.specs.LaneSets.{Lanes, is_empty, run_of}
use Rattle.field_tables.specs.declared.field.Field.TheVariants as fields
use Rattle.field_tables.specs.declared.table.cmis.CmisField.TheVariants as cmis
use Rattle.applications.specs.declared.app.App.{App}
use Rattle.applications.specs.Advertised.{Advertised}
use Rattle.applications.specs.Usable.{is_usable}
use Rattle.datapath_states.specs.declared.status.ConfigStatus.{ConfigStatus}
use Rattle.datapath_states.specs.declared.status.ConfigStatus.TheVariants.{Rejected, RejectedInvalidAppSel, RejectedInvalidDataPath, RejectedInvalidSi, RejectedLanesInUse, RejectedPartialDataPath, InProgress}
use Rattle.control_sets.specs.HostPaths.{agree, control_at, first_lane, is_used}
use Rattle.sim_module.specs.declared.lane.Lane.{Lane}
use Rattle.sim_module.specs.declared.module.SimModule.{SimModule}
use Rattle.sim_module.specs.Registers.{is_from}
use Rattle.sim_module.specs.Lanes.{active_bytes, all_lanes, is_deactivated, lane_at, staged_bytes}

abbrev pub is_numbered : ℕ → App → Bool
is_numbered number app = app.number == number && is_usable app

-- the usable Application of this number
abbrev pub app_numbered : Advertised → ℕ → Option App
app_numbered advert number = find (is_numbered number) advert.apps

-- the lane's AppSelCode isn't 0
abbrev pub is_staged : SimModule → ℕ → Bool
is_staged sim lane = is_used (control_at (staged_bytes sim) lane)

-- the Application that a staged lane asks for
abbrev pub staged_app : SimModule → ℕ → Option App
staged_app sim lane = app_numbered sim.advert (control_at (staged_bytes sim) lane).app_sel_code

-- where the lane's staged path begins
abbrev pub staged_first : SimModule → ℕ → ℕ
staged_first sim lane = first_lane (control_at (staged_bytes sim) lane)

abbrev pub is_explicit : SimModule → ℕ → Bool
is_explicit sim lane = is_set (fields.Cmis cmis.StagedExplicit) (lane_at sim lane).staged

-- the lanes are staged as this lane is, but for ExplicitControl
abbrev pub are_staged_alike : SimModule → Lanes → ℕ → Bool
are_staged_alike sim lanes lane = list_all (λ other. not (set.contains lanes other) || agree (staged_bytes sim) lane other) all_lanes

-- a path of an Application that begins at a lane can be there, holds this lane, and its lanes are staged alike
abbrev pub is_path_for : SimModule → ℕ → ℕ → App → Bool
is_path_for sim lane first app =
    nat_le app.host_lanes (9 - first)
    && set.contains app.host_starts first
    && set.contains (run_of first app.host_lanes) lane
    && are_staged_alike sim (run_of first app.host_lanes) lane

abbrev pub is_path_right : SimModule → ℕ → Bool
is_path_right sim lane = option_map_or (is_path_for sim lane (staged_first sim lane)) (staged_app sim lane) true

-- the other lane is one of the path that the lane is staged for
abbrev pub is_of_staged_path : SimModule → ℕ → ℕ → Bool
is_of_staged_path sim lane other = option_map_or (λ (app : App). is_from (staged_first sim lane) app.host_lanes other) (staged_app sim lane) false

-- the other lane is one of the lane's active path
abbrev pub is_of_active_path : SimModule → ℕ → ℕ → Bool
is_of_active_path sim lane other = is_used (control_at (active_bytes sim) lane) && agree (active_bytes sim) lane other

-- the lanes of both its paths are in the mask
abbrev pub are_paths_within : SimModule → Lanes → ℕ → Bool
are_paths_within sim mask lane =
    list_all (λ other. set.contains mask other || not (is_of_staged_path sim lane other || is_of_active_path sim lane other)) all_lanes

-- why a lane can't be applied together with the lanes of a mask: the first of these that holds
abbrev pub refusals : SimModule → Lanes → ℕ → List (Bool × ConfigStatus)
refusals sim mask lane =
    (not (is_deactivated sim lane), RejectedLanesInUse)
    ∷ (is_staged sim lane && is_none (staged_app sim lane), RejectedInvalidAppSel)
    ∷ (is_staged sim lane && is_explicit sim lane, RejectedInvalidSi)
    ∷ (is_staged sim lane && not (is_path_right sim lane), RejectedInvalidDataPath)
    ∷ (not (are_paths_within sim mask lane), RejectedPartialDataPath)
    ∷ []

unfoldable pub refusal : SimModule → Lanes → ℕ → Option ConfigStatus
refusal sim mask lane = first_fault (refusals sim mask lane)

-- each lane of the mask can be applied
unfoldable pub is_applicable : SimModule → Lanes → Bool
is_applicable sim mask = list_all (λ lane. not (set.contains mask lane) || is_none (refusal sim mask lane)) all_lanes

-- an apply in progress has ended without effect
abbrev pub dropped_lane : Lane → Lane
dropped_lane lane = if is_some lane.applying then record lane { status = Rejected; applying = None } else lane

-- an apply of the lane begins, with the byte that is staged now
abbrev pub begun_lane : Lane → Lane
begun_lane lane = record lane { status = InProgress; applying = Some lane.staged }

abbrev pub refused_lane : Lane → ConfigStatus → Lane
refused_lane lane status = record lane { status = status; applying = None }

unfoldable pub applied_to : SimModule → Lanes → ℕ → Lane
applied_to sim mask lane =
    if not (set.contains mask lane) then dropped_lane (lane_at sim lane)
    else if is_applicable sim mask then begun_lane (lane_at sim lane)
    else refused_lane (lane_at sim lane) (unwrap_or (refusal sim mask lane) Rejected)

-- to the lanes of a mask
abbrev pub applied_all : SimModule → Lanes → SimModule
applied_all sim mask = record sim {
  lanes = map (applied_to sim mask) all_lanes;
  apply_left = if is_applicable sim mask then sim.delays.apply else 0;
}

-- a mask without lanes does nothing
unfoldable pub applied : SimModule → Lanes → SimModule
applied sim mask = if is_empty mask then sim else applied_all sim mask
