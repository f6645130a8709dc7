-- What is to be done with a module whose memory was read: which decision, exactly. (this project's own; OIF-CMIS-05.0: module
-- state of the lower memory, MaxPower of page 00h, page 11h)
use Rattle.std.specs.Prelude.{◌≡◌, ℕ, ◌==◌, ◌&&◌, nat_le, Bool, true, false, List, Option, Some, None, MatchOption, if◌then◌else◌}
use Rattle.std.specs.FinMap as map
use Rattle.std.specs.FinSet as set
use Rattle.bus_model.specs.declared.device.Dev.TheVariants.{A0}
use Rattle.field_tables.specs.declared.field.Field.TheVariants as fields
use Rattle.field_tables.specs.declared.table.cmis.CmisField.TheVariants as cmis
use Rattle.field_tables.specs.LaneSets as lanes
use Rattle.field_tables.specs.Readings.{number}
use Rattle.paged_memory.specs.Images.{Memory}
use Rattle.paged_memory.specs.Keys.{upper_key}
use Rattle.applications.specs.Refusals.{advert_fault_under}
use Rattle.port_manager.specs.declared.deciding.Decision.{Decision}
use Rattle.port_manager.specs.declared.deciding.Decision.TheVariants.{Leave, Wake, Sleep, Hold, Activate, Provision}
use Rattle.port_manager.specs.declared.deciding.Goal.{Goal}
use Rattle.port_manager.specs.declared.deciding.LeftBecause.TheVariants.{Advert, NoLanes, NoPlan, NeedsPower, NeedsPermission, Asleep}
use Rattle.port_manager.specs.declared.deciding.Wanted.{Wanted}
use Rattle.port_manager.specs.Goals.{HasGoal, advert_of, are_up, conventions_of, has_all, may_activate, may_provision}

-- a module that is not ready is woken up if it needs no more power than it may have
abbrev pub wake_within : Wanted → Memory → Decision
wake_within wanted image = if nat_le (number image (fields.Cmis cmis.MaxPower)) wanted.max_power then Wake else Leave NeedsPower

-- unless lanes that are up would be taken down, and may not be
abbrev pub if_permitted : Bool → Decision → Decision
if_permitted may decision = if may then decision else Leave NeedsPermission

-- no path is wanted, though no lane is to be down
abbrev pub has_no_plan : Wanted → Goal → Bool
has_no_plan wanted goal = lanes.is_empty goal.lanes && lanes.is_empty wanted.down

-- by what page 11h shows: what is up with its control bytes is held
abbrev pub judged_by : Wanted → List ℕ → Goal → Decision
judged_by wanted page goal =
    if has_no_plan wanted goal then Leave NoPlan
    else if has_all page goal.control then (if are_up page goal.control goal.lanes then Hold goal else if_permitted (may_activate page goal.lanes wanted.may_take_down) (Activate goal))
    else if_permitted (may_provision page goal.outside wanted.may_take_down) (Provision goal)

-- of a module that is ready, by its page 11h
abbrev pub IsJudged : Wanted → Memory → Option (List ℕ) → Decision → Type 0
IsJudged wanted image None decision = decision ≡ Leave NoLanes
IsJudged wanted image (Some page) decision = (goal : Goal) × HasGoal (advert_of wanted image) wanted page goal × (decision ≡ judged_by wanted page goal)

abbrev pub page_of_lanes : Memory → Option (List ℕ)
page_of_lanes image = map.get image (upper_key A0 0 0x11)

-- of a module that advertises something, by whether it is ready
abbrev pub IsDecisionIn : Wanted → Memory → Bool → Decision → Type 0
IsDecisionIn wanted image true decision = IsJudged wanted image (page_of_lanes image) decision
IsDecisionIn wanted image false decision = decision ≡ wake_within wanted image

-- with one that is to be awake
abbrev pub IsDecisionAwake : Wanted → Memory → Decision → Type 0
IsDecisionAwake wanted image decision =
    MatchOption (advert_fault_under (conventions_of wanted) image)
    (IsDecisionIn wanted image (number image (fields.Cmis cmis.ModuleState) == 3) decision)
    (λ fault. decision ≡ Leave (Advert fault))

-- a module goes to low power if all lanes that page 11h shows as up may be taken down
abbrev pub sleep_by : lanes.Lanes → List ℕ → Decision
sleep_by may page = if_permitted (may_activate page set.empty may) Sleep

abbrev pub sleep_in : lanes.Lanes → Option (List ℕ) → Decision
sleep_in may None = Leave NoLanes
sleep_in may (Some page) = sleep_by may page

-- and unless it is in low power
abbrev pub sleep_within : lanes.Lanes → Memory → Decision
sleep_within may image = if number image (fields.Cmis cmis.ModuleState) == 1 then Leave Asleep else sleep_in may (page_of_lanes image)

-- with one that is to be in low power
abbrev pub IsDecisionAsleep : Wanted → Memory → Decision → Type 0
IsDecisionAsleep wanted image decision =
    MatchOption (advert_fault_under (conventions_of wanted) image) (decision ≡ sleep_within wanted.may_take_down image) (λ fault. decision ≡ Leave (Advert fault))

abbrev pub IsDecisionFor : Bool → Wanted → Memory → Decision → Type 0
IsDecisionFor true wanted image decision = IsDecisionAsleep wanted image decision
IsDecisionFor false wanted image decision = IsDecisionAwake wanted image decision

-- what is to be done with the module of this image
abbrev pub IsDecision : Wanted → Memory → Decision → Type 0
IsDecision wanted image decision = IsDecisionFor wanted.asleep wanted image decision
