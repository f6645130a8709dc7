-- What a change from the memory as read to a plan does to the lanes, and what stands against it. (docs/port.md, "Provision";
-- OIF-CMIS-05.0: module state of the lower memory; DPDeinit and ApplyDPInit of page 10h; DPState and the Active Control Set of
-- page 11h)
use Rattle.std.specs.Prelude.{◌≡◌, ◌⊎◌, ℕ, ◌-◌, ◌==◌, ◌&&◌, ◌||◌, not, Bool, List, [], ◌∷◌, Option, Some, None, Result, Ok, Err, true, if◌then◌else◌}
use Rattle.std.specs.List.{list_all, list_any, range_with_len}
use Rattle.std.specs.FinMap as map
use Rattle.std.specs.FinSet as set
use Rattle.bus_model.specs.declared.device.Dev.TheVariants.{A0}
use Rattle.bus_model.specs.declared.operation.Op.{Op}
use Rattle.field_tables.specs.declared.field.Field.TheVariants as fields
use Rattle.field_tables.specs.declared.table.cmis.CmisField.TheVariants as cmis
use Rattle.field_tables.specs.declared.field.Register.TheVariants as registers
use Rattle.field_tables.specs.LaneSets.{Lanes, byte_of, every_lane, is_empty}
use Rattle.field_tables.specs.Readings.{number}
use Rattle.paged_memory.specs.Images.{Memory}
use Rattle.paged_memory.specs.declared.key.Key.{Key}
use Rattle.paged_memory.specs.Keys.{lower_key, upper_key}
use Rattle.control_sets.specs.ControlBytes.{control_of}
use Rattle.control_sets.specs.HostPaths.{agree, are_same, control_at, is_used}
use Rattle.control_sets.specs.RegisterOperations.{store_to}
use Rattle.port_manager.specs.declared.change.Change.{Change}
use Rattle.port_manager.specs.declared.change.Effect.{Effect}
use Rattle.port_manager.specs.declared.change.Hindrance.{Hindrance}
use Rattle.port_manager.specs.declared.change.Hindrance.TheVariants.{OtherBytes, State, ComesUp, NoPath, GoesDown}
use Rattle.port_manager.specs.declared.change.Role.{Role}
use Rattle.port_manager.specs.declared.change.Role.TheVariants as role
use Rattle.port_manager.specs.Decisions.{page_of_lanes}
use Rattle.port_manager.specs.Goals.{active_at, are_up, has_all, is_active, is_deactivated, is_permitted_if}

-- ---- paths of the plan that are active

-- the plan's path on a lane is active on the other lane exactly if the plan has it there; ExplicitControl is 0 on its own lanes
abbrev pub is_same_on : List ℕ → List ℕ → ℕ → ℕ → Bool
is_same_on page control lane other = if agree control lane other then is_active page control other else not (are_same (control_of (active_at page other)) (control_at control lane))

abbrev pub has_same_lanes : List ℕ → List ℕ → ℕ → Bool
has_same_lanes page control lane = list_all (is_same_on page control lane) (range_with_len 1 8)

-- some lane of it is not down
abbrev pub is_somewhere_alive : List ℕ → List ℕ → ℕ → Bool
is_somewhere_alive page control lane = list_any (λ other. agree control lane other && not (is_deactivated page other)) (range_with_len 1 8)

-- the plan's path on the lane is active, on the same lanes, and not down
abbrev pub stands : List ℕ → List ℕ → ℕ → Bool
stands page control lane = is_used (control_at control lane) && (has_same_lanes page control lane && is_somewhere_alive page control lane)

-- ---- what the change does to a lane

-- the control bytes are to become active
abbrev pub provisions : List ℕ → Change → Bool
provisions page change = not (has_all page change.goal.control)

-- the lanes are to come up
abbrev pub activates : List ℕ → Change → Bool
activates page change = change.activates && (provisions page change || not (are_up page change.goal.control change.goal.lanes))

-- provisioning sets DPDeinit and ApplyDPInit of the lanes of no kept path, but not those of a path that is spared
abbrev pub is_taken : List ℕ → Change → ℕ → Bool
is_taken page change lane = provisions page change && (set.contains change.goal.outside lane && not (change.spares && stands page change.goal.control lane))

-- activation sets DPDeinit of all lanes but the plan's
abbrev pub is_held_down : List ℕ → Change → ℕ → Bool
is_held_down page change lane = activates page change && not (set.contains change.goal.lanes lane)

-- a lane goes down, even if it comes up again
abbrev pub goes_down : List ℕ → Change → ℕ → Bool
goes_down page change lane = (is_taken page change lane || is_held_down page change lane) && not (is_deactivated page lane)

-- provisioning clears DPDeinit of the lanes that it doesn't take, and activation that of the plan's
abbrev pub comes_up : List ℕ → Change → ℕ → Bool
comes_up page change lane =
    is_deactivated page lane && (provisions page change && not (is_taken page change lane) || activates page change && set.contains change.goal.lanes lane)

-- ---- what it may do

-- a lane may come up if it is wanted up, or if that is permitted
abbrev pub may_come_up : Change → ℕ → Bool
may_come_up change lane = change.activates && set.contains change.goal.lanes lane || set.contains change.may.bring_up lane

-- a module in low power has to be woken up
abbrev pub is_ready : Change → ℕ → Bool
is_ready change state = state == 3 || state == 1 && change.wakes

abbrev pub has_role : Role → List ℕ → Change → ℕ → Bool
has_role role.Taken page change lane = is_taken page change lane
has_role role.GoesDown page change lane = goes_down page change lane
has_role role.ComesUp page change lane = comes_up page change lane
has_role role.Stays page change lane = not (is_deactivated page lane) && not (goes_down page change lane)
has_role role.Differs page change lane = not (is_active page change.goal.control lane) && not (is_taken page change lane)
has_role role.ComesUpUnpermitted page change lane = comes_up page change lane && not (may_come_up change lane)
has_role role.GoesDownUnpermitted page change lane = not (is_permitted_if (goes_down page change lane) change.may.take_down lane)

unfoldable pub lanes_with : Role → List ℕ → Change → Lanes
lanes_with role page change = set.retain every_lane (has_role role page change)

abbrev pub unless_empty : Lanes → Hindrance → Option Hindrance → Option Hindrance
unless_empty lanes hindrance others = if is_empty lanes then others else Some hindrance

-- the first of what stands against it
abbrev pub first_hindrance : Change → ℕ → List ℕ → Option Hindrance
first_hindrance change state page =
    let differs = lanes_with role.Differs page change in
    let rises = lanes_with role.ComesUpUnpermitted page change in
    let falls = lanes_with role.GoesDownUnpermitted page change in
    unless_empty differs (OtherBytes differs)
    (if not (is_ready change state) then Some (State state)
    else unless_empty rises (ComesUp rises)
    (if is_empty change.goal.lanes && not change.may.no_path then Some NoPath
    else unless_empty falls (GoesDown falls) None))

-- all is as it is wanted
abbrev pub is_done : Change → ℕ → List ℕ → Bool
is_done change state page = not (provisions page change) && (not (activates page change) && (not change.wakes || state == 3))

-- in this state of the module, by its page 11h
abbrev pub judged_by : Change → ℕ → List ℕ → Effect
judged_by change state page = record {
  taken = lanes_with role.Taken page change;
  goes_down = lanes_with role.GoesDown page change;
  comes_up = lanes_with role.ComesUp page change;
  stays = lanes_with role.Stays page change;
  is_active = has_all page change.goal.control;
  is_done = is_done change state page;
  against = first_hindrance change state page;
}

abbrev pub judged_in : Change → ℕ → Option (List ℕ) → Result Effect Key
judged_in change state None = Err (upper_key A0 0 0x11)
judged_in change state (Some page) = Ok (judged_by change state page)

-- if the memory has its lower half and page 11h
abbrev pub judged : Memory → Change → Result Effect Key
judged image change = if map.contains_key image (lower_key A0) then judged_in change (number image (fields.Cmis cmis.ModuleState)) (page_of_lanes image) else Err (lower_key A0)

-- ---- its stores

-- provisioning takes down and applies the lanes that are taken, and stages the plan; activation holds all lanes down but the plan's
abbrev pub IsStoreOfChange : List ℕ → Change → Op → Type 0
IsStoreOfChange page change op =
    (op ≡ store_to registers.DPDeinit (byte_of (lanes_with role.Taken page change) ∷ []))
    ⊎ ((op ≡ store_to registers.StagedControl change.goal.control)
    ⊎ ((op ≡ store_to registers.ApplyDPInit (byte_of (lanes_with role.Taken page change) ∷ []))
    ⊎ ((activates page change ≡ true) × (op ≡ store_to registers.DPDeinit ((255 - byte_of change.goal.lanes) ∷ [])))))
