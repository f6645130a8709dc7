-- What C may read of a port's numbers besides those that `port_in` reads back in one way alone. (docs/manager.md, "From C"; this
-- project's own)
use Rattle.std.specs.Prelude.{◌≡◌, ℕ}
use Rattle.bus_model.specs.declared.device.Dev.{Dev}
use Rattle.bus_model.specs.declared.device.Dev.TheVariants.{A0, A2}
use Rattle.paged_memory.specs.declared.key.Half.{Half}
use Rattle.paged_memory.specs.declared.key.Half.TheVariants.{Lower, Upper}
use Rattle.paged_memory.specs.declared.key.Key.{Key}
use Rattle.field_tables.specs.LaneSets.{byte_of}
use Rattle.applications.specs.declared.fault.AdvertFault.{AdvertFault}
use Rattle.applications.specs.declared.fault.AdvertFault.TheVariants.{NotCmis, Revision, NotEightLanes, FlatMemory, Absent, BadSum}
use Rattle.port_manager.specs.declared.deciding.LeftBecause.{LeftBecause}
use Rattle.port_manager.specs.declared.deciding.LeftBecause.TheVariants.{Advert, NoLanes, NoPlan, NeedsPower, NeedsPermission, Asleep}
use Rattle.port_manager.specs.declared.port.Port.{Port}
use Rattle.port_manager.specs.declared.port.Stage.{Stage}
use Rattle.port_manager.specs.declared.port.Stage.TheVariants as stage
use Rattle.port_manager.specs.declared.request.Request.{Request}
use Rattle.port_manager.specs.declared.request.Request.TheVariants.{Wake, Sleep, Provision, Deactivate}
use Rattle.saved_port.specs.declared.numbers.SavedLeft.{SavedLeft}
use Rattle.saved_port.specs.declared.numbers.SavedPort.{SavedPort}
use Rattle.saved_port.specs.SavedPorts.{left_by, no_reason, number_of}

-- ---- why a module is left alone

abbrev pub number_of_device : Dev → ℕ
number_of_device A0 = 160
number_of_device A2 = 162

-- a lower half is on no page
abbrev pub absent_in : ℕ → Half → ℕ → ℕ → SavedLeft
absent_in device Lower bank page = record { reason = 14; value = 0; device = device; upper = 0; bank = 0; page = 0 }
absent_in device Upper bank page = record { reason = 14; value = 0; device = device; upper = 1; bank = bank; page = page }

abbrev pub absent_half : Key → SavedLeft
absent_half key = absent_in (number_of_device key.dev) key.half key.bank key.page

-- the value is what the memory shows, where there is one
abbrev pub left_by_advert : AdvertFault → SavedLeft
left_by_advert (NotCmis identifier) = left_by 11 identifier
left_by_advert (Revision revision) = left_by 12 revision
left_by_advert FlatMemory = left_by 13 0
left_by_advert (Absent key) = absent_half key
left_by_advert (BadSum page) = left_by 15 page
left_by_advert (NotEightLanes identifier) = left_by 16 identifier

abbrev pub left_because : LeftBecause → SavedLeft
left_because NoLanes = left_by 1 0
left_because NoPlan = left_by 2 0
left_because NeedsPower = left_by 3 0
left_because NeedsPermission = left_by 4 0
left_because Asleep = left_by 5 0
left_because (Advert fault) = left_by_advert fault

-- a module that isn't left alone has no reason
abbrev pub left_in : Stage → SavedLeft
left_in stage.Absent = no_reason
left_in (stage.Left reason) = left_because reason
left_in (stage.Working job) = no_reason

-- ---- what somebody has asked

abbrev pub number_of_request : Request → ℕ
number_of_request Wake = 0
number_of_request (Sleep lanes) = 1
number_of_request (Provision lanes) = 2
number_of_request (Deactivate lanes) = 3

abbrev pub lanes_of_request : Request → ℕ
lanes_of_request Wake = 0
lanes_of_request (Sleep lanes) = byte_of lanes
lanes_of_request (Provision lanes) = byte_of lanes
lanes_of_request (Deactivate lanes) = byte_of lanes

-- ---- a port

pub record IsShown (port : Port) (saved : SavedPort) : Type 0 where
  pub recheck_at : saved.recheck_at ≡ port.recheck_at
  pub held : saved.held ≡ number_of port.held
  pub left : saved.left ≡ left_in port.stage
  pub request : saved.request ≡ number_of_request port.request
  pub lanes : saved.request_lanes ≡ lanes_of_request port.request
  pub apply_refused : saved.apply_refused ≡ number_of port.apply_refused
