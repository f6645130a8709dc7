-- What somebody has asked of a port, beyond what its module is wanted for. (this project's own)
use Rattle.std.specs.Prelude.{◌||◌, Bool, true, false}
use Rattle.std.specs.FinSet as set
use Rattle.field_tables.specs.LaneSets.{Lanes}
use Rattle.port_manager.specs.declared.deciding.Wanted.{Wanted}
use Rattle.port_manager.specs.declared.request.Request.{Request}
use Rattle.port_manager.specs.declared.request.Request.TheVariants.{Wake, Sleep, Provision, Deactivate}

-- the host lanes that may be taken down where these may be without it: for a sleep those alone that it names
abbrev pub permitted : Request → Lanes → Lanes
permitted Wake may = may
permitted (Sleep lanes) may = lanes
permitted (Provision lanes) may = set.union may lanes
permitted (Deactivate lanes) may = set.union may lanes

abbrev pub is_sleep : Request → Bool
is_sleep Wake = false
is_sleep (Sleep lanes) = true
is_sleep (Provision lanes) = false
is_sleep (Deactivate lanes) = false

-- the host lanes that no data path is to have
abbrev pub down : Request → Lanes
down Wake = set.empty
down (Sleep lanes) = set.empty
down (Provision lanes) = set.empty
down (Deactivate lanes) = lanes

-- what is wanted, with what was asked
abbrev pub granted : Request → Wanted → Wanted
granted request wanted = record wanted {
  may_take_down = permitted request wanted.may_take_down;
  asleep = wanted.asleep || is_sleep request;
  down = set.union wanted.down (down request);
}

-- permission ends once the module is as it is wanted, or is left alone
abbrev pub ended : Request → Request
ended Wake = Wake
ended (Sleep lanes) = Sleep lanes
ended (Provision lanes) = Wake
ended (Deactivate lanes) = Deactivate lanes
