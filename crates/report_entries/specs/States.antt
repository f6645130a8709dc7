-- The states and statuses that stand in a module's memory, by their codes. (docs/formats.md, "flags"; docs/states.md;
-- OIF-CMIS-05.0, Module State of the lower memory; Data Path States and Configuration Command Status of page 11h)
use Rattle.std.specs.Prelude.{ℕ, List, ◌∷◌, ◌++◌, codes}
use Rattle.std.specs.Fmt.{decimal}
use Rattle.std.specs.Option.{option_map_or}
use Rattle.module_states.specs.Codes as module_codes
use Rattle.module_states.specs.Names as module_names
use Rattle.datapath_states.specs.Names as path_names
use Rattle.datapath_states.specs.Names.{status_name}
use Rattle.datapath_states.specs.StateCodes as path_codes
use Rattle.datapath_states.specs.StatusCodes.{status_at}

-- a code that has no name
abbrev pub reserved_text : ℕ → List ℕ
reserved_text code = codes "reserved-" ++ decimal code

unfoldable pub module_state_text : ℕ → List ℕ
module_state_text code = option_map_or module_names.name_of (module_codes.state_at code) (reserved_text code)

unfoldable pub path_state_text : ℕ → List ℕ
path_state_text code = option_map_or path_names.name_of (path_codes.state_at code) (reserved_text code)

unfoldable pub status_text : ℕ → List ℕ
status_text code = option_map_or status_name (status_at code) (reserved_text code)

-- a lane with the state of its data path and the status of its configuration, by their codes
unfoldable pub lane_codes_text : ℕ → ℕ → ℕ → List ℕ
lane_codes_text lane state status = decimal lane ++ 32 ∷ path_state_text state ++ 32 ∷ status_text status
