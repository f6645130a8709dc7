-- What lanes tell: their bytes and codes, and the lowest lane of which something holds. (docs/bus.md, "Outcomes";
-- OIF-CMIS-05.0: Module State, Data Path States, Configuration Command Status)
use Rattle.std.specs.Prelude.{◌≡◌, ◌≢◌, ◌⊎◌, ◌-◌, ◌<◌, ◌≤◌, ℕ, List, Some, None, true, slice_index}
use Rattle.std.specs.FinSet as set
use Rattle.field_tables.specs.declared.field.Field.TheVariants as fields
use Rattle.field_tables.specs.declared.table.cmis.CmisField.TheVariants as cmis
use Rattle.field_tables.specs.FieldValues.{number_in_byte}
use Rattle.field_tables.specs.LaneSets.{IsLane, Lanes}
use Rattle.module_states.specs.declared.state.ModuleState.{ModuleState}
use Rattle.module_states.specs.declared.state.ModuleState.TheVariants.{Ready}
use Rattle.module_states.specs.Codes.{state_at as module_state_at}
use Rattle.datapath_states.specs.StateCodes.{state_at as path_state_at}
use Rattle.datapath_states.specs.StatusCodes.{status_at}
use Rattle.datapath_states.specs.Lanes.{code_in}

-- one of the lanes of a set
abbrev pub IsOf : Lanes → ℕ → Type 0
IsOf lanes lane = IsLane lane × (set.contains lanes lane ≡ true)

-- the byte of a lane, of eight bytes
abbrev pub byte_at : List ℕ → ℕ → ℕ
byte_at bytes lane = slice_index bytes (lane - 1)

-- P holds of the lane, and of no lower one
pub record IsLowest (P : ℕ → Type 0) (lane : ℕ) : Type 0 where
  pub is_lane : IsLane lane
  pub holds : P lane
  pub lowest : (lower : ℕ) → IsLane lower → lower < lane → ¬ (P lower)

-- the lane is the lowest whose byte isn't the control byte
abbrev pub DiffersAt : List ℕ → ℕ → List ℕ → Type 0
DiffersAt control lane bytes = IsLowest (λ lane. byte_at bytes lane ≢ byte_at control lane) lane

-- the code of the module state, in the byte that was read
abbrev pub module_code : List ℕ → ℕ
module_code bytes = number_in_byte (fields.Cmis cmis.ModuleState) (slice_index bytes 0)

abbrev pub IsReady : List ℕ → Type 0
IsReady bytes = module_state_at (module_code bytes) ≡ Some Ready

-- the module is in another state, which has the code
abbrev pub IsInOtherState : ℕ → List ℕ → Type 0
IsInOtherState code bytes = (code ≡ module_code bytes) × (state : ModuleState) × (module_state_at code ≡ Some state) × (state ≢ Ready)

-- it tells a code that no state has
abbrev pub IsInNoState : ℕ → List ℕ → Type 0
IsInNoState code bytes = (code ≡ module_code bytes) × (module_state_at code ≡ None)

abbrev pub IsReservedPathState : ℕ → Type 0
IsReservedPathState code = path_state_at code ≡ None

abbrev pub IsReservedStatus : ℕ → Type 0
IsReservedStatus code = status_at code ≡ None

-- the configuration was rejected: for a reason that the standard names, or one of the module's own
abbrev pub IsRejection : ℕ → Type 0
IsRejection code = ((2 ≤ code) × (code ≤ 7)) ⊎ ((13 ≤ code) × (code ≤ 15))

-- each of these lanes has the code
abbrev pub AllHave : ℕ → Lanes → List ℕ → Type 0
AllHave code lanes bytes = (lane : ℕ) → IsOf lanes lane → code_in bytes lane ≡ code

-- the lane is one of these, and P holds of its code
abbrev pub HasSuch : (ℕ → Type 0) → Lanes → List ℕ → ℕ → Type 0
HasSuch P lanes bytes lane = IsOf lanes lane × P (code_in bytes lane)

-- P holds of the code of none of these lanes
abbrev pub NoneHas : (ℕ → Type 0) → Lanes → List ℕ → Type 0
NoneHas P lanes bytes = (lane : ℕ) → ¬ (HasSuch P lanes bytes lane)

-- of these lanes it is the lowest of whose code P holds, and this is its code
pub record IsLowestSuch (P : ℕ → Type 0) (lanes : Lanes) (lane code : ℕ) (bytes : List ℕ) : Type 0 where
  pub lowest : IsLowest (HasSuch P lanes bytes) lane
  pub its_code : code ≡ code_in bytes lane

-- of these lanes none has a reserved status, and this one is the lowest that was rejected, with the code
abbrev pub IsRejectedAt : Lanes → ℕ → ℕ → List ℕ → Type 0
IsRejectedAt lanes lane code bytes = NoneHas IsReservedStatus lanes bytes × IsLowestSuch IsRejection lanes lane code bytes

-- the code is that of the lowest of these lanes with a reserved code
abbrev pub IsLowestReserved : (ℕ → Type 0) → Lanes → ℕ → List ℕ → Type 0
IsLowestReserved IsReserved lanes code bytes = (lane : ℕ) × IsLowestSuch IsReserved lanes lane code bytes
