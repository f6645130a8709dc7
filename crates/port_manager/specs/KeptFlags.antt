-- No flag that a CMIS module was read to raise is lost before it is acknowledged, and none of another module is counted. (this
-- project's own)
use Rattle.std.specs.Prelude.{◌≡◌, ◌≤◌, ◌<◌, ℕ, true, false, List, [], ◌∷◌, ◌++◌, slice_index}
use Rattle.bus_model.specs.declared.device.Dev.TheVariants.{A0, A2}
use Rattle.bus_model.specs.declared.operation.Op.{Op}
use Rattle.bus_model.specs.declared.operation.Op.TheVariants.{Fetch, Store}
use Rattle.bus_model.specs.declared.operation.Reply.{Reply}
use Rattle.bus_model.specs.declared.operation.Reply.TheVariants.{Bytes, Done, Refused}
use Rattle.paged_memory.specs.declared.page_addressing.KnownPage.{KnownPage}
use Rattle.paged_memory.specs.KnownPages.{is_known}
use Rattle.port_manager.specs.declared.deciding.Wanted.{Wanted}
use Rattle.port_manager.specs.declared.port.Outcome.{Outcome}
use Rattle.port_manager.specs.Flags.{identifier_by, is_cmis, is_raised}
use Rattle.port_manager.specs.Stories.{Story, acknowledge, keeper_in, plug, pull, reconsider, ask, make, drop, hold, demand, hear}

-- byte 0 of the lower memory, if the reply shows it, and else as it was read before
abbrev pub identifier_read : Op → Reply → ℕ → ℕ
identifier_read (Fetch A0 offset count) (Bytes bytes) before = identifier_by before offset bytes.items
identifier_read (Fetch A0 offset count) Done before = before
identifier_read (Fetch A0 offset count) Refused before = before
identifier_read (Fetch A2 offset count) reply before = before
identifier_read (Store dev offset bytes) reply before = before

-- as it was last read since a module was plugged; 0 before that
abbrev pub identifier_in : Story → ℕ
identifier_in [] = 0
identifier_in (plug now ∷ before) = 0
identifier_in (pull ∷ before) = 0
identifier_in (reconsider ∷ before) = identifier_in before
identifier_in (hold held ∷ before) = identifier_in before
identifier_in (demand request ∷ before) = identifier_in before
identifier_in (acknowledge past ∷ before) = identifier_in before
identifier_in (hear alive began ∷ before) = identifier_in before
identifier_in (ask op moment ∷ before) = identifier_in before
identifier_in (make op reply wanted now result ∷ before) = identifier_read op reply (identifier_in before)
identifier_in (drop ∷ before) = identifier_in before

-- after this reply, the module was last read to be one of CMIS
abbrev pub ShowsCmis : Op → Reply → Story → Type 0
ShowsCmis op reply before = is_cmis (identifier_read op reply (identifier_in before)) ≡ true

-- or to be none, or wasn't read
abbrev pub ShowsOther : Op → Reply → Story → Type 0
ShowsOther op reply before = is_cmis (identifier_read op reply (identifier_in before)) ≡ false

-- the reply shows the module's flag in this place as raised
pub record ShowsModule (op : Op) (reply : Reply) (place : ℕ) : Type 0 where
  pub offset : ℕ
  pub count : ℕ
  pub bytes : List ℕ
  pub fetches : op ≡ Fetch A0 offset count
  pub reads : reply ≡ Bytes (record { items = bytes })
  pub raised : is_raised offset bytes 8 place ≡ true

-- or the lane's, since page 11h is selected
pub record ShowsLane (selected : KnownPage) (op : Op) (reply : Reply) (place : ℕ) : Type 0 where
  pub offset : ℕ
  pub count : ℕ
  pub bytes : List ℕ
  pub known : is_known selected 0x11 ≡ true
  pub fetches : op ≡ Fetch A0 offset count
  pub reads : reply ≡ Bytes (record { items = bytes })
  pub raised : is_raised offset bytes 134 place ≡ true

-- nobody has acknowledged what was read at this moment
abbrev pub IsUnacknowledged : ℕ → Story → Type 0
IsUnacknowledged now [] = Unit {0}
IsUnacknowledged now (plug moment ∷ before) = IsUnacknowledged now before
IsUnacknowledged now (pull ∷ before) = IsUnacknowledged now before
IsUnacknowledged now (reconsider ∷ before) = IsUnacknowledged now before
IsUnacknowledged now (hold held ∷ before) = IsUnacknowledged now before
IsUnacknowledged now (demand request ∷ before) = IsUnacknowledged now before
IsUnacknowledged now (acknowledge past ∷ before) = (past < now) × IsUnacknowledged now before
IsUnacknowledged now (hear alive began ∷ before) = IsUnacknowledged now before
IsUnacknowledged now (ask op moment ∷ before) = IsUnacknowledged now before
IsUnacknowledged now (make op reply wanted moment result ∷ before) = IsUnacknowledged now before
IsUnacknowledged now (drop ∷ before) = IsUnacknowledged now before

-- it was raised, at this moment or after it
abbrev pub IsHeld : List ℕ → List ℕ → ℕ → ℕ → Type 0
IsHeld counts last now place = (1 ≤ slice_index counts place) × (now ≤ slice_index last place)

-- what a reply of a CMIS module shows is counted and dated until that is acknowledged, whatever comes between; what one of another
-- module shows is neither
pub record NoFlagIsLost : Type 0 where
  pub module_flags : (more before : Story) (op : Op) (reply : Reply) (wanted : Wanted) (now : ℕ) (result : Outcome) (place : ℕ) → place < 32 → ShowsCmis op reply before → ShowsModule op reply place → IsUnacknowledged now more
      → IsHeld (keeper_in (more ++ (make op reply wanted now result ∷ before))).flags.module_counts (keeper_in (more ++ (make op reply wanted now result ∷ before))).flags.module_last now place
  pub lane_flags : (more before : Story) (op : Op) (reply : Reply) (wanted : Wanted) (now : ℕ) (result : Outcome) (place : ℕ) → place < 152 → ShowsCmis op reply before → ShowsLane (keeper_in before).selected op reply place → IsUnacknowledged now more
      → IsHeld (keeper_in (more ++ (make op reply wanted now result ∷ before))).flags.lanes.counts (keeper_in (more ++ (make op reply wanted now result ∷ before))).flags.lanes.last now place
  pub of_another : (before : Story) (op : Op) (reply : Reply) (wanted : Wanted) (now : ℕ) (result : Outcome) → ShowsOther op reply before
      → (keeper_in (make op reply wanted now result ∷ before)).flags ≡ (keeper_in before).flags
