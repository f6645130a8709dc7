-- What holds of a change of settings whatever happens: it is applied only to lanes that are up, and settings are called active only as
-- they were read last. Steps stand with the newest first. (docs/lanes.md; this project's own)
use Rattle.std.specs.Prelude.{◌≡◌, ◌⊎◌, ℕ, ◌==◌, false, List, [], ◌∷◌, Option, Some, None, if◌then◌else◌}
use Rattle.std.specs.Str.{bytes_eq}
use Rattle.bus_model.specs.declared.operation.Op.{Op}
use Rattle.bus_model.specs.declared.operation.Op.TheVariants.{Fetch, Store}
use Rattle.bus_model.specs.declared.operation.Reply.{Reply}
use Rattle.bus_model.specs.declared.operation.Reply.TheVariants.{Bytes, Done, Refused}
use Rattle.bus_model.specs.declared.operation.Step.{Step}
use Rattle.conversations.specs.declared.event.Event.TheVariants.{Made, Waited, Lacked, Asked}
use Rattle.conversations.specs.declared.next.Next.TheVariants.{Do, Wait}
use Rattle.conversations.specs.Events.{Events, steps_of}
use Rattle.field_tables.specs.LaneSets.{byte_of}
use Rattle.paged_memory.specs.PageAddressing.{EachStep, History}
use Rattle.lane_controls.specs.declared.settings_change.ChangingSettings.{ChangingSettings}
use Rattle.lane_controls.specs.declared.settings_change.SettingsChange.{SettingsChange}
use Rattle.lane_controls.specs.declared.settings_change.SettingsEnd.{SettingsEnd}
use Rattle.lane_controls.specs.declared.settings_change.SettingsEnd.TheVariants as ends
use Rattle.lane_controls.specs.declared.settings_change.SettingsPiece.{SettingsPiece}
use Rattle.lane_controls.specs.ByteHistories.{store_at}
use Rattle.lane_controls.specs.SettingsChanges.{down_lane, inactive_lane, mixed, rejected_lane, settings_after, store_piece, unfit_lane, wants}
use Rattle.lane_controls.specs.TestSteps.{IsFetching}

-- the bytes that were read last from there on, if any were
abbrev pub bytes_by : ℕ → Option (List ℕ) → Op → Reply → Option (List ℕ)
bytes_by address known (Fetch dev offset count) (Bytes bytes) = if offset == address then Some bytes.items else known
bytes_by address known (Fetch dev offset count) Done = known
bytes_by address known (Fetch dev offset count) Refused = known
bytes_by address known (Store dev offset bytes) reply = known

abbrev pub bytes_read : ℕ → History → Option (List ℕ)
bytes_read address [] = None
bytes_read address (step ∷ before) = bytes_by address (bytes_read address before) step.op step.reply

-- each of the lanes is up, as states were read last
abbrev pub AreUp : SettingsChange → History → Type 0
AreUp change history = (states : List ℕ) × (bytes_read 128 history ≡ Some states) × (down_lane change.lanes states ≡ None)

-- each of them is under explicit control, and is active with the control byte that is staged
abbrev pub AreExplicit : SettingsChange → History → Type 0
AreExplicit change history = (staged active : List ℕ) × (bytes_read 145 history ≡ Some staged) × (bytes_read 206 history ≡ Some active) × (unfit_lane change.lanes staged active ≡ None)

-- a piece of the settings is staged: those of these lanes, and the others' as they were read
abbrev pub StagesSettings : SettingsChange → Step → History → Type 0
StagesSettings change step before = (staged : List ℕ) × (piece : SettingsPiece) × (bytes_read 145 before ≡ Some staged) × (step.op ≡ store_piece piece (mixed change staged))

-- exactly these lanes are applied, all staged settings having been read back
abbrev pub AppliesSettings : SettingsChange → Step → History → Type 0
AppliesSettings change step before = (staged : List ℕ) × (bytes_read 145 before ≡ Some staged) × (bytes_read 153 before ≡ Some (mixed change staged)) × (step.op ≡ store_at 144 (byte_of change.lanes))

-- something is read; or lanes that are up, and under explicit control, get settings
abbrev pub IsSettingsStep : SettingsChange → Step → History → Type 0
IsSettingsStep change step before =
    IsFetching step.op ⊎ (AreUp change before × AreExplicit change before × (StagesSettings change step before ⊎ AppliesSettings change step before))

-- these are the settings that are active, as they were read last
abbrev pub AreActive : SettingsChange → History → Type 0
AreActive change history = (active : List ℕ) × (bytes_read 214 history ≡ Some active) × (inactive_lane change.lanes change.settings active ≡ None)

abbrev pub HasEndedIn : SettingsChange → SettingsEnd → History → Type 0
HasEndedIn change ends.Active history = AreActive change history
HasEndedIn change (ends.NotUp lane) history = (states : List ℕ) × (bytes_read 128 history ≡ Some states) × (down_lane change.lanes states ≡ Some lane)
HasEndedIn change (ends.NotExplicit lane) history =
    (staged active : List ℕ) × (bytes_read 145 history ≡ Some staged) × (bytes_read 206 history ≡ Some active) × (unfit_lane change.lanes staged active ≡ Some lane)
HasEndedIn change ends.NotStaged history =
    (staged bytes : List ℕ) × (bytes_read 145 history ≡ Some staged) × (bytes_read 153 history ≡ Some bytes) × (bytes_eq bytes (mixed change staged) ≡ false)
HasEndedIn change (ends.Rejected lane) history = (statuses : List ℕ) × (bytes_read 202 history ≡ Some statuses) × (rejected_lane change.lanes statuses ≡ Some lane)
HasEndedIn change (ends.NotActive lane) history = (active : List ℕ) × (bytes_read 214 history ≡ Some active) × (inactive_lane change.lanes change.settings active ≡ Some lane)

-- ---- events

abbrev pub EachIsWanted : SettingsChange → Events → Type 0
EachIsWanted change [] = Unit {0}
EachIsWanted change (Made step ∷ before) = (wants (settings_after change before) ≡ Do step.op) × EachIsWanted change before
EachIsWanted change (Waited time ∷ before) = (wants (settings_after change before) ≡ Wait time) × EachIsWanted change before
EachIsWanted change (Lacked page ∷ before) = EachIsWanted change before
EachIsWanted change (Asked number ∷ before) = EachIsWanted change before

pub record IsTold (events : Events) (changing : ChangingSettings) : Type 0 where
  pub is : changing ≡ settings_after changing.change events
  pub each : EachIsWanted changing.change events

abbrev pub GoesOn : SettingsChange → Events → Type 0
GoesOn change events = EachStep (IsSettingsStep change) (steps_of events)

pub record HasEnded (change : SettingsChange) (events : Events) (end : SettingsEnd) : Type 0 where
  pub steps : EachStep (IsSettingsStep change) (steps_of events)
  pub ended : HasEndedIn change end (steps_of events)
