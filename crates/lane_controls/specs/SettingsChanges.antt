-- Signal integrity settings that lanes get while they are up, by ApplyImmediate (page 10h, byte 144): what is asked for, and what a
-- reply makes of it. (docs/lanes.md; OIF-CMIS-05.0, Staged Control Set 0, Apply Triggers)
use Rattle.std.specs.Prelude.{ℕ, ◌+◌, ◌-◌, ◌*◌, ◌%◌, ◌==◌, ◌&&◌, ◌||◌, nat_lt, not, Bool, List, [], ◌∷◌, Option, Some, None, if◌then◌else◌, slice_index, find, take, drop}
use Rattle.std.specs.FinSet as set
use Rattle.std.specs.Int.{bit_at}
use Rattle.std.specs.List.{range_with_len}
use Rattle.std.specs.Str.{bytes_eq}
use Rattle.bus_model.specs.declared.device.Dev.TheVariants.{A0}
use Rattle.bus_model.specs.declared.operation.Op.{Op}
use Rattle.bus_model.specs.declared.operation.Op.TheVariants.{Fetch, Store}
use Rattle.bus_model.specs.declared.operation.Reply.{Reply}
use Rattle.bus_model.specs.declared.operation.Reply.TheVariants.{Bytes, Done, Refused}
use Rattle.conversations.specs.declared.event.Event.TheVariants.{Made, Waited, Lacked, Asked}
use Rattle.conversations.specs.declared.next.Next.{Next}
use Rattle.conversations.specs.declared.next.Next.TheVariants.{Do, End}
use Rattle.conversations.specs.Events.{Events}
use Rattle.field_tables.specs.LaneSets.{Lanes, byte_of}
use Rattle.lane_controls.specs.declared.signal_settings.LaneSettings.{LaneSettings}
use Rattle.lane_controls.specs.declared.settings_change.ChangingSettings.{ChangingSettings}
use Rattle.lane_controls.specs.declared.settings_change.SettingsChange.{SettingsChange}
use Rattle.lane_controls.specs.declared.settings_change.SettingsEnd.{SettingsEnd}
use Rattle.lane_controls.specs.declared.settings_change.SettingsEnd.TheVariants as ends
use Rattle.lane_controls.specs.declared.settings_change.SettingsPiece.{SettingsPiece}
use Rattle.lane_controls.specs.declared.settings_change.SettingsPiece.TheVariants.{First, Second, Third}
use Rattle.lane_controls.specs.declared.settings_change.SettingsStage.{SettingsStage}
use Rattle.lane_controls.specs.declared.settings_change.SettingsStage.TheVariants as stage
use Rattle.lane_controls.specs.ByteHistories.{store_at}
use Rattle.lane_controls.specs.Merging.{merged}
use Rattle.lane_controls.specs.SignalSettings.{half_of, settings_of}

-- ---- the lowest of these lanes that isn't as it has to be

abbrev pub lowest : Lanes → (ℕ → Bool) → Option ℕ
lowest lanes test = find (λ lane. set.contains lanes lane && test lane) (range_with_len 1 8)

-- DPActivated is 4, DPInitialized is 7
abbrev pub is_up_in : List ℕ → ℕ → Bool
is_up_in states lane = half_of states 0 (lane - 1) == 4 || half_of states 0 (lane - 1) == 7

abbrev pub down_lane : Lanes → List ℕ → Option ℕ
down_lane lanes states = lowest lanes (λ lane. not (is_up_in states lane))

-- it is under explicit control, and its staged byte is the active one: so nothing but settings changes
abbrev pub is_explicit_in : List ℕ → List ℕ → ℕ → Bool
is_explicit_in staged active lane = slice_index staged (lane - 1) == slice_index active (lane - 1) && slice_index active (lane - 1) % 2 == 1

abbrev pub unfit_lane : Lanes → List ℕ → List ℕ → Option ℕ
unfit_lane lanes staged active = lowest lanes (λ lane. not (is_explicit_in staged active lane))

-- ConfigSuccess is 1, ConfigInProgress is 12
abbrev pub has_status : List ℕ → ℕ → ℕ → Bool
has_status statuses status lane = half_of statuses 0 (lane - 1) == status

abbrev pub rejected_lane : Lanes → List ℕ → Option ℕ
rejected_lane lanes statuses = lowest lanes (λ lane. not (has_status statuses 1 lane || has_status statuses 12 lane))

abbrev pub waiting_lane : Lanes → List ℕ → Option ℕ
waiting_lane lanes statuses = lowest lanes (has_status statuses 12)

abbrev pub has_input : LaneSettings → LaneSettings → Bool
has_input want has = want.adaptive == has.adaptive && (want.recall == has.recall && (want.fixed_input == has.fixed_input && want.recover_tx == has.recover_tx))

abbrev pub has_output : LaneSettings → LaneSettings → Bool
has_output want has = want.recover_rx == has.recover_rx && (want.pre_cursor == has.pre_cursor && (want.post_cursor == has.post_cursor && want.amplitude == has.amplitude))

abbrev pub has_settings : List ℕ → List ℕ → ℕ → Bool
has_settings wanted active lane = has_input (settings_of wanted lane) (settings_of active lane) && has_output (settings_of wanted lane) (settings_of active lane)

abbrev pub inactive_lane : Lanes → List ℕ → List ℕ → Option ℕ
inactive_lane lanes wanted active = lowest lanes (λ lane. not (has_settings wanted active lane))

-- ---- what is staged: the settings of these lanes, and those of the others as they were read

abbrev pub half_mask : ℕ → ℕ → ℕ
half_mask lanes first = bit_at lanes first * 15 + bit_at lanes (first + 1) * 240

abbrev pub quarter_mask : ℕ → ℕ → ℕ
quarter_mask lanes first = bit_at lanes first * 3 + bit_at lanes (first + 1) * 12 + bit_at lanes (first + 2) * 48 + bit_at lanes (first + 3) * 192

-- the eight bytes before them are control bytes
abbrev pub mixed_at : List ℕ → List ℕ → ℕ → ℕ → ℕ
mixed_at wanted staged index mask = merged mask (slice_index wanted index) (slice_index staged (8 + index))

unfoldable pub mixed : SettingsChange → List ℕ → List ℕ
mixed change staged =
    let lanes = byte_of change.lanes in
    let at = mixed_at change.settings staged in
    at 0 lanes ∷ at 1 (quarter_mask lanes 0) ∷ at 2 (quarter_mask lanes 4)
    ∷ at 3 (half_mask lanes 0) ∷ at 4 (half_mask lanes 2) ∷ at 5 (half_mask lanes 4) ∷ at 6 (half_mask lanes 6)
    ∷ at 7 lanes ∷ at 8 lanes
    ∷ at 9 (half_mask lanes 0) ∷ at 10 (half_mask lanes 2) ∷ at 11 (half_mask lanes 4) ∷ at 12 (half_mask lanes 6)
    ∷ at 13 (half_mask lanes 0) ∷ at 14 (half_mask lanes 2) ∷ at 15 (half_mask lanes 4) ∷ at 16 (half_mask lanes 6)
    ∷ at 17 (half_mask lanes 0) ∷ at 18 (half_mask lanes 2) ∷ at 19 (half_mask lanes 4) ∷ at 20 (half_mask lanes 6) ∷ []

-- ---- what is asked for

abbrev pub read_from : ℕ → ℕ → Op
read_from address count = Fetch A0 address count

abbrev pub store_piece : SettingsPiece → List ℕ → Op
store_piece First settings = Store A0 153 (record { items = take 8 settings })
store_piece Second settings = Store A0 161 (record { items = take 8 (drop 8 settings) })
store_piece Third settings = Store A0 169 (record { items = take 5 (drop 16 settings) })

abbrev pub wants_at : SettingsStage → ChangingSettings → Next SettingsEnd
wants_at stage.States changing = Do (read_from 128 4)
wants_at stage.Staged changing = Do (read_from 145 29)
wants_at stage.Controls changing = Do (read_from 206 8)
wants_at (stage.Storing piece) changing = Do (store_piece piece changing.mixed)
wants_at stage.Stored changing = Do (read_from 153 21)
wants_at stage.Applying changing = Do (store_at 144 (byte_of changing.change.lanes))
wants_at stage.Applied changing = Do (read_from 202 4)
wants_at stage.Comparing changing = Do (read_from 214 21)
wants_at (stage.Ended end) changing = End end

abbrev pub wants : ChangingSettings → Next SettingsEnd
wants changing = wants_at changing.stage changing

abbrev pub page_at : SettingsStage → Option ℕ
page_at stage.States = Some 17
page_at stage.Staged = Some 16
page_at stage.Controls = Some 17
page_at (stage.Storing piece) = Some 16
page_at stage.Stored = Some 16
page_at stage.Applying = Some 16
page_at stage.Applied = Some 17
page_at stage.Comparing = Some 17
page_at (stage.Ended end) = None

-- ---- what a reply makes of it

abbrev pub nothing_mixed : List ℕ
nothing_mixed = 0 ∷ 0 ∷ 0 ∷ 0 ∷ 0 ∷ 0 ∷ 0 ∷ 0 ∷ 0 ∷ 0 ∷ 0 ∷ 0 ∷ 0 ∷ 0 ∷ 0 ∷ 0 ∷ 0 ∷ 0 ∷ 0 ∷ 0 ∷ 0 ∷ []

abbrev pub nothing_read : List ℕ
nothing_read = 0 ∷ 0 ∷ 0 ∷ 0 ∷ 0 ∷ 0 ∷ 0 ∷ 0 ∷ nothing_mixed

abbrev pub begun : SettingsChange → ChangingSettings
begun change = record { change = change; stage = stage.States; staged = nothing_read; mixed = nothing_mixed; tries = change.tries }

abbrev pub goes_to : SettingsStage → ChangingSettings → ChangingSettings
goes_to next changing = record changing { stage = next }

-- or it ends at the first lane that isn't as it has to be
abbrev pub unless : Option ℕ → (ℕ → SettingsEnd) → ChangingSettings → ChangingSettings → ChangingSettings
unless None end next changing = next
unless (Some lane) end next changing = goes_to (stage.Ended (end lane)) changing

abbrev pub states_read : List ℕ → ChangingSettings → ChangingSettings
states_read states changing = unless (down_lane changing.change.lanes states) ends.NotUp (goes_to stage.Staged changing) changing

abbrev pub controls_read : List ℕ → ChangingSettings → ChangingSettings
controls_read active changing =
    unless (unfit_lane changing.change.lanes changing.staged active) ends.NotExplicit
    (record changing { stage = stage.Storing First; mixed = mixed changing.change changing.staged }) changing

abbrev pub stored_read : List ℕ → ChangingSettings → ChangingSettings
stored_read bytes changing =
    if bytes_eq bytes changing.mixed then goes_to stage.Applying changing
    else (if nat_lt 0 changing.tries then record changing { stage = stage.Storing First; tries = changing.tries - 1 } else goes_to (stage.Ended ends.NotStaged) changing)

-- while some are in progress, statuses are read again
abbrev pub if_waiting : Option ℕ → ChangingSettings → ChangingSettings → ChangingSettings
if_waiting None done changing = done
if_waiting (Some lane) done changing = changing

abbrev pub statuses_read : List ℕ → ChangingSettings → ChangingSettings
statuses_read statuses changing =
    unless (rejected_lane changing.change.lanes statuses) ends.Rejected
    (if_waiting (waiting_lane changing.change.lanes statuses) (goes_to stage.Comparing changing) changing) changing

-- a module may show the success of an earlier configuration first
abbrev pub active_by : Option ℕ → ChangingSettings → ChangingSettings
active_by None changing = goes_to (stage.Ended ends.Active) changing
active_by (Some lane) changing =
    if nat_lt 0 changing.tries then record changing { stage = stage.Applied; tries = changing.tries - 1 } else goes_to (stage.Ended (ends.NotActive lane)) changing

abbrev pub active_read : List ℕ → ChangingSettings → ChangingSettings
active_read active changing = active_by (inactive_lane changing.change.lanes changing.change.settings active) changing

abbrev pub if_read : Reply → (List ℕ → ChangingSettings) → ChangingSettings → ChangingSettings
if_read (Bytes bytes) next changing = next bytes.items
if_read Done next changing = changing
if_read Refused next changing = changing

-- a store that was refused may have been carried out: what is staged is read back, and applying twice does no harm
abbrev pub if_done : Reply → ChangingSettings → ChangingSettings → ChangingSettings
if_done (Bytes bytes) next changing = changing
if_done Done next changing = next
if_done Refused next changing = changing

abbrev pub stage_after : SettingsPiece → SettingsStage
stage_after First = stage.Storing Second
stage_after Second = stage.Storing Third
stage_after Third = stage.Stored

abbrev pub after_at : SettingsStage → ChangingSettings → Reply → ChangingSettings
after_at stage.States changing reply = if_read reply (λ states. states_read states changing) changing
after_at stage.Staged changing reply = if_read reply (λ staged. record changing { stage = stage.Controls; staged = staged }) changing
after_at stage.Controls changing reply = if_read reply (λ active. controls_read active changing) changing
after_at (stage.Storing piece) changing reply = goes_to (stage_after piece) changing
after_at stage.Stored changing reply = if_read reply (λ bytes. stored_read bytes changing) changing
after_at stage.Applying changing reply = if_done reply (goes_to stage.Applied changing) changing
after_at stage.Applied changing reply = if_read reply (λ statuses. statuses_read statuses changing) changing
after_at stage.Comparing changing reply = if_read reply (λ active. active_read active changing) changing
after_at (stage.Ended end) changing reply = changing

abbrev pub after : ChangingSettings → Reply → ChangingSettings
after changing reply = after_at changing.stage changing reply

-- as it is after these events: no wait is asked for, and no word means anything
abbrev pub settings_after : SettingsChange → Events → ChangingSettings
settings_after change [] = begun change
settings_after change (Made step ∷ before) = after (settings_after change before) step.reply
settings_after change (Waited time ∷ before) = settings_after change before
settings_after change (Lacked page ∷ before) = settings_after change before
settings_after change (Asked number ∷ before) = settings_after change before
