-- The flags that a CMIS module was read to raise, how often and when, the codes of lanes beside them, and which page they were read
-- from. (OIF-CMIS-05.0, chapter 8 "Module Management Memory Map": identifier, byte 0; MemoryModel, byte 2; flags of the lower memory,
-- bytes 8 to 11; DPState, lane flags and ConfigStatus of page 11h, bytes 128 to 131, 134 to 152 and 202 to 205; bank and page select
-- bytes 126 and 127)
use Rattle.std.specs.Prelude.{◌+◌, ◌-◌, ◌/◌, ◌%◌, ◌==◌, ◌&&◌, ℕ, Bool, false, nat_le, nat_lt, List, drop, length, take, map, replicate, slice_index, if◌then◌else◌}
use Rattle.std.specs.Int.{bit_at}
use Rattle.std.specs.List.{range_with_len}
use Rattle.bus_model.specs.declared.device.Dev.TheVariants.{A0, A2}
use Rattle.bus_model.specs.declared.operation.Op.{Op}
use Rattle.bus_model.specs.declared.operation.Op.TheVariants.{Fetch, Store}
use Rattle.bus_model.specs.declared.operation.Reply.{Reply}
use Rattle.bus_model.specs.declared.operation.Reply.TheVariants.{Bytes, Done, Refused}
use Rattle.paged_memory.specs.declared.page_addressing.KnownPage.{KnownPage}
use Rattle.paged_memory.specs.declared.page_addressing.KnownPage.TheVariants.{Unknown}
use Rattle.paged_memory.specs.declared.page_addressing.PageAddressing.TheVariants.{BankAndPage}
use Rattle.paged_memory.specs.declared.family.Family.TheVariants.{Cmis}
use Rattle.paged_memory.specs.Families.{is_family, managed_by}
use Rattle.paged_memory.specs.KnownPages.{is_known, selection_read}
use Rattle.field_tables.specs.declared.field.Field.TheVariants as fields
use Rattle.field_tables.specs.declared.table.cmis.CmisField.TheVariants as cmis_fields
use Rattle.field_tables.specs.FieldValues.{number_in_byte}
use Rattle.port_manager.specs.declared.flags.Flags.{Flags}
use Rattle.port_manager.specs.declared.lane_flags.LaneFlags.{LaneFlags}
use Rattle.port_manager.specs.Codes.{no_codes, with_codes}
use Rattle.port_manager.specs.Counts.{later_of, one_more}
use Rattle.port_manager.specs.declared.flags.FlagKeeper.{FlagKeeper}

-- of a bank's eight lanes
abbrev pub no_lanes : LaneFlags
no_lanes = record { counts = replicate 152 0; last = replicate 152 0; states = no_codes; statuses = no_codes }

abbrev pub no_flags : Flags
no_flags = record { module_counts = replicate 32 0; module_last = replicate 32 0; lanes = no_lanes }

-- so often they were raised, and nothing is known of the module: an identifier of 0 is none's
abbrev pub unread : Flags → FlagKeeper
unread flags = record { selected = Unknown; identifier = 0; flags = flags }

-- a module with this identifier is managed by CMIS
abbrev pub is_cmis : ℕ → Bool
is_cmis identifier = is_family Cmis (managed_by identifier)

-- ---- one reply

-- bytes from an address on have the byte of a flag, in a place from the first byte of such flags on, and the flag is raised there
abbrev pub is_raised : ℕ → List ℕ → ℕ → ℕ → Bool
is_raised offset bytes first place =
    let address = first + place / 8 in
    if nat_le offset address && nat_lt (address - offset) (length bytes) then bit_at (slice_index bytes (address - offset)) (place % 8) == 1 else false

abbrev pub counted_at : List ℕ → ℕ → List ℕ → ℕ → ℕ → ℕ
counted_at held offset bytes first place = one_more (is_raised offset bytes first place) (slice_index held place)

abbrev pub dated_at : List ℕ → ℕ → List ℕ → ℕ → ℕ → ℕ → ℕ
dated_at held offset bytes first now place = later_of (is_raised offset bytes first place) (slice_index held place) now

unfoldable pub counted : ℕ → List ℕ → ℕ → List ℕ → ℕ → List ℕ
counted count held offset bytes first = map (counted_at held offset bytes first) (range_with_len 0 count)

unfoldable pub dated : ℕ → List ℕ → ℕ → List ℕ → ℕ → ℕ → List ℕ
dated count held offset bytes first now = map (dated_at held offset bytes first now) (range_with_len 0 count)

-- the lower memory has them from byte 8 on
abbrev pub with_module : Flags → ℕ → List ℕ → ℕ → Flags
with_module held offset bytes now =
    record held { module_counts = counted 32 held.module_counts offset bytes 8; module_last = dated 32 held.module_last offset bytes 8 now }

-- page 11h of a bank has them from byte 134 on, the data path states from 128 on, and the configuration statuses from 202 on
abbrev pub lanes_with : LaneFlags → ℕ → List ℕ → ℕ → LaneFlags
lanes_with held offset bytes now =
    record {
      counts = counted 152 held.counts offset bytes 134;
      last = dated 152 held.last offset bytes 134 now;
      states = with_codes held.states offset bytes 128 now;
      statuses = with_codes held.statuses offset bytes 202 now;
    }

abbrev pub with_lanes : Flags → ℕ → List ℕ → ℕ → Flags
with_lanes held offset bytes now = record held { lanes = lanes_with held.lanes offset bytes now }

-- the page that the lower memory shows as selected, unless the module has no other page than 00h
abbrev pub shown_page : List ℕ → KnownPage
shown_page lower =
    if number_in_byte (fields.Cmis cmis_fields.FlatMemory) (slice_index lower 2) == 1 then Unknown else selection_read BankAndPage (take 2 (drop 126 lower))

-- byte 0, if these bytes have it, and else as it was read before
abbrev pub identifier_by : ℕ → ℕ → List ℕ → ℕ
identifier_by before offset bytes = if offset == 0 && nat_lt 0 (length bytes) then slice_index bytes 0 else before

-- bytes of a CMIS module show the flags of the lower memory that they cover, and those of page 11h if it is selected
abbrev pub flags_by : Bool → Bool → Flags → ℕ → List ℕ → ℕ → Flags
flags_by cmis known flags offset bytes now =
    if cmis then (if known then with_lanes (with_module flags offset bytes now) offset bytes now else with_module flags offset bytes now) else flags

-- the lower memory shows the page that is selected too
abbrev pub selected_by : KnownPage → ℕ → ℕ → List ℕ → KnownPage
selected_by selected offset count bytes =
    if offset == 0 && count == 128 then shown_page bytes else if offset == 126 && count == 2 then selection_read BankAndPage bytes else selected

abbrev pub noted_bytes : FlagKeeper → ℕ → ℕ → List ℕ → ℕ → FlagKeeper
noted_bytes keeper offset count bytes now =
    record {
      selected = selected_by keeper.selected offset count bytes;
      identifier = identifier_by keeper.identifier offset bytes;
      flags = flags_by (is_cmis (identifier_by keeper.identifier offset bytes)) (is_known keeper.selected 0x11) keeper.flags offset bytes now;
    }

abbrev pub noted_reply : FlagKeeper → ℕ → ℕ → Reply → ℕ → FlagKeeper
noted_reply keeper offset count (Bytes bytes) now = noted_bytes keeper offset count bytes.items now
noted_reply keeper offset count Done now = keeper
noted_reply keeper offset count Refused now = keeper

-- after an operation was made: a store leaves it open which page is selected
abbrev pub noted : FlagKeeper → Op → Reply → ℕ → FlagKeeper
noted keeper (Store dev offset bytes) reply now = record keeper { selected = Unknown }
noted keeper (Fetch A0 offset count) reply now = noted_reply keeper offset count reply now
noted keeper (Fetch A2 offset count) reply now = keeper

-- ---- acknowledged

-- what was read after the moment
abbrev pub since_at : List ℕ → List ℕ → ℕ → ℕ → ℕ
since_at values last moment place = if nat_le (slice_index last place) moment then 0 else slice_index values place

unfoldable pub counts_since : ℕ → List ℕ → List ℕ → ℕ → List ℕ
counts_since count counts last moment = map (since_at counts last moment) (range_with_len 0 count)

unfoldable pub last_since : ℕ → List ℕ → ℕ → List ℕ
last_since count last moment = map (since_at last last moment) (range_with_len 0 count)

-- codes stay as they are
abbrev pub lanes_since : LaneFlags → ℕ → LaneFlags
lanes_since held moment =
    record { counts = counts_since 152 held.counts held.last moment; last = last_since 152 held.last moment; states = held.states; statuses = held.statuses }

abbrev pub since : Flags → ℕ → Flags
since held moment =
    record {
      module_counts = counts_since 32 held.module_counts held.module_last moment;
      module_last = last_since 32 held.module_last moment;
      lanes = lanes_since held.lanes moment;
    }

abbrev pub acknowledged : FlagKeeper → ℕ → FlagKeeper
acknowledged keeper moment = record keeper { flags = since keeper.flags moment }
