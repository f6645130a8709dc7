-- What a fetch answers, and what it makes of a module. (docs/module.md, "Fetches"; OIF-CMIS-05.0, chapter 8 "Module
-- Management Memory Map")
use Rattle.std.specs.Prelude.{ℕ, ◌+◌, ◌-◌, ◌*◌, ◌%◌, ◌==◌, ◌&&◌, Bool, Option, Some, None, find, option_map, unwrap_or, if◌then◌else◌, List, [], ◌∷◌, map, nat_lt, slice_index, bit_and}
use Rattle.std.specs.List.{range_with_len}
use Rattle.std.specs.FinMap as finmap
use Rattle.bus_model.specs.declared.device.Dev.{Dev}
use Rattle.bus_model.specs.declared.device.Dev.TheVariants.{A0, A2}
use Rattle.paged_memory.specs.Images.{place_in_half}
use Rattle.field_tables.specs.LaneSets.{byte_of}
use Rattle.field_tables.specs.declared.field.Field.TheVariants as fields
use Rattle.field_tables.specs.declared.table.cmis.CmisField.TheVariants as cmis
use Rattle.field_tables.specs.declared.field.Register.TheVariants as registers
use Rattle.field_tables.specs.Registers.{first_byte}
use Rattle.control_sets.specs.OutcomeOperations.{control_page, status_page}
use Rattle.module_states.specs.Codes as module_codes
use Rattle.datapath_states.specs.StateCodes.{code_of}
use Rattle.datapath_states.specs.StatusCodes.{status_code_of}
use Rattle.sim_module.specs.declared.module.SimModule.{SimModule}
use Rattle.sim_module.specs.Lanes.{lane_at}
use Rattle.sim_module.specs.Registers.{is_at, is_field_at, is_from, is_in, lane_flag_bytes}
use Rattle.paged_memory.specs.MappedPages.{shown_key}

-- a page of bank 0 is mapped
abbrev pub is_mapped : SimModule → ℕ → Bool
is_mapped sim page = sim.selection.bank == 0 && sim.selection.page == page

-- two lanes to a byte, the odd one in the lower four bits
abbrev pub pair_byte : (ℕ → ℕ) → ℕ → ℕ
pair_byte code index = code (2 * index + 1) + 16 * code (2 * index + 2)

abbrev pub path_code : SimModule → ℕ → ℕ
path_code sim lane = code_of (lane_at sim lane).path

abbrev pub status_code : SimModule → ℕ → ℕ
status_code sim lane = status_code_of (lane_at sim lane).status % 16

-- bits 3 to 1 of the byte are the module state's, the others the image's
abbrev pub state_byte : SimModule → ℕ → ℕ
state_byte sim byte = bit_and byte 0xF1 + 2 * module_codes.code_of sim.state

-- SoftwareReset, bit 3, reads 0
abbrev pub control_byte : SimModule → ℕ
control_byte sim = bit_and sim.control 0xF7

-- the first of these bytes that is shown (each comes with whether it is), or else this one
abbrev pub first_shown : List (Bool × ℕ) → ℕ → ℕ
first_shown bytes byte = unwrap_or (option_map (λ shown. shown.1) (find (λ shown. shown.0) bytes)) byte

-- of lower memory, the bytes that aren't the image's (given its byte there)
abbrev pub lower_bytes : SimModule → ℕ → ℕ → List (Bool × ℕ)
lower_bytes sim byte address =
    (is_at registers.GlobalStatus address, state_byte sim byte)
    ∷ (is_at registers.ModuleFlags address, sim.module_flags)
    ∷ (is_at registers.GlobalControls address, control_byte sim)
    ∷ (is_field_at (fields.Cmis cmis.BankSelect) address, sim.selection.bank)
    ∷ (is_field_at (fields.Cmis cmis.PageSelect) address, sim.selection.page)
    ∷ []

-- of the page of lane control
abbrev pub configuration_bytes : SimModule → ℕ → List (Bool × ℕ)
configuration_bytes sim address =
    (is_at registers.DPDeinit address, byte_of sim.deinit)
    ∷ (is_at registers.ApplyDPInit address, 0)
    ∷ (is_in registers.StagedControl address, (lane_at sim (address - first_byte registers.StagedControl + 1)).staged)
    ∷ []

-- of the page of lane status
abbrev pub status_bytes : SimModule → ℕ → List (Bool × ℕ)
status_bytes sim address =
    (is_in registers.PathStates address, pair_byte (path_code sim) (address - first_byte registers.PathStates))
    ∷ (is_in registers.LaneFlags address, slice_index sim.lane_flags (address - first_byte registers.LaneFlags))
    ∷ (is_in registers.ConfigStatus address, pair_byte (status_code sim) (address - first_byte registers.ConfigStatus))
    ∷ (is_in registers.ActiveControl address, (lane_at sim (address - first_byte registers.ActiveControl + 1)).active)
    ∷ []

-- the bytes that aren't the image's, of the half that an address is in
abbrev pub own_bytes : SimModule → ℕ → ℕ → List (Bool × ℕ)
own_bytes sim byte address =
    if nat_lt address 128 then lower_bytes sim byte address
    else if is_mapped sim control_page then configuration_bytes sim address
    else if is_mapped sim status_page then status_bytes sim address
    else []

-- the byte at an address, if the half that shows it has these bytes in the image
unfoldable pub shown_byte : SimModule → List ℕ → ℕ → ℕ
shown_byte sim page address =
    let byte = slice_index page (place_in_half address) in
    first_shown (own_bytes sim byte address) byte

-- a latched flag is 0 once it was read
abbrev pub left_flag : Bool → ℕ → ℕ
left_flag is_read flag = if is_read then 0 else flag

-- of the flags of the lanes, by their places from the first one
abbrev pub left_lane_flag : SimModule → (ℕ → Bool) → ℕ → ℕ
left_lane_flag sim is_read index = left_flag (is_mapped sim status_page && is_read (first_byte registers.LaneFlags + index)) (slice_index sim.lane_flags index)

abbrev pub left_lane_flags : SimModule → (ℕ → Bool) → List ℕ
left_lane_flags sim is_read = map (left_lane_flag sim is_read) (range_with_len 0 lane_flag_bytes)

-- after the bytes at some addresses were read
unfoldable pub cleared : SimModule → (ℕ → Bool) → SimModule
cleared sim is_read = record sim {
  module_flags = left_flag (is_read (first_byte registers.ModuleFlags)) sim.module_flags;
  lane_flags = left_lane_flags sim is_read;
}

abbrev pub fetched_from : SimModule → ℕ → ℕ → Option (List ℕ) → Option (List ℕ) × SimModule
fetched_from sim address count (Some page) = (Some (map (shown_byte sim page) (range_with_len address count)), cleared sim (is_from address count))
fetched_from sim address count None = (None, sim)

-- so many bytes from an address on; a half that the image lacks, and device A2, refuse
unfoldable pub fetched : SimModule → Dev → ℕ → ℕ → Option (List ℕ) × SimModule
fetched sim A0 address count = fetched_from sim address count (finmap.get sim.image (shown_key A0 sim.selection address))
fetched sim A2 address count = (None, sim)
