-- What a store makes of a module. (docs/module.md, "Stores"; OIF-CMIS-05.0, chapter 8 "Module Management Memory Map")
use Rattle.std.specs.Prelude.{Some, ℕ, ◌+◌, ◌-◌, Bool, true, false, if◌then◌else◌, List, [], ◌∷◌, nat_lt}
use Rattle.std.proofs.Math.ListN.{set}
use Rattle.std.specs.FinMap as finmap
use Rattle.bus_model.specs.declared.device.Dev.{Dev}
use Rattle.bus_model.specs.declared.device.Dev.TheVariants.{A0, A2}
use Rattle.field_tables.specs.LaneSets.{lanes_in}
use Rattle.field_tables.specs.declared.field.Register.TheVariants as registers
use Rattle.field_tables.specs.Registers.{first_byte}
use Rattle.control_sets.specs.OutcomeOperations.{control_page}
use Rattle.sim_module.specs.declared.module.SimModule.{SimModule}
use Rattle.paged_memory.specs.declared.page_addressing.PageAddressing.TheVariants.{BankAndPage}
use Rattle.sim_module.specs.Lanes.{lane_at}
use Rattle.sim_module.specs.Registers.{is_at, is_in}
use Rattle.paged_memory.specs.MappedPages.{selected, shown_key}
use Rattle.sim_module.specs.Applies.{applied}
use Rattle.sim_module.specs.ShownBytes.{is_mapped}

abbrev pub staged_at : SimModule → ℕ → ℕ → SimModule
staged_at sim lane byte = record sim { lanes = set sim.lanes (lane - 1) (record (lane_at sim lane) { staged = byte }) }

-- in lower memory
abbrev pub stored_low : SimModule → ℕ → ℕ → SimModule
stored_low sim address byte = record sim {
  selection = selected (Some BankAndPage) sim.image sim.selection address byte;
  control = if is_at registers.GlobalControls address then byte else sim.control;
}

-- on the page of lane control
abbrev pub stored_high : SimModule → ℕ → ℕ → SimModule
stored_high sim address byte =
    if is_at registers.DPDeinit address then record sim { deinit = lanes_in byte }
    else if is_at registers.ApplyDPInit address then applied sim (lanes_in byte)
    else if is_in registers.StagedControl address then staged_at sim (address - first_byte registers.StagedControl + 1) byte
    else sim

-- one byte
unfoldable pub stored_byte : SimModule → ℕ → ℕ → SimModule
stored_byte sim address byte =
    if nat_lt address 128 then stored_low sim address byte
    else if is_mapped sim control_page then stored_high sim address byte
    else sim

-- one byte after the other, by rising address
abbrev pub stored_bytes : SimModule → ℕ → List ℕ → SimModule
stored_bytes sim address [] = sim
stored_bytes sim address (byte ∷ bytes) = stored_bytes (stored_byte sim address byte) (address + 1) bytes

-- a half that the image lacks, and device A2, refuse
unfoldable pub stored : SimModule → Dev → ℕ → List ℕ → Bool × SimModule
stored sim A0 address bytes =
    if finmap.contains_key sim.image (shown_key A0 sim.selection address) then (true, stored_bytes sim address bytes) else (false, sim)
stored sim A2 address bytes = (false, sim)
