-- The lanes of a module's banks: bank b has the lanes from 8 * b + 1 to 8 * b + 8. (OIF-CMIS-05.0, "Management Memory Map", page 01h
-- byte 142, "Lane-Specific Monitors" of page 11h)
use Rattle.std.specs.Prelude.{ℕ, ◌%◌, ◌==◌, ◌&&◌, if◌then◌else◌}
use Rattle.std.specs.FinMap as map
use Rattle.std.specs.Option.{option_map_or}
use Rattle.bus_model.specs.declared.device.Dev.TheVariants.{A0}
use Rattle.paged_memory.specs.Images.{Memory}
use Rattle.paged_memory.specs.Keys.{upper_key}
use Rattle.observables.specs.Pages.{has_observables, is_cmis}
use Rattle.observables.specs.Words.{byte_in, page_of}

-- code 3 is reserved
abbrev pub banks_by : ℕ → ℕ
banks_by code = if code == 1 then 2 else if code == 2 then 4 else 1

-- how many banks page 01h of a CMIS module advertises; one without that page
abbrev pub advertised_banks : Memory → ℕ
advertised_banks memory = option_map_or (λ bytes. banks_by (byte_in bytes 142 % 4)) (page_of memory 0 0x01) 1

-- modules of other families have one bank, whatever they have on page 01h
abbrev pub bank_count : Memory → ℕ
bank_count memory = if is_cmis memory then advertised_banks memory else 1

-- how many banks have statistics (VDM), from bank 0 on: all, if a CMIS module advertises any
abbrev pub statistics_banks : Memory → ℕ
statistics_banks memory = if is_cmis memory && has_observables memory then bank_count memory else 0

-- a page of a bank, if memory has it, in the place of that of bank 0
abbrev pub with_page : Memory → ℕ → ℕ → Memory → Memory
with_page memory bank page lanes = option_map_or (λ bytes. map.insert lanes (upper_key A0 0 page) bytes) (page_of memory bank page) lanes

-- what monitors of lanes are read from: their adverts on page 01h, their limits on page 02h, and page 11h of the bank
abbrev pub lanes_of_bank : Memory → ℕ → Memory
lanes_of_bank memory bank = with_page memory bank 0x11 (with_page memory 0 0x02 (with_page memory 0 0x01 map.empty))
