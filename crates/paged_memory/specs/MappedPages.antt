-- Which page the upper half of device A0 shows, and what a stored byte selects.
-- (OIF-CMIS-05.0, "Bank and Page Selection"; SFF-8636, "Page Select"; docs/bus.md, "Page selection")
use Rattle.std.specs.Prelude.{ℕ, ◌+◌, ◌==◌, List, [], ◌∷◌, Option, Some, None, unwrap_or, option_map, if◌then◌else◌, nat_lt}
use Rattle.std.specs.FinMap as map
use Rattle.bus_model.specs.declared.device.Dev.{Dev}
use Rattle.bus_model.specs.declared.device.Dev.TheVariants.{A0, A2}
use Rattle.paged_memory.specs.declared.family.Family.{Family}
use Rattle.paged_memory.specs.declared.family.Family.TheVariants as families
use Rattle.paged_memory.specs.declared.key.Key.{Key}
use Rattle.paged_memory.specs.declared.mapped_page.MappedPage.{MappedPage}
use Rattle.paged_memory.specs.declared.page_addressing.PageAddressing.{PageAddressing}
use Rattle.paged_memory.specs.declared.page_addressing.PageAddressing.TheVariants.{BankAndPage, PageAlone}
use Rattle.paged_memory.specs.Families.{managed_by}
use Rattle.paged_memory.specs.Keys.{lower_key, upper_key}
use Rattle.paged_memory.specs.Images.{Memory, byte_at}

-- by a module's family; one that is of none of these is taken for one of CMIS
abbrev pub selecting_in : Option Family → Option PageAddressing
selecting_in (Some families.Cmis) = Some BankAndPage
selecting_in (Some families.Sff8636) = Some PageAlone
selecting_in (Some families.Sff8472) = None
selecting_in None = Some BankAndPage

abbrev pub selecting_by : ℕ → Option PageAddressing
selecting_by identifier = selecting_in (managed_by identifier)

-- on a device of a module, whose identifier is byte 0 of its lower half
abbrev pub selecting_on : Memory → Dev → Option PageAddressing
selecting_on memory A0 = unwrap_or (option_map selecting_by (byte_at memory A0 0 0)) (Some BankAndPage)
selecting_on memory A2 = None

abbrev pub first_page : MappedPage
first_page = record { bank = 0; page = 0; waiting = 0 }

-- a page of a bank, or the first page if the memory lacks it
abbrev pub mapped : Memory → ℕ → ℕ → MappedPage
mapped memory bank page = if map.contains_key memory (upper_key A0 bank page) then record { bank = bank; page = page; waiting = bank } else first_page

-- after a byte was stored at an address
abbrev pub selected : Option PageAddressing → Memory → MappedPage → ℕ → ℕ → MappedPage
selected (Some BankAndPage) memory selection address byte =
    if address == 126 then record selection { waiting = byte }
    else if address == 127 then mapped memory selection.waiting byte
    else selection
selected (Some PageAlone) memory selection address byte = if address == 127 then mapped memory 0 byte else selection
selected None memory selection address byte = selection

-- after bytes were stored one by one, from an address upwards
abbrev pub selected_in_turn : Option PageAddressing → Memory → MappedPage → ℕ → List ℕ → MappedPage
selected_in_turn selecting memory selection address [] = selection
selected_in_turn selecting memory selection address (byte ∷ bytes) =
    selected_in_turn selecting memory (selected selecting memory selection address byte) (address + 1) bytes

-- what an address reads as that shows the selection, in place of what the memory has there
abbrev pub shown_at : Option PageAddressing → MappedPage → ℕ → Option ℕ
shown_at (Some BankAndPage) selection address =
    if address == 126 then Some selection.bank else if address == 127 then Some selection.page else None
shown_at (Some PageAlone) selection address = if address == 127 then Some selection.page else None
shown_at None selection address = None

abbrev pub upper_half : Dev → MappedPage → Key
upper_half A0 selection = upper_key A0 selection.bank selection.page
upper_half A2 selection = upper_key A2 0 0

-- the key of the half that shows an address of a device
abbrev pub shown_key : Dev → MappedPage → ℕ → Key
shown_key dev selection address = if nat_lt address 128 then lower_key dev else upper_half dev selection
