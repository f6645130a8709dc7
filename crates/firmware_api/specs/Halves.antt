-- The memory of a module whose halves are handed over, why its Applications or its reports are not read, and what it advertises.
-- (docs/firmware.md, "Halves" and "Plans"; OIF-CMIS-05.0, "Management Memory Map")
use Rattle.std.specs.Prelude.{◌==◌, ◌&&◌, ◌||◌, Bool, false, ℕ, not, nat_lt, List, length, map, Option, Some, if◌then◌else◌}
use Rattle.std.specs.List.{list_all}
use Rattle.std.specs.Option.{option_map}
use Rattle.std.specs.FinMap as finmap
use Rattle.bus_model.specs.declared.device.Dev.{Dev}
use Rattle.bus_model.specs.declared.device.Dev.TheVariants.{A0, A2}
use Rattle.paged_memory.specs.declared.key.Half.{Half}
use Rattle.paged_memory.specs.declared.key.Half.TheVariants.{Lower, Upper}
use Rattle.paged_memory.specs.declared.key.Key.{Key}
use Rattle.paged_memory.specs.Keys.{lower_key, upper_key}
use Rattle.paged_memory.specs.Images.{Memory, most_pages}
use Rattle.applications.specs.Advertised.{Advertised, advertised_under}
use Rattle.applications.specs.declared.conventions.Conventions.{Conventions}
use Rattle.applications.specs.Refusals.{advert_fault_under}
use Rattle.module_decoding.specs.declared.report.Report.{Report}
use Rattle.module_decoding.specs.Reports.{fault_of}
use Rattle.firmware_api.specs.declared.half.HalfBytes.{HalfBytes}
use Rattle.firmware_api.specs.declared.status.Refusal.{Refusal}
use Rattle.firmware_api.specs.declared.status.Refusal.TheVariants.{TooManyHalves, NoPlace, Advert, Decode}
use Rattle.firmware_api.specs.Operations.{address_of}

-- A0h or A2h
abbrev pub is_device : ℕ → Bool
is_device device = device == 160 || device == 162

abbrev pub device_of : ℕ → Dev
device_of device = if device == 162 then A2 else A0

-- a lower half is of bank 0 and page 0
abbrev pub has_place : HalfBytes → Bool
has_place half = is_device half.device && (half.upper == 1 || half.upper == 0 && half.bank == 0 && half.page == 0)

-- of a half that has a place
abbrev pub key_of : HalfBytes → Key
key_of half = if half.upper == 0 then lower_key (device_of half.device) else upper_key (device_of half.device) half.bank half.page

-- 0 for the bytes 0 to 127, 1 for the bytes 128 to 255
abbrev pub upper_of : Half → ℕ
upper_of Lower = 0
upper_of Upper = 1

-- the half at this place with these bytes
abbrev pub half_at : Key → List ℕ → HalfBytes
half_at key bytes = record { device = address_of key.dev; upper = upper_of key.half; bank = key.bank; page = key.page; bytes = bytes }

-- of halves at one place the first counts
unfoldable pub memory_of : List HalfBytes → Memory
memory_of halves = finmap.from_entries (map (λ half. (key_of half, half.bytes)) halves)

-- of the halves themselves, or of the module that has them, if a host reads it by these conventions: the first that applies
unfoldable pub refusal_under : Conventions → List HalfBytes → Option Refusal
refusal_under conventions halves =
    if nat_lt most_pages (length halves) then Some TooManyHalves
    else (if not (list_all has_place halves) then Some NoPlace
    else option_map Advert (advert_fault_under conventions (memory_of halves)))

-- why C is not told what a report says
unfoldable pub report_refusal : Report → Memory → Option Refusal
report_refusal report memory = option_map Decode (fault_of report memory)

-- it takes what the module advertises as it stands
abbrev pub as_it_stands : Conventions
as_it_stands = record { paired = false; counts_by_id = false; now = false }

-- the same if a host reads it so
abbrev pub module_refusal : List HalfBytes → Option Refusal
module_refusal halves = refusal_under as_it_stands halves

-- how a host reads what the module advertises: each number but 0 says yes, and what is active is looked at if staying weighs something
abbrev pub conventions_of : ℕ → ℕ → ℕ → Conventions
conventions_of paired counts_by_id stay = record { paired = not (paired == 0); counts_by_id = not (counts_by_id == 0); now = not (stay == 0) }

-- what it advertises to such a host
abbrev pub advert_of : List HalfBytes → Conventions → Advertised
advert_of halves conventions = advertised_under conventions (memory_of halves)
