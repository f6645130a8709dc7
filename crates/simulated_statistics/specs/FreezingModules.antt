-- A module of an image that freezes its statistics when it is asked to: a window of the image (docs/bus.md, "Windows") that shows its last
-- request. (OIF-CMIS-05.0, "VDM Advertisement and Control", page 2Fh; that each store of byte 144 is a request, and takes a given time, is
-- this project's own)
use Rattle.std.specs.Prelude.{ℕ, ◌+◌, ◌==◌, ◌&&◌, nat_le, nat_lt, Bool, true, false, List, [], ◌∷◌, length, map, Option, Some, None, is_some, option_map, if◌then◌else◌}
use Rattle.std.specs.List.{range_with_len}
use Rattle.bus_model.specs.declared.device.Dev.{Dev}
use Rattle.bus_model.specs.declared.device.Dev.TheVariants.{A0, A2}
use Rattle.bus_model.specs.declared.operation.Op.{Op}
use Rattle.bus_model.specs.declared.operation.Op.TheVariants.{Fetch, Store}
use Rattle.bus_model.specs.Conduct.{Conduct}
use Rattle.paged_memory.specs.declared.mapped_page.MappedPage.{MappedPage}
use Rattle.paged_memory.specs.declared.page_addressing.PageAddressing.{PageAddressing}
use Rattle.paged_memory.specs.Images.{Memory}
use Rattle.paged_memory.specs.MappedPages.{first_page, selected, selecting_on}
use Rattle.paged_memory.specs.Windows.{Windowed, half_at}
use Rattle.paged_memory.specs.Windows as windows
use Rattle.simulated_statistics.specs.declared.module.FreezingModule.{FreezingModule}
use Rattle.simulated_statistics.specs.declared.request.Request.{Request}
use Rattle.simulated_statistics.specs.Requests.{shown_at, ticked}

-- but for its requests
abbrev pub window_of : FreezingModule → Windowed
window_of sim = record { memory = sim.image; selection = sim.selection }

abbrev pub begun : Memory → ℕ → FreezingModule
begun image delay = record { image = image; selection = first_page; delay = delay; request = None }

-- the upper half of a device shows page 2Fh of bank 0
abbrev pub shows_control : FreezingModule → Dev → Bool
shows_control sim A0 = sim.selection.bank == 0 && sim.selection.page == 0x2F
shows_control sim A2 = false

-- ---- fetches

-- the request that the upper half of a device shows
abbrev pub request_on : FreezingModule → Dev → Option Request
request_on sim dev = if shows_control sim dev then sim.request else None

abbrev pub shown_by : Option Request → ℕ → ℕ → ℕ
shown_by (Some request) address byte = shown_at request address byte
shown_by None address byte = byte

-- what an address reads as, if the half that shows it has these bytes
abbrev pub read_at : Option PageAddressing → MappedPage → Option Request → List ℕ → ℕ → ℕ
read_at selecting selection request half address = shown_by request address (windows.read_at selecting selection half address)

-- so many of a half's bytes from an address upwards
abbrev pub bytes_from : Option PageAddressing → MappedPage → Option Request → ℕ → ℕ → List ℕ → List ℕ
bytes_from selecting selection request address count half = map (read_at selecting selection request half) (range_with_len address count)

abbrev pub fetched : FreezingModule → Dev → ℕ → ℕ → Option (List ℕ) × FreezingModule
fetched sim dev address count =
    (option_map (bytes_from (selecting_on sim.image dev) sim.selection (request_on sim dev) address count) (half_at (window_of sim) dev address), sim)

-- ---- stores

-- a byte stored there is a request, which begins anew
abbrev pub requested : FreezingModule → Dev → ℕ → ℕ → Option Request
requested sim dev address byte =
    if shows_control sim dev && address == 144 then Some (record { control = byte; left = sim.delay }) else sim.request

abbrev pub stored_byte : FreezingModule → Dev → ℕ → ℕ → FreezingModule
stored_byte sim dev address byte = record sim {
  selection = selected (selecting_on sim.image dev) sim.image sim.selection address byte;
  request = requested sim dev address byte;
}

-- one after the other, from an address upwards
abbrev pub stored_bytes : FreezingModule → Dev → ℕ → List ℕ → FreezingModule
stored_bytes sim dev address [] = sim
stored_bytes sim dev address (byte ∷ bytes) = stored_bytes (stored_byte sim dev address byte) dev (address + 1) bytes

abbrev pub stored : FreezingModule → Dev → ℕ → List ℕ → Bool × FreezingModule
stored sim dev address bytes =
    if is_some (half_at (window_of sim) dev address) then (true, stored_bytes sim dev address bytes) else (false, sim)

-- a store that covers byte 144: taken or cut short, it may be a request
abbrev pub may_request : Op → Bool
may_request (Store dev address bytes) = nat_le address 144 && nat_lt 144 (address + length bytes.items)
may_request (Fetch dev address count) = false

-- ---- time

abbrev pub passed : FreezingModule → FreezingModule
passed sim = record sim { request = option_map ticked sim.request }

-- the pin changes nothing
abbrev pub conduct : Conduct FreezingModule
conduct = record {
  fetch = fetched;
  store = stored;
  tick = passed;
  low_power_pin = λ sim on. sim;
}
