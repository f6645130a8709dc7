-- A module whose memory never changes: an image, of which a selection says what is shown. (docs/bus.md, "Page selection";
-- this project's own)
use Rattle.std.specs.Prelude.{ℕ, Bool, true, false, List, map, Option, unwrap_or, option_map, is_some, if◌then◌else◌, slice_index, IsTrue, ◌≡◌}
use Rattle.std.specs.List.{range_with_len}
use Rattle.std.specs.FinMap as finmap
use Rattle.bus_model.specs.declared.device.Dev.{Dev}
use Rattle.bus_model.specs.declared.device.Dev.TheVariants.{A0}
use Rattle.bus_model.specs.Conduct.{Conduct}
use Rattle.paged_memory.specs.declared.key.Key.{Key}
use Rattle.paged_memory.specs.declared.mapped_page.MappedPage.{MappedPage}
use Rattle.paged_memory.specs.declared.page_addressing.PageAddressing.{PageAddressing}
use Rattle.paged_memory.specs.KeyOrder.{key_cmp}
use Rattle.paged_memory.specs.Images.{Memory, place_in_half}
use Rattle.paged_memory.specs.MappedPages.{first_page, selecting_on, selected_in_turn, shown_at, shown_key}

pub record Windowed : Type 0 where
  pub memory : Memory
  pub selection : MappedPage

-- how a window keeps them: the pages by rising keys, and how A0's are selected
pub record AreShown (entries : List (Key × List ℕ)) (selecting : Option PageAddressing) : Type 0 where
  pub sorted : IsTrue (finmap.is_sorted key_cmp entries)
  pub by : selecting ≡ selecting_on (finmap.from_sorted entries) A0

abbrev pub started : Memory → Windowed
started memory = record { memory = memory; selection = first_page }

-- what an address reads as, if the half that shows it has these bytes
abbrev pub read_at : Option PageAddressing → MappedPage → List ℕ → ℕ → ℕ
read_at selecting selection half address = unwrap_or (shown_at selecting selection address) (slice_index half (place_in_half address))

-- so many of a half's bytes from an address upwards
abbrev pub bytes_from : Option PageAddressing → MappedPage → ℕ → ℕ → List ℕ → List ℕ
bytes_from selecting selection address count half = map (read_at selecting selection half) (range_with_len address count)

-- the half that shows an address, if the memory has it
abbrev pub half_at : Windowed → Dev → ℕ → Option (List ℕ)
half_at window dev address = finmap.get window.memory (shown_key dev window.selection address)

abbrev pub window_fetched : Windowed → Dev → ℕ → ℕ → Option (List ℕ) × Windowed
window_fetched window dev address count =
    (option_map (bytes_from (selecting_on window.memory dev) window.selection address count) (half_at window dev address), window)

-- the bytes of a store change the selection alone
abbrev pub window_stored : Windowed → Dev → ℕ → List ℕ → Bool × Windowed
window_stored window dev address bytes =
    if is_some (half_at window dev address)
    then (true, record window { selection = selected_in_turn (selecting_on window.memory dev) window.memory window.selection address bytes })
    else (false, window)

-- time and the pin change nothing
abbrev pub window_conduct : Conduct Windowed
window_conduct = record {
  fetch = window_fetched;
  store = window_stored;
  tick = λ window. window;
  low_power_pin = λ window on. window;
}
