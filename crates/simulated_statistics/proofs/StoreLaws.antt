-- What stores make of the module: the selection of a window, and no request unless byte 144 of page 2Fh is among them.
use Rattle.std.proofs.Common.{◌≡◌, ℕ, ◌+◌, Bool, true, false, List, [], ◌∷◌, is_some, refl, ap, if◌then◌else◌}
use Rattle.bus_model.specs.declared.device.Dev.{Dev}
use Rattle.paged_memory.specs.MappedPages.{selected_in_turn, selecting_on}
use Rattle.paged_memory.specs.Windows.{Windowed, half_at, window_stored}
use Rattle.simulated_statistics.specs.declared.module.FreezingModule.{FreezingModule}
use Rattle.simulated_statistics.specs.FreezingModules.{stored, stored_byte, stored_bytes, window_of}

-- after the bytes of a store that is taken
abbrev selecting_anew : FreezingModule → Dev → ℕ → List ℕ → Windowed
selecting_anew sim dev address bytes = record (window_of sim) { selection = selected_in_turn (selecting_on sim.image dev) sim.image sim.selection address bytes }

bytes_select : (sim : FreezingModule) (dev : Dev) (address : ℕ) (bytes : List ℕ) → window_of (stored_bytes sim dev address bytes) ≡ selecting_anew sim dev address bytes
bytes_select sim dev address [] = refl
bytes_select sim dev address (byte ∷ bytes) = bytes_select (stored_byte sim dev address byte) dev (address + 1) bytes

pub same_window : (sim : FreezingModule) (dev : Dev) (address : ℕ) (bytes : List ℕ) → window_of (stored sim dev address bytes).1 ≡ (window_stored (window_of sim) dev address bytes).1
same_window sim dev address bytes = by_test (is_some (half_at (window_of sim) dev address)) where
  by_test : (b : Bool) → window_of (let given : Bool × FreezingModule = if b then (true, stored_bytes sim dev address bytes) else (false, sim) in given.1)
      ≡ (let given : Bool × Windowed = if b then (true, selecting_anew sim dev address bytes) else (false, window_of sim) in given.1)
  by_test true = bytes_select sim dev address bytes
  by_test false = refl

pub same_image : (sim : FreezingModule) (dev : Dev) (address : ℕ) (bytes : List ℕ) → (stored sim dev address bytes).1.image ≡ sim.image
same_image sim dev address bytes = by_test (is_some (half_at (window_of sim) dev address)) where
  by_test : (b : Bool) → (let given : Bool × FreezingModule = if b then (true, stored_bytes sim dev address bytes) else (false, sim) in given.1.image) ≡ sim.image
  by_test true = ap (λ (w : Windowed). w.memory) (bytes_select sim dev address bytes)
  by_test false = refl
