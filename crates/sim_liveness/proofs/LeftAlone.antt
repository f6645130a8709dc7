-- A fetch and a selection of a page leave alone whatever moves with time.
use Rattle.std.proofs.Common.{◌≡◌, ℕ, Bool, true, false, List, [], ◌∷◌, Option, Some, None, refl, if◌then◌else◌}
use Rattle.std.specs.FinMap as finmap
use Rattle.bus_model.specs.declared.device.Dev.{Dev}
use Rattle.bus_model.specs.declared.device.Dev.TheVariants.{A0, A2}
use Rattle.paged_memory.specs.MappedPages.{shown_key}
use Rattle.sim_module.specs.declared.module.SimModule.{SimModule}
use Rattle.sim_module.specs.Down.{asks_low_power, has_low_power}
use Rattle.sim_module.specs.ShownBytes.{cleared, fetched, fetched_from}
use Rattle.sim_module.specs.Stores.{stored, stored_byte, stored_bytes}

pub record LeavesIt (sim after : SimModule) : Type 0 where
  pub advert : after.advert ≡ sim.advert
  pub delays : after.delays ≡ sim.delays
  pub deinit : after.deinit ≡ sim.deinit
  pub lanes : after.lanes ≡ sim.lanes
  pub state : after.state ≡ sim.state
  pub ticks_left : after.ticks_left ≡ sim.ticks_left
  pub apply_left : after.apply_left ≡ sim.apply_left
  pub pin : after.pin ≡ sim.pin
  pub control : after.control ≡ sim.control

leaves_itself : (sim : SimModule) → LeavesIt sim sim
leaves_itself sim = record { advert = refl; delays = refl; deinit = refl; lanes = refl; state = refl; ticks_left = refl; apply_left = refl; pin = refl; control = refl }

leaves_cleared : (sim : SimModule) (is_read : ℕ → Bool) → LeavesIt sim (cleared sim is_read)
unfolding cleared
leaves_cleared sim is_read = record { advert = refl; delays = refl; deinit = refl; lanes = refl; state = refl; ticks_left = refl; apply_left = refl; pin = refl; control = refl }

leaves_by : (sim : SimModule) (address count : ℕ) (found : Option (List ℕ)) → LeavesIt sim (fetched_from sim address count found).1
leaves_by sim address count None = leaves_itself sim
leaves_by sim address count (Some page) = leaves_cleared sim _

pub leaves : (sim : SimModule) (dev : Dev) (address count : ℕ) → LeavesIt sim (fetched sim dev address count).1
unfolding fetched
leaves sim A0 address count = leaves_by sim address count (finmap.get sim.image (shown_key A0 sim.selection address))
leaves sim A2 address count = leaves_itself sim

selected_bytes : (sim : SimModule) (bank page : ℕ) → LeavesIt sim (stored_bytes sim 126 (bank ∷ page ∷ []))
unfolding stored_byte
selected_bytes sim bank page = record { advert = refl; delays = refl; deinit = refl; lanes = refl; state = refl; ticks_left = refl; apply_left = refl; pin = refl; control = refl }

abbrev stored_if : SimModule → ℕ → ℕ → Bool → Bool × SimModule
stored_if sim bank page there = if there then (true, stored_bytes sim 126 (bank ∷ page ∷ [])) else (false, sim)

selected_if : (sim : SimModule) (bank page : ℕ) (there : Bool) → LeavesIt sim (stored_if sim bank page there).1
selected_if sim bank page true = selected_bytes sim bank page
selected_if sim bank page false = leaves_itself sim

pub leaves_selected : (sim : SimModule) (bank page : ℕ) → LeavesIt sim (stored sim A0 126 (bank ∷ page ∷ [])).1
unfolding stored
leaves_selected sim bank page = selected_if sim bank page (finmap.contains_key sim.image (shown_key A0 sim.selection 126))

pub power_kept : (sim after : SimModule) → LeavesIt sim after → has_low_power after ≡ has_low_power sim
power_kept sim after same = λ i. asks_low_power (same.control i) (same.pin i)
