-- What no event of a module changes. (docs/module.md, "What always holds"; this project's own)
use Rattle.std.specs.Prelude.{◌≡◌, ℕ, Bool, List}
use Rattle.bus_model.specs.declared.device.Dev.{Dev}
use Rattle.sim_module.specs.declared.module.SimModule.{SimModule}
use Rattle.sim_module.specs.Record.{fixed_of}
use Rattle.sim_module.specs.ShownBytes.{fetched}
use Rattle.sim_module.specs.Stores.{stored}
use Rattle.sim_module.specs.Ticks.{pinned, ticked}

-- its memory at the start, and what that advertises
pub record EventsLeaveFixed : Type 0 where
  pub fetch : (sim : SimModule) (dev : Dev) (address count : ℕ) → fixed_of (fetched sim dev address count).1 ≡ fixed_of sim
  pub store : (sim : SimModule) (dev : Dev) (address : ℕ) (bytes : List ℕ) → fixed_of (stored sim dev address bytes).1 ≡ fixed_of sim
  pub tick : (sim : SimModule) → fixed_of (ticked sim) ≡ fixed_of sim
  pub pin : (sim : SimModule) (on : Bool) → fixed_of (pinned sim on) ≡ fixed_of sim
