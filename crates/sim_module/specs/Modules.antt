-- How a simulated module answers and changes: its four events. (docs/module.md; this project's own)
use Rattle.bus_model.specs.Conduct.{Conduct}
use Rattle.sim_module.specs.declared.module.SimModule.{SimModule}
use Rattle.sim_module.specs.ShownBytes.{fetched}
use Rattle.sim_module.specs.Stores.{stored}
use Rattle.sim_module.specs.Ticks.{pinned, ticked}

abbrev pub conduct : Conduct SimModule
conduct = record { fetch = fetched; store = stored; tick = ticked; low_power_pin = pinned }
