use Rattle.std.proofs.Common.{◌≡◌}
use Rattle.bus_model.specs.ScriptedBus.{ticked_times}
use Rattle.bus_model.proofs.exchange.tick_all.Given as goal

abbrev pub invariant-loop : goal.invariant-loop
invariant-loop g l = g.D.Device.state l.device ≡ ticked_times g.D.Device.conduct l.counter (g.D.Device.state l.fn.device)
