use Rattle.std.proofs.Common.{◌≡◌, length}
use Rattle.bus_model.specs.ScriptedBus.{settled}
use Rattle.bus_model.proofs.exchange.run_idle_directives.Given as goal

abbrev pub invariant-loop-directive : goal.invariant-loop-directive
invariant-loop-directive g l = settled g.D.Device.conduct l.script (g.D.Device.state l.device) ≡ settled g.D.Device.conduct l.fn.script (g.D.Device.state l.fn.device)

abbrev pub decreases-loop-directive : goal.decreases-loop-directive
decreases-loop-directive g l = length l.script
