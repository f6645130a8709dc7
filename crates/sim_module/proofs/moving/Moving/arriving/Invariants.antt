use Rattle.std.proofs.Common.{◌≡◌, ◌+◌}
use Rattle.sim_module.specs.Ticks.{arrives}
use Rattle.sim_module.specs.Record.{bare}
use Rattle.sim_module.proofs.LaneTests.{below, those}
use Rattle.sim_module.proofs.moving.Moving.arriving.Given as goal

abbrev pub invariant-loop-place : goal.invariant-loop-place
invariant-loop-place l = l.lanes ≡ those (below (arrives (bare l.self)) (l.place + 1))
