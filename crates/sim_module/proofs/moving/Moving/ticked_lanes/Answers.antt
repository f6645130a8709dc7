use Rattle.std.proofs.Common.{arith}
use Rattle.sim_module.specs.Lanes.{no_lane}
use Rattle.sim_module.specs.Ticks.{ticked_lane}
use Rattle.sim_module.specs.Record.{bare}
use Rattle.sim_module.proofs.EachLane.{each_lane}
use Rattle.sim_module.proofs.moving.Moving.ticked_lanes.Goals as goal

pub returns : goal.returns
returns c =
    let loop = c.loop-index in
    each_lane no_lane (ticked_lane (bare c.args.self.now)) loop.lane-items loop.invariant.len (λ k below. loop.invariant.each k (omega (arith, below, loop.invariant.len)))
