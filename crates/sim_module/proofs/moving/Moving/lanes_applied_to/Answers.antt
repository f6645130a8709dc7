use Rattle.std.proofs.Common.{arith}
use Rattle.sim_module.specs.Lanes.{no_lane}
use Rattle.sim_module.specs.Applies.{applied_to}
use Rattle.sim_module.specs.Record.{module_of}
use Rattle.sim_module.proofs.EachLane.{each_lane}
use Rattle.sim_module.proofs.moving.Moving.lanes_applied_to.Goals as goal

pub returns : goal.returns
returns c =
    let loop = c.loop-index in
    each_lane no_lane (applied_to (module_of c.args.fixed.now c.args.self.now) c.args.mask) loop.lane-items loop.invariant.len (λ k below. loop.invariant.each k (omega (arith, below, loop.invariant.len)))
