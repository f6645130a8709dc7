use Rattle.std.proofs.Common.{arith}
use Rattle.sim_module.specs.ShownBytes.{left_lane_flag}
use Rattle.sim_module.specs.Registers.{is_from}
use Rattle.sim_module.specs.Record.{bare}
use Rattle.sim_module.proofs.EachLane.{each_of}
use Rattle.sim_module.proofs.moving.Moving.left_lane_flags.Goals as goal

pub returns : goal.returns
returns c =
    let loop = c.loop-index in
    each_of 0 19 (left_lane_flag (bare c.args.self.now) (is_from c.args.first c.args.count)) loop.flag-items loop.invariant.len (λ k below. loop.invariant.each k (omega (arith, below, loop.invariant.len)))
