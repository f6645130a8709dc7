use Rattle.std.proofs.Common.{◌≡◌, length, arith}
use Rattle.sim_module.specs.Lanes.{no_lane}
use Rattle.sim_module.specs.SavedModules.{saved_lane}
use Rattle.sim_module.proofs.EachLane.{each_mapped}
use Rattle.sim_module.proofs.moving.Moving.saved_lanes.Goals as goal

pub returns : goal.returns
returns c =
    let loop = c.loop-index in
    let lanes = c.args.self.now.lanes in
    let same : length loop.lane-items ≡ length lanes = omega arith in
    each_mapped saved_lane no_lane lanes loop.lane-items same (λ k below. loop.invariant.each k (omega (arith, below, loop.invariant.len)))
