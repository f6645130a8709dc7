use Rattle.std.proofs.Common.{◌≡◌, length, arith}
use Rattle.sim_module.specs.SavedModules.{lane_of, no_numbers}
use Rattle.sim_module.proofs.EachLane.{each_mapped}
use Rattle.sim_module.proofs.saved.lanes_numbered.Goals as goal

pub returns : goal.returns
returns c =
    let loop = c.loop-index in
    let lanes = c.args.saved.now in
    let same : length loop.lane-items ≡ length lanes = omega arith in
    each_mapped lane_of no_numbers lanes loop.lane-items same (λ k below. loop.invariant.each k (omega (arith, below, loop.invariant.len)))
