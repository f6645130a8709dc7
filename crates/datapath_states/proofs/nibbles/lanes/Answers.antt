use Rattle.std.proofs.Common.{arith}
use Rattle.datapath_states.proofs.LaneNibbles.{all_lanes}
use Rattle.datapath_states.proofs.nibbles.lanes.Goals as goal

pub returns : goal.returns
returns g c =
    let loop = c.loop-index in
    all_lanes c.args.bytes.now g.row.N loop.lane-items loop.invariant.len (λ k below. loop.invariant.each k (omega (arith, below, loop.invariant.len)))
