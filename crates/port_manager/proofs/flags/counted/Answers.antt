use Rattle.std.proofs.Common.{arith}
use Rattle.port_manager.specs.Flags.{counted_at, counted}
use Rattle.port_manager.proofs.Places.{each_place}
use Rattle.port_manager.proofs.flags.counted.Goals as goal

pub returns : goal.returns
unfolding counted
returns g c =
    let loop = c.loop-place in
    each_place (counted_at c.args.held.now c.args.offset c.args.bytes.now c.args.first) loop.count-items g.row.N loop.invariant.len (λ k below. loop.invariant.each k (omega (arith, below, loop.invariant.len)))
