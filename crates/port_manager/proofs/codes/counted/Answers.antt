use Rattle.std.proofs.Common.{arith}
use Rattle.port_manager.specs.Codes.{counted_at, counted}
use Rattle.port_manager.proofs.Places.{each_place}
use Rattle.port_manager.proofs.codes.counted.Goals as goal

pub returns : goal.returns
unfolding counted
returns c =
    let loop = c.loop-place in
    each_place (counted_at c.args.held.now c.args.offset c.args.bytes.now c.args.first) loop.count-items 8 loop.invariant.len (λ k below. loop.invariant.each k (omega (arith, below, loop.invariant.len)))
