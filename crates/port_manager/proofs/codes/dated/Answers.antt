use Rattle.std.proofs.Common.{arith}
use Rattle.port_manager.specs.Codes.{dated_at, dated}
use Rattle.port_manager.proofs.Places.{each_place}
use Rattle.port_manager.proofs.codes.dated.Goals as goal

pub returns : goal.returns
unfolding dated
returns c =
    let loop = c.loop-place in
    each_place (dated_at c.args.held.now c.args.offset c.args.bytes.now c.args.first c.args.now) loop.moment-items 8 loop.invariant.len (λ k below. loop.invariant.each k (omega (arith, below, loop.invariant.len)))
