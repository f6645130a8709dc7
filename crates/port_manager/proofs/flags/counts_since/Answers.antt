use Rattle.std.proofs.Common.{arith}
use Rattle.port_manager.specs.Flags.{since_at, counts_since}
use Rattle.port_manager.proofs.Places.{each_place}
use Rattle.port_manager.proofs.flags.counts_since.Goals as goal

pub returns : goal.returns
unfolding counts_since
returns g c =
    let loop = c.loop-place in
    each_place (since_at c.args.counts.now c.args.last.now c.args.moment) loop.count-items g.row.N loop.invariant.len (λ k below. loop.invariant.each k (omega (arith, below, loop.invariant.len)))
