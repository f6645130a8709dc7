use Rattle.std.proofs.Common.{arith}
use Rattle.port_manager.specs.Codes.{code_read_at, codes_read}
use Rattle.port_manager.proofs.Places.{each_place}
use Rattle.port_manager.proofs.codes.codes_read.Goals as goal

pub returns : goal.returns
unfolding codes_read
returns c =
    let loop = c.loop-place in
    each_place (code_read_at c.args.held.now c.args.offset c.args.bytes.now c.args.first) loop.code-items 8 loop.invariant.len (λ k below. loop.invariant.each k (omega (arith, below, loop.invariant.len)))
