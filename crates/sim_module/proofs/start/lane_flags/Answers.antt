use Rattle.std.proofs.Common.{arith}
use Rattle.field_tables.specs.declared.field.Register.TheVariants as registers
use Rattle.sim_module.specs.Starts.{byte_of_register}
use Rattle.sim_module.proofs.EachLane.{each_of}
use Rattle.sim_module.proofs.start.lane_flags.Goals as goal

pub returns : goal.returns
returns c =
    let loop = c.loop-index in
    each_of 0 19 (byte_of_register c.args.image.now registers.LaneFlags) loop.flag-items loop.invariant.len
    (λ k below. loop.invariant.each k (omega (arith, below, loop.invariant.len)))
