use Rattle.std.proofs.Common.{arith}
use Rattle.std.proofs.lemmas.Int.{ints}
use Rattle.external_calibration.proofs.exact_sum.ExactSum.plus.Goals as goal

pub returns-clause-value : goal.returns-clause-value
returns-clause-value c =
    let some = c.requires.self_small in
    let more = c.requires.other_small in
    omega (arith, ints, some.high, some.low, some.below, more.high, more.low, more.below)

pub returns-clause-small : goal.returns-clause-small
returns-clause-small c =
    let at_most = c.requires.self_small in
    let more = c.requires.other_small in
    λ products some. record {
      high = omega (arith, ints, at_most.high, some.high, more.high);
      low = omega (arith, ints, at_most.low, at_most.below, some.low, more.low, more.below);
      below = omega (arith, ints, at_most.low, at_most.below, some.below, more.low, more.below);
    }
