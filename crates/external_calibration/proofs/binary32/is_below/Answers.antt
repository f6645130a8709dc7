use Rattle.std.proofs.Common.{◌^◌, arith}
use Rattle.std.proofs.lemmas.Bool.Decides.{nat_tests}
use Rattle.std.proofs.lemmas.Nat.{mod_below}
use Rattle.external_calibration.specs.Floats.{exponent, fraction, size}
use Rattle.external_calibration.proofs.FloatSizes.{below_as}
use Rattle.external_calibration.proofs.binary32.is_below.Goals as goal

pub returns : goal.returns
unfolding size
returns c =
    let bits = c.args.bits in
    below_as _ (exponent bits) (fraction bits) c.args.power (mod_below bits (2 ^ 23) (omega arith)) c.requires
    (grind (arith, nat_tests, c.exponent.ensures.exponent, c.requires))
