use Rattle.std.proofs.Common.{[]}
use Rattle.plan_certificate.proofs.FiveBytes.{blank_are, blank_bounds}
use Rattle.plan_certificate.proofs.certificate.bounds.Bounds.none.Goals as goal

pub invariant_of-result : goal.invariant_of-result
invariant_of-result c = blank_are

pub returns : goal.returns
returns c = λ i. record { text = []; bounds = blank_bounds i }
