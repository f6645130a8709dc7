use Rattle.std.proofs.Common.{◌≡◌, ◌∙◌, sym, ap, arith, pos}
use Rattle.std.specs.Prelude.{ℕ, ◌<◌, ◌^◌}
use Rattle.std.proofs.lemmas.Int.{ints}
use Rattle.std.proofs.lemmas.Nat.{mod_below}
use Rattle.external_calibration.specs.Floats.{exponent, fraction, size}
use Rattle.external_calibration.proofs.FloatSizes.{size_by}
use Rattle.external_calibration.proofs.Signs.{one_beside, with_one}
use Rattle.external_calibration.proofs.binary32.magnitude.Goals as goal

fraction_small : (bits : ℕ) → fraction bits < 2 ^ 23
fraction_small bits = mod_below bits (2 ^ 23) (omega arith)

pub returns-in-0-clause-size : goal.returns-in-0-clause-size
unfolding size
returns-in-0-clause-size c =
    let bits = c.args.bits in
    let none : exponent bits ≡ 0 = cc in
    let small = fraction_small bits in
    let whole : size bits ≡ fraction bits = ap (λ (e : ℕ). size_by e (fraction bits)) none in
    omega (arith, ints, small, whole)

pub returns-in_default-clause-size : goal.returns-in_default-clause-size
unfolding size
returns-in_default-clause-size c =
    let bits = c.args.bits in
    let small = fraction_small bits in
    with_one _ c.exponent.result (fraction bits) (λ none. omega arith) (omega (arith, ints, small, one_beside (fraction bits) small))
    ∙ ap (λ (e : ℕ). pos (size_by e (fraction bits))) c.exponent.ensures.exponent
