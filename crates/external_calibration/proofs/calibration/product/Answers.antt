use Rattle.std.proofs.Common.{◌≡◌, sym, subst, ap, arith, to_z, of_z, FitsSigned}
use Rattle.std.specs.Prelude.{◌+◌, ◌-◌, ◌*◌, ◌^◌, ◌<◌, ◌*ℤ◌, unsigned_abs}
use Rattle.std.specs.Int.{int_pow, w128}
use Rattle.std.proofs.lemmas.Bool.{ltb-true}
use Rattle.std.proofs.lemmas.Int.{ints}
use Rattle.external_calibration.specs.ExactSums.{value_of}
use Rattle.external_calibration.specs.Floats.{parts_of, size}
use Rattle.external_calibration.proofs.Products.{factor_is, number_is, number_small, power_fits, power_small, product_fits, product_is, product_small, product_value}
use Rattle.external_calibration.proofs.calibration.product.Goals as goal

pub pow-requires : goal.pow-requires
pow-requires c =
    let read : to_z w128 (of_z w128 c.from-2.result) ≡ c.args.reading = omega (arith, ints, c.requires.word.0, c.requires.word.1, c.from-2.ensures) in
    subst (λ z. FitsSigned w128 (int_pow z c.args.power)) (sym read) (power_fits c.args.reading c.args.power c.requires.word c.requires.power)

pub overflow_mul-from : goal.overflow_mul-from
overflow_mul-from c =
    let mantissa = c.parts-constant.result.mantissa in
    let factor = int_pow c.args.reading c.args.power in
    let small = c.parts-constant.ensures.mantissa in
    let raised : c.pow.result ≡ int_pow (to_z w128 (of_z w128 c.from-2.result)) c.args.power = cc in
    let is = factor_is c.args.reading c.from-2.result c.pow.result c.args.power c.requires.word c.from-2.ensures raised in
    subst (FitsSigned w128) (sym (product_is mantissa c.from.result c.pow.result factor small c.from.ensures (record { sfits = c.pow.type_inv }) is))
    (product_fits mantissa factor c.args.power c.requires.power small (power_small c.args.reading c.args.power c.requires.word))

-- the number that is doubled
number : (c : goal.After-pow) → to_z w128 (of_z w128 (to_z w128 (of_z w128 c.from.result) *ℤ to_z w128 (of_z w128 c.pow.result)))
    ≡ c.parts-constant.result.mantissa *ℤ int_pow c.args.reading c.args.power
number c =
    let bound = power_small c.args.reading c.args.power c.requires.word in
    let raised : c.pow.result ≡ int_pow (to_z w128 (of_z w128 c.from-2.result)) c.args.power = cc in
    let is = factor_is c.args.reading c.from-2.result c.pow.result c.args.power c.requires.word c.from-2.ensures raised in
    number_is c.parts-constant.result.mantissa c.from.result c.pow.result (int_pow c.args.reading c.args.power) c.args.power c.requires.power
    c.parts-constant.ensures.mantissa bound c.from.ensures (record { sfits = c.pow.type_inv }) is

pub of-requires-clause-number : goal.of-requires-clause-number
of-requires-clause-number c =
    let factor = int_pow c.args.reading c.args.power in
    let bound = power_small c.args.reading c.args.power c.requires.word in
    omega (arith, ap unsigned_abs (number c), number_small c.parts-constant.result.mantissa factor c.args.power c.requires.power c.parts-constant.ensures.mantissa bound)

pub of-requires-clause-product : goal.of-requires-clause-product
of-requires-clause-product c =
    let found = c.parts-constant in
    let power = c.args.power in
    let in_range : size c.args.bits < 2 ^ (149 + 48 - 16 * power) = ltb-true (size c.args.bits) (2 ^ (149 + 48 - 16 * power)) c.requires.in_range in
    let fits =
    product_small found.result.mantissa (int_pow c.args.reading power) found.result.doublings power (size c.args.bits) c.requires.power found.ensures.size in_range
    (power_small c.args.reading power c.requires.word)
    in
    omega (arith, ap (λ z. unsigned_abs z * 2 ^ found.result.doublings) (number c), fits)

pub returns-clause-value : goal.returns-clause-value
returns-clause-value c =
    let found = c.parts-constant in
    let factor = int_pow c.args.reading c.args.power in
    let bound = power_small c.args.reading c.args.power c.requires.word in
    let raised : c.pow.result ≡ int_pow (to_z w128 (of_z w128 c.from-2.result)) c.args.power = cc in
    let is = factor_is c.args.reading c.from-2.result c.pow.result c.args.power c.requires.word c.from-2.ensures raised in
    let number_found =
    number_is found.result.mantissa c.from.result c.pow.result factor c.args.power c.requires.power found.ensures.mantissa bound c.from.ensures (record { sfits = c.pow.type_inv }) is
    in
    product_value found.result.mantissa factor (parts_of c.args.bits) _ (value_of c.of.result) found.result.doublings found.ensures.value number_found c.of.ensures.value
