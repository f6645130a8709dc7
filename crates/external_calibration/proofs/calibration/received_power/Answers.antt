use Rattle.std.proofs.Common.{◌≡◌, ◌∙◌, ap, arith, to_z, of_z, w32, w64}
use Rattle.std.specs.Prelude.{◌^◌, ℤ, pos, ◌*ℤ◌}
use Rattle.std.proofs.lemmas.Int.{to_z-of_z}
use Rattle.field_tables.specs.Units.{floor_div}
use Rattle.std.specs.Int.{int_pow}
use Rattle.external_calibration.specs.Amounts.{on_polynomial}
use Rattle.external_calibration.specs.ExactSums.{value_of}
use Rattle.external_calibration.specs.Floats.{parts_of}
use Rattle.external_calibration.proofs.Sums.{added, small_of_fewer}
use Rattle.external_calibration.proofs.Refused.{each_in_range}
use Rattle.external_calibration.proofs.calibration.received_power.Goals as goal

pub product-fourth-requires-clause-in_range : goal.product-fourth-requires-clause-in_range
product-fourth-requires-clause-in_range c = (each_in_range c.args.constants c.requires.accepted).0

pub product-third-requires-clause-in_range : goal.product-third-requires-clause-in_range
product-third-requires-clause-in_range c = (each_in_range c.args.constants c.requires.accepted).1

pub product-second-requires-clause-in_range : goal.product-second-requires-clause-in_range
product-second-requires-clause-in_range c = (each_in_range c.args.constants c.requires.accepted).2

pub product-first-requires-clause-in_range : goal.product-first-requires-clause-in_range
product-first-requires-clause-in_range c = (each_in_range c.args.constants c.requires.accepted).3

pub product-zeroth-requires-clause-in_range : goal.product-zeroth-requires-clause-in_range
product-zeroth-requires-clause-in_range c = (each_in_range c.args.constants c.requires.accepted).4

pub plus-requires-clause-self_small : goal.plus-requires-clause-self_small
plus-requires-clause-self_small c = small_of_fewer 1 4 c.product-fourth.result (omega arith) c.product-fourth.ensures.small

pub plus-requires-2-clause-self_small : goal.plus-requires-2-clause-self_small
plus-requires-2-clause-self_small c = small_of_fewer 2 4 c.plus.result (omega arith) (c.plus.ensures.small 1 c.product-fourth.ensures.small)

pub plus-requires-3-clause-self_small : goal.plus-requires-3-clause-self_small
plus-requires-3-clause-self_small c =
    small_of_fewer 3 4 c.plus-2.result (omega arith) (c.plus-2.ensures.small 2 (c.plus.ensures.small 1 c.product-fourth.ensures.small))

pub plus-requires-4-clause-self_small : goal.plus-requires-4-clause-self_small
plus-requires-4-clause-self_small c = c.plus-3.ensures.small 3 (c.plus-2.ensures.small 2 (c.plus.ensures.small 1 c.product-fourth.ensures.small))

pub hundreds-requires : goal.hundreds-requires
hundreds-requires c =
    c.plus-4.ensures.small 4 (c.plus-3.ensures.small 3 (c.plus-2.ensures.small 2 (c.plus.ensures.small 1 c.product-fourth.ensures.small)))

pub returns : goal.returns
unfolding on_polynomial
returns c =
    let reading = to_z-of_z w32 c.args.reading c.ranges.reading in
    let read : ℤ = to_z w32 (of_z w32 c.args.reading) in
    let fourth : value_of c.product-fourth.result ≡ parts_of c.args.constants.fourth *ℤ int_pow read 4 = cc in
    let third : value_of c.product-third.result ≡ parts_of c.args.constants.third *ℤ int_pow read 3 = cc in
    let second : value_of c.product-second.result ≡ parts_of c.args.constants.second *ℤ int_pow read 2 = cc in
    let first : value_of c.product-first.result ≡ parts_of c.args.constants.first *ℤ int_pow read 1 = cc in
    let zeroth : value_of c.product-zeroth.result ≡ parts_of c.args.constants.zeroth *ℤ int_pow read 0 = cc in
    let two = c.plus.ensures.value ∙ added _ _ _ _ fourth third in
    let three = c.plus-2.ensures.value ∙ added _ _ _ _ two second in
    let four = c.plus-3.ensures.value ∙ added _ _ _ _ three first in
    let sum = c.plus-4.ensures.value ∙ added _ _ _ _ four zeroth in
    to_z-of_z w64 c.hundreds.result (record { sfits = c.hundreds.type_inv })
    ∙ (c.hundreds.ensures
    ∙ (ap (λ z. floor_div (z *ℤ pos 100) (2 ^ 149)) sum
    ∙ ap (λ (r : ℤ). floor_div (on_polynomial c.args.constants r *ℤ pos 100) (2 ^ 149)) reading))
