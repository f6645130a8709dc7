use Rattle.std.proofs.Common.{◌≡◌, ◌∙◌, ap, arith, to_z, of_z, w64}
use Rattle.std.specs.Prelude.{◌^◌, ◌<◌, ℤ, pos, ◌+ℤ◌, ◌*ℤ◌, unsigned_abs}
use Rattle.std.specs.Int.{int_div_euclid, w128}
use Rattle.std.proofs.lemmas.Int.{ints}
use Rattle.field_tables.specs.Units.{floor_div}
use Rattle.external_calibration.specs.ExactSums.{IsSmall}
use Rattle.external_calibration.specs.declared.exact_sum.ExactSum.{ExactSum}
use Rattle.external_calibration.proofs.Integers.{rounds_53, rounds_96, rounds_twice}
use Rattle.external_calibration.proofs.exact_sum.ExactSum.hundreds.Goals as goal

-- what the code's first quotient is
carried : (sum : ExactSum) (carry : ℤ) → IsSmall 5 sum → carry ≡ int_div_euclid (to_z w128 (of_z w128 (to_z w128 (of_z w128 sum.low) *ℤ pos 100))) (pos (2 ^ 96))
    → carry ≡ floor_div (sum.low *ℤ pos 100) (2 ^ 96)
carried sum carry small is =
    let whole : to_z w128 (of_z w128 (to_z w128 (of_z w128 sum.low) *ℤ pos 100)) ≡ sum.low *ℤ pos 100 = omega (arith, ints, small.low, small.below) in
    is ∙ ap (λ z. floor_div z (2 ^ 96)) whole

-- what its second one is
rounded : (sum : ExactSum) (carry result : ℤ) → IsSmall 5 sum → carry ≡ floor_div (sum.low *ℤ pos 100) (2 ^ 96)
    → result
    ≡ int_div_euclid (to_z w128 (of_z w128 (to_z w128 (of_z w128 (to_z w128 (of_z w128 sum.high) *ℤ pos 100)) +ℤ to_z w128 (of_z w128 carry)))) (pos (2 ^ 53))
    → result ≡ floor_div (sum.high *ℤ pos 100 +ℤ floor_div (sum.low *ℤ pos 100) (2 ^ 96)) (2 ^ 53)
rounded sum carry result small carry_is is =
    let bounds = rounds_96 (sum.low *ℤ pos 100) in
    let whole : to_z w128 (of_z w128 (to_z w128 (of_z w128 (to_z w128 (of_z w128 sum.high) *ℤ pos 100)) +ℤ to_z w128 (of_z w128 carry))) ≡ sum.high *ℤ pos 100 +ℤ floor_div (sum.low *ℤ pos 100) (2 ^ 96) =
    omega (arith, ints, small.high, small.low, small.below, bounds, carry_is)
    in
    is ∙ ap (λ z. floor_div z (2 ^ 53)) whole

small_enough : (sum : ExactSum) (result : ℤ) → IsSmall 5 sum → result ≡ floor_div (sum.high *ℤ pos 100 +ℤ floor_div (sum.low *ℤ pos 100) (2 ^ 96)) (2 ^ 53)
    → unsigned_abs result < 2 ^ 62
small_enough sum result small is =
    let first = rounds_96 (sum.low *ℤ pos 100) in
    let second = rounds_53 (sum.high *ℤ pos 100 +ℤ floor_div (sum.low *ℤ pos 100) (2 ^ 96)) in
    omega (arith, ints, small.high, small.low, small.below, first, second, is)

result_is : (c : goal.After-div_euclid-2) → c.div_euclid-2.result ≡ floor_div (c.args.self.high *ℤ pos 100 +ℤ floor_div (c.args.self.low *ℤ pos 100) (2 ^ 96)) (2 ^ 53)
result_is c =
    let sum = c.args.self in
    let parts : c.div_euclid.result ≡ int_div_euclid (to_z w128 (of_z w128 (to_z w128 (of_z w128 sum.low) *ℤ pos 100))) (pos (2 ^ 96)) = cc in
    rounded sum c.div_euclid.result c.div_euclid-2.result c.requires (carried sum c.div_euclid.result c.requires parts) c.div_euclid-2.ensures

pub overflow_cast-result : goal.overflow_cast-result
overflow_cast-result c = omega (arith, ints, small_enough c.args.self c.div_euclid-2.result c.requires (result_is c))

pub returns : goal.returns
returns c =
    let result = c.div_euclid-2.result in
    let shown : to_z w64 (of_z w64 (to_z w128 (of_z w128 result))) ≡ result = omega (arith, ints, small_enough c.args.self result c.requires (result_is c)) in
    shown ∙ (result_is c ∙ rounds_twice c.args.self.high c.args.self.low)
