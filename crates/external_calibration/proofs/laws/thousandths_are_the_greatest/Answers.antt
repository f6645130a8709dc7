use Rattle.std.proofs.Common.{sym, subst, arith}
use Rattle.std.specs.Prelude.{ℕ, ◌*◌, ◌^◌, ◌<◌, ℤ, pos, ◌*ℤ◌}
use Rattle.std.proofs.Math.Nat.{one-mul}
use Rattle.std.proofs.lemmas.Int.{ints}
use Rattle.std.proofs.lemmas.Nat.{pow_pos}
use Rattle.field_tables.specs.declared.units.Unit.TheVariants.{Temperature, Voltage, OpticalPower, Bias, ModulePower}
use Rattle.field_tables.specs.Units.{IsFloor, floor_div}
use Rattle.external_calibration.specs.GreatestThousandths.{ThousandthsAreTheGreatest}
use Rattle.external_calibration.proofs.Halves.{rest_is}
use Rattle.external_calibration.proofs.Integers.{div-rem_euclid, mul_distributes, rounds_256}
use Rattle.external_calibration.proofs.laws.thousandths_are_the_greatest.Goals as goal

rounds : (z : ℤ) (d : ℕ) → 0 < d → IsFloor (floor_div z d) z d
rounds z d some =
    let whole = div-rem_euclid z d some in
    let rest = rest_is z d some in
    let next = mul_distributes (floor_div z d) (pos 1) d in
    (omega (arith, ints, whole, rest.1), omega (arith, ints, whole, rest.1, rest.2, next))

rounds_one : (z : ℤ) (d : ℕ) → 0 < d → IsFloor (floor_div z d) z (1 * d)
rounds_one z d some = subst (λ n. IsFloor (floor_div z d) z n) (sym (one-mul d)) (rounds z d some)

-- to round down in two steps is to round down once
rounds_twice : (z : ℤ) (d : ℕ) → 0 < d → IsFloor (floor_div (floor_div z 256) d) z (256 * d)
rounds_twice z d some =
    let first = rounds_256 z in
    let second = rounds (floor_div z 256) d some in
    (omega (arith, ints, first.0, second.0), omega (arith, ints, first.1, second.1))

greatest : ThousandthsAreTheGreatest
greatest Temperature halvings parts = rounds_twice (parts *ℤ pos 1000) (2 ^ halvings) (pow_pos halvings)
greatest Voltage halvings parts = rounds_one (parts *ℤ pos 100) (2 ^ halvings) (pow_pos halvings)
greatest OpticalPower halvings parts = rounds_one (parts *ℤ pos 100) (2 ^ halvings) (pow_pos halvings)
greatest Bias halvings parts = rounds_one (parts *ℤ pos 2) (2 ^ halvings) (pow_pos halvings)
greatest ModulePower halvings parts = rounds_one (parts *ℤ pos 250) (2 ^ halvings) (pow_pos halvings)

pub returns : goal.returns
returns c = greatest
