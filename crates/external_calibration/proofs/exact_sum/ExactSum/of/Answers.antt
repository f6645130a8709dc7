use Rattle.std.proofs.Common.{◌≡◌, ◌∙◌, refl, ap, arith, to_z, of_z}
use Rattle.std.specs.Prelude.{◌-◌, ◌*◌, ◌^◌, ℤ, pos, ◌+ℤ◌, ◌*ℤ◌, unsigned_abs}
use Rattle.std.specs.Int.{w128}
use Rattle.std.proofs.lemmas.Int.{ints, to_z-of_z, unsigned_abs-mul}
use Rattle.external_calibration.proofs.Halves.{few_doublings, not_zero, raised_small, raised_value, small_of}
use Rattle.external_calibration.proofs.exact_sum.ExactSum.of.Goals as goal

pub raised-requires-clause-few : goal.raised-requires-clause-few
raised-requires-clause-few c =
    let few = few_doublings (unsigned_abs c.args.number) c.args.doublings (not_zero c.args.number c.if-number-eq0.false) c.requires.product in
    omega (arith, few)

pub raised-requires-clause-fits : goal.raised-requires-clause-fits
raised-requires-clause-fits c =
    let number = c.args.number in
    let less = c.args.doublings - 96 in
    let size : unsigned_abs (to_z w128 (of_z w128 number)) * 2 ^ less ≡ unsigned_abs number * 2 ^ less = ap (λ z. unsigned_abs z * 2 ^ less) (to_z-of_z w128 number c.ranges.number) in
    omega (arith, size, raised_small (unsigned_abs number) c.args.doublings c.if-doublings-lt96.false c.requires.product)

raised_is : (c : goal.After-raised) → to_z w128 (of_z w128 c.raised.result) ≡ c.args.number *ℤ pos (2 ^ (c.args.doublings - 96))
raised_is c =
    to_z-of_z w128 c.raised.result (record { sfits = c.raised.type_inv })
    ∙ (c.raised.ensures ∙ ap (λ z. z *ℤ pos (2 ^ (c.args.doublings - 96))) (to_z-of_z w128 c.args.number c.ranges.number))

nothing_more : (z : ℤ) → z +ℤ pos 0 ≡ z
nothing_more z = omega (arith, ints)

pub returns-else-doublings-lt96-clause-value : goal.returns-else-doublings-lt96-clause-value
returns-else-doublings-lt96-clause-value c =
    ap (λ z. z *ℤ pos (2 ^ 96) +ℤ pos 0) (raised_is c)
    ∙ (nothing_more _ ∙ raised_value c.args.number c.args.doublings c.if-doublings-lt96.false)

pub returns-else-doublings-lt96-clause-small : goal.returns-else-doublings-lt96-clause-small
returns-else-doublings-lt96-clause-small c =
    let number = c.args.number in
    let less = c.args.doublings - 96 in
    let size = unsigned_abs-mul number (pos (2 ^ less)) in
    let few = raised_small (unsigned_abs number) c.args.doublings c.if-doublings-lt96.false c.requires.product in
    small_of (to_z w128 (of_z w128 c.raised.result)) (pos 0) (number *ℤ pos (2 ^ less)) 0 (raised_is c) refl (omega (arith, size, few)) (omega arith)
