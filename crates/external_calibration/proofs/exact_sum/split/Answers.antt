use Rattle.std.proofs.Common.{◌≡◌, ◌∙◌, ap, arith, to_z, of_z}
use Rattle.std.specs.Prelude.{◌-◌, ◌*◌, ◌^◌, ◌≤◌, pos, ◌+ℤ◌, ◌*ℤ◌, unsigned_abs}
use Rattle.std.specs.Int.{w128}
use Rattle.std.proofs.lemmas.Int.{to_z-of_z}
use Rattle.external_calibration.proofs.Halves.{joined, quotient_of, quotient_small, rest_fits, rest_of, small_of}
use Rattle.external_calibration.proofs.exact_sum.split.Goals as goal

pub raised-requires-clause-fits : goal.raised-requires-clause-fits
raised-requires-clause-fits c =
    let rest = c.rem_euclid.result in
    let found = rest_fits c.args.number rest c.args.doublings c.requires.few (rest_of c.args.number rest c.args.doublings c.ranges.number c.rem_euclid.ensures.value) in
    let read : to_z w128 (of_z w128 rest) ≡ rest = to_z-of_z w128 rest (record { sfits = c.rem_euclid.type_inv }) in
    let size : unsigned_abs (to_z w128 (of_z w128 rest)) * 2 ^ c.args.doublings ≡ found.0 * 2 ^ c.args.doublings = ap (λ z. unsigned_abs z * 2 ^ c.args.doublings) (read ∙ found.1) in
    omega (arith, size, found.2)

-- the two sizes as they are returned
sizes : (c : goal.After-raised) →
    let quotient = c.div_euclid.result in
    let rest = c.rem_euclid.result in
    (to_z w128 (of_z w128 quotient) ≡ quotient) × (to_z w128 (of_z w128 c.raised.result) ≡ rest *ℤ pos (2 ^ c.args.doublings))
sizes c =
    let quotient = c.div_euclid.result in
    let rest = c.rem_euclid.result in (
      to_z-of_z w128 quotient (record { sfits = c.div_euclid.type_inv }),
      to_z-of_z w128 c.raised.result (record { sfits = c.raised.type_inv })
          ∙ (c.raised.ensures ∙ ap (λ z. z *ℤ pos (2 ^ c.args.doublings)) (to_z-of_z w128 rest (record { sfits = c.rem_euclid.type_inv }))),
    )

pub returns-clause-value : goal.returns-clause-value
returns-clause-value c =
    let number = c.args.number in
    let doublings = c.args.doublings in
    let quotient_is = quotient_of number c.div_euclid.result doublings c.ranges.number c.div_euclid.ensures in
    let rest_is = rest_of number c.rem_euclid.result doublings c.ranges.number c.rem_euclid.ensures.value in
    (λ i. ((sizes c).0 ∙ quotient_is) i *ℤ pos (2 ^ 96) +ℤ ((sizes c).1 ∙ ap (λ z. z *ℤ pos (2 ^ doublings)) rest_is) i)
    ∙ joined number doublings c.requires.few

pub returns-clause-small : goal.returns-clause-small
returns-clause-small c =
    let number = c.args.number in
    let doublings = c.args.doublings in
    let quotient = c.div_euclid.result in
    let quotient_is = quotient_of number quotient doublings c.ranges.number c.div_euclid.ensures in
    let found = rest_fits number c.rem_euclid.result doublings c.requires.few (rest_of number c.rem_euclid.result doublings c.ranges.number c.rem_euclid.ensures.value) in
    let few : unsigned_abs quotient ≤ 2 ^ 102 = omega (arith, ap unsigned_abs quotient_is, quotient_small number (2 ^ (96 - doublings)), c.requires.number) in
    small_of (to_z w128 (of_z w128 quotient)) (to_z w128 (of_z w128 c.raised.result)) quotient (found.0 * 2 ^ doublings)
    (sizes c).0 ((sizes c).1 ∙ ap (λ z. z *ℤ pos (2 ^ doublings)) found.1) few found.2
