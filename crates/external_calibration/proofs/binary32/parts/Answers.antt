use Rattle.std.proofs.Common.{◌∙◌, sym, pos, neg_ℤ, arith}
use Rattle.std.proofs.lemmas.Int.{ints}
use Rattle.std.specs.Prelude.{◌^◌}
use Rattle.std.proofs.lemmas.Bool.{cond-true, cond-false, eq-eqb, ne_eqb}
use Rattle.external_calibration.specs.Floats.{is_negative, parts_of, size}
use Rattle.external_calibration.proofs.Signs.{kept, negated}
use Rattle.external_calibration.proofs.binary32.parts.Goals as goal

pub returns-then-bits-eq1-clause-value : goal.returns-then-bits-eq1-clause-value
unfolding parts_of
returns-then-bits-eq1-clause-value c =
    let found = c.magnitude-magnitude in
    negated _ found.result.0 (2 ^ found.result.1) (size c.args.bits) found.ensures.not_negative (omega (arith, ints, found.ensures.not_negative, found.ensures.small)) found.ensures.size
    ∙ sym (cond-true (is_negative c.args.bits) (neg_ℤ (pos (size c.args.bits))) (pos (size c.args.bits)) (eq-eqb _ _ c.if-bits-eq1.true))

pub returns-else-bits-eq1-clause-value : goal.returns-else-bits-eq1-clause-value
unfolding parts_of
returns-else-bits-eq1-clause-value c =
    let found = c.magnitude-magnitude in
    kept _ found.result.0 (2 ^ found.result.1) (size c.args.bits) (omega (arith, ints, found.ensures.not_negative, found.ensures.small)) found.ensures.size
    ∙ sym (cond-false (is_negative c.args.bits) (neg_ℤ (pos (size c.args.bits))) (pos (size c.args.bits)) (ne_eqb _ _ c.if-bits-eq1.false))
