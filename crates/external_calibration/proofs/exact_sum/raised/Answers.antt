use Rattle.std.proofs.Common.{◌≡◌, ◌∙◌, sym, subst, ap, arith, to_z, of_z}
use Rattle.std.specs.Prelude.{ℕ, ◌*◌, ◌%◌, ◌^◌, ◌<◌, ℤ, pos, ◌*ℤ◌, FitsSigned, unsigned_abs}
use Rattle.std.specs.Int.{w128}
use Rattle.std.proofs.lemmas.Int.{to_z-of_z, fits_signed_from_abs, unsigned_abs-mul}
use Rattle.external_calibration.proofs.Halves.{power_is}
use Rattle.external_calibration.proofs.exact_sum.raised.Goals as goal

product : (number : ℤ) (doublings : ℕ) → FitsSigned w128 number → doublings < 127
    → to_z w128 (of_z w128 number) *ℤ to_z w128 (1 * 2 ^ doublings % 2 ^ 128) ≡ number *ℤ pos (2 ^ doublings)
product number doublings fits few = λ i. to_z-of_z w128 number fits i *ℤ power_is doublings few i

product_fits : (number : ℤ) (doublings : ℕ) → unsigned_abs number * 2 ^ doublings < 2 ^ 127 → FitsSigned w128 (number *ℤ pos (2 ^ doublings))
product_fits number doublings small = fits_signed_from_abs w128 (number *ℤ pos (2 ^ doublings)) (omega (arith, unsigned_abs-mul number (pos (2 ^ doublings)), small))

pub overflow_mul-result : goal.overflow_mul-result
overflow_mul-result c =
    subst (FitsSigned w128) (sym (product c.args.number c.args.doublings c.ranges.number c.requires.few)) (product_fits c.args.number c.args.doublings c.requires.fits)

pub returns : goal.returns
returns c =
    ap (λ z. to_z w128 (of_z w128 z)) (product c.args.number c.args.doublings c.ranges.number c.requires.few)
    ∙ to_z-of_z w128 (c.args.number *ℤ pos (2 ^ c.args.doublings)) (product_fits c.args.number c.args.doublings c.requires.fits)
