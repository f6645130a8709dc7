-- Counts of steps by a slope and an offset, and their thousandths.
use Rattle.std.proofs.Common.{◌≡◌, ◌∙◌, ap, arith, w16, w64, to_z, of_z}
use Rattle.std.specs.Prelude.{ℕ, ◌*◌, ◌^◌, ◌≤◌, ◌<◌, ℤ, pos, ◌+ℤ◌, ◌*ℤ◌, FitsSigned, unsigned_abs}
use Rattle.std.specs.Int.{int_div_euclid}
use Rattle.std.proofs.lemmas.Nat.{mul-le}
use Rattle.std.proofs.lemmas.Int.{ints, fits_signed_from_abs, to_z-of_z, unsigned_abs-mul}
use Rattle.field_tables.specs.Readings.{IsWord}
use Rattle.field_tables.specs.Units.{floor_div}
use Rattle.external_calibration.proofs.Halves.{quotient_small}

pub product_small : (slope : ℕ) (reading : ℤ) → slope < 2 ^ 16 → IsWord reading → unsigned_abs (pos slope *ℤ reading) ≤ 2 ^ 32
product_small slope reading small word =
    let size : unsigned_abs reading ≤ 2 ^ 16 = omega (arith, ints, word.0, word.1) in
    let wide : slope * unsigned_abs reading ≤ 2 ^ 16 * 2 ^ 16 = mul-le slope (unsigned_abs reading) (2 ^ 16) (2 ^ 16) (omega (arith, small)) size in
    omega (arith, wide, unsigned_abs-mul (pos slope) reading)

pub count_small : (slope : ℕ) (reading offset : ℤ) → slope < 2 ^ 16 → IsWord reading → FitsSigned w16 offset → unsigned_abs (pos slope *ℤ reading +ℤ offset *ℤ pos 256) < 2 ^ 34
count_small slope reading offset small word fits =
    omega (arith, ints, product_small slope reading small word, fits)

-- the two factors, from what their conversions give
pub product_is : (slope : ℕ) (reading first second : ℤ) → slope < 2 ^ 16 → IsWord reading → first ≡ pos slope → second ≡ reading
    → to_z w64 (of_z w64 first) *ℤ to_z w64 (of_z w64 second) ≡ pos slope *ℤ reading
product_is slope reading first second small word first_is second_is =
    let one : to_z w64 (of_z w64 first) ≡ pos slope = omega (arith, ints, first_is, small) in
    let two : to_z w64 (of_z w64 second) ≡ reading = omega (arith, ints, second_is, word.0, word.1) in
    λ i. one i *ℤ two i

-- thousandths of a count, as the code computes them
pub scaled : (count quotient : ℤ) (thousandths parts : ℕ) → unsigned_abs count < 2 ^ 34 → thousandths ≤ 1000
    → quotient ≡ int_div_euclid (to_z w64 (of_z w64 (to_z w64 (of_z w64 count) *ℤ pos thousandths))) (pos parts)
    → to_z w64 (of_z w64 quotient) ≡ floor_div (count *ℤ pos thousandths) parts
scaled count quotient thousandths parts small few is =
    let product = count *ℤ pos thousandths in
    let bound : unsigned_abs count * thousandths ≤ 2 ^ 34 * 1000 = mul-le (unsigned_abs count) thousandths (2 ^ 34) 1000 (omega (arith, small)) few in
    let size = unsigned_abs-mul count (pos thousandths) in
    let count_fits : FitsSigned w64 count = fits_signed_from_abs w64 count (omega (arith, small)) in
    let product_fits : FitsSigned w64 product = fits_signed_from_abs w64 product (omega (arith, bound, size)) in
    let whole : to_z w64 (of_z w64 (to_z w64 (of_z w64 count) *ℤ pos thousandths)) ≡ product =
    ap (λ z. to_z w64 (of_z w64 (z *ℤ pos thousandths))) (to_z-of_z w64 count count_fits) ∙ to_z-of_z w64 product product_fits
    in
    let found : quotient ≡ floor_div product parts = is ∙ ap (λ z. floor_div z parts) whole in
    let quotient_fits : FitsSigned w64 quotient = fits_signed_from_abs w64 quotient (omega (arith, ap unsigned_abs found, quotient_small product parts, bound, size)) in
    to_z-of_z w64 quotient quotient_fits ∙ found

pub scaled_fits : (count : ℤ) (thousandths : ℕ) → unsigned_abs count < 2 ^ 34 → thousandths ≤ 1000 → FitsSigned w64 (to_z w64 (of_z w64 count) *ℤ pos thousandths)
scaled_fits count thousandths small few =
    let bound : unsigned_abs count * thousandths ≤ 2 ^ 34 * 1000 = mul-le (unsigned_abs count) thousandths (2 ^ 34) 1000 (omega (arith, small)) few in
    let read : to_z w64 (of_z w64 count) ≡ count = to_z-of_z w64 count (fits_signed_from_abs w64 count (omega (arith, small))) in
    let size = unsigned_abs-mul count (pos thousandths) in
    let shown = ap (λ z. unsigned_abs (z *ℤ pos thousandths)) read in
    fits_signed_from_abs w64 (to_z w64 (of_z w64 count) *ℤ pos thousandths) (omega (arith, bound, size, shown))
