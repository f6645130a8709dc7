-- A constant times a power of a reading: how large it is, and which number.
use Rattle.std.proofs.Common.{◌≡◌, ◌∙◌, refl, sym, ap, zero, suc, arith, FitsSigned, w32, to_z, of_z}
use Rattle.std.specs.Prelude.{ℕ, ◌+◌, ◌-◌, ◌*◌, ◌^◌, ◌≤◌, ◌<◌, ℤ, pos, ◌*ℤ◌, unsigned_abs}
use Rattle.std.specs.Int.{int_pow, w128}
use Rattle.std.proofs.Math.Nat.{pow-suc, pow-le-pow_left, pow-le-pow_right, mul-le-mul_left, mul-lt-mul_of_pos_right}
use Rattle.std.proofs.lemmas.Nat.{pow-add, pow_pos}
use Rattle.std.proofs.lemmas.Int.{ints, fits_signed_from_abs, to_z-of_z, unsigned_abs-mul}
use Rattle.field_tables.specs.Readings.{IsWord}
use Rattle.external_calibration.proofs.Integers.{abs-int_pow, mul_turns}

doubled : (power : ℕ) → (2 ^ 16) ^ power ≡ 2 ^ (16 * power)
doubled zero = refl
doubled (suc power) =
    pow-suc (2 ^ 16) power ∙ (ap (λ n. n * 2 ^ 16) (doubled power) ∙ (sym (pow-add 2 (16 * power) 16) ∙ ap (λ n. 2 ^ n) (let e : 16 * power + 16 ≡ 16 * suc power = omega arith in e)))

pub power_small : (reading : ℤ) (power : ℕ) → IsWord reading → unsigned_abs (int_pow reading power) ≤ 2 ^ (16 * power)
power_small reading power word =
    let size : unsigned_abs reading ≤ 2 ^ 16 = omega (arith, ints, word.0, word.1) in
    let raised = pow-le-pow_left size power in
    omega (arith, raised, abs-int_pow reading power, doubled power)

pub power_fits : (reading : ℤ) (power : ℕ) → IsWord reading → power ≤ 4 → FitsSigned w128 (int_pow reading power)
power_fits reading power word few =
    let few_bits : 16 * power ≤ 64 = omega (arith, few) in
    let room : 2 ^ (16 * power) ≤ 2 ^ 64 = pow-le-pow_right (omega arith) few_bits in
    fits_signed_from_abs w128 (int_pow reading power) (omega (arith, power_small reading power word, room))

pub number_small : (mantissa factor : ℤ) (power : ℕ) → power ≤ 4 → unsigned_abs mantissa < 2 ^ 24 → unsigned_abs factor ≤ 2 ^ (16 * power) → unsigned_abs (mantissa *ℤ factor) < 2 ^ 88
number_small mantissa factor power few small low =
    let few_bits : 16 * power ≤ 64 = omega (arith, few) in
    let room : 2 ^ (16 * power) ≤ 2 ^ 64 = pow-le-pow_right (omega arith) few_bits in
    let wide : unsigned_abs mantissa * unsigned_abs factor ≤ unsigned_abs mantissa * 2 ^ 64 = mul-le-mul_left (unsigned_abs mantissa) (omega (arith, low, room)) in
    omega (arith, unsigned_abs-mul mantissa factor, wide, small)

pub product_small : (mantissa factor : ℤ) (doublings power size : ℕ) → power ≤ 4 → unsigned_abs mantissa * 2 ^ doublings ≡ size → size < 2 ^ (149 + 48 - 16 * power)
    → unsigned_abs factor ≤ 2 ^ (16 * power) → unsigned_abs (mantissa *ℤ factor) * 2 ^ doublings < 2 ^ 197
product_small mantissa factor doublings power size few is small low =
    let all : 2 ^ (149 + 48 - 16 * power) * 2 ^ (16 * power) ≡ 2 ^ 197 =
    sym (pow-add 2 (149 + 48 - 16 * power) (16 * power)) ∙ ap (λ n. 2 ^ n) (let e : 149 + 48 - 16 * power + 16 * power ≡ 197 = omega (arith, few) in e)
    in
    let turned : unsigned_abs (mantissa *ℤ factor) * 2 ^ doublings ≡ size * unsigned_abs factor =
    ap (λ n. n * 2 ^ doublings) (unsigned_abs-mul mantissa factor) ∙ ((let e : unsigned_abs mantissa * unsigned_abs factor * 2 ^ doublings ≡ unsigned_abs mantissa * 2 ^ doublings * unsigned_abs factor = omega arith in e) ∙ ap (λ n. n * unsigned_abs factor) is)
    in
    let wide : size * unsigned_abs factor ≤ size * 2 ^ (16 * power) = mul-le-mul_left size low in
    let narrow : size * 2 ^ (16 * power) < 2 ^ (149 + 48 - 16 * power) * 2 ^ (16 * power) = mul-lt-mul_of_pos_right small (pow_pos (16 * power)) in
    omega (arith, turned, wide, narrow, all)

pub product_value : (mantissa factor whole number value : ℤ) (doublings : ℕ) → mantissa *ℤ pos (2 ^ doublings) ≡ whole → number ≡ mantissa *ℤ factor
    → value ≡ number *ℤ pos (2 ^ doublings) → value ≡ whole *ℤ factor
product_value mantissa factor whole number value doublings whole_is number_is value_is =
    value_is
    ∙ (ap (λ z. z *ℤ pos (2 ^ doublings)) number_is
    ∙ (sym (mul_turns mantissa factor (2 ^ doublings))
    ∙ ap (λ z. z *ℤ factor) whole_is))

-- ---- as the code computes them
pub factor_is : (reading wide factor : ℤ) (power : ℕ) → IsWord reading → wide ≡ to_z w32 (of_z w32 reading) → factor ≡ int_pow (to_z w128 (of_z w128 wide)) power
    → factor ≡ int_pow reading power
factor_is reading wide factor power word wide_is is =
    let read : to_z w128 (of_z w128 wide) ≡ reading = omega (arith, ints, word.0, word.1, wide_is) in
    is ∙ ap (λ z. int_pow z power) read

-- the two factors as they are multiplied
pub product_is : (mantissa wide low factor : ℤ) → unsigned_abs mantissa < 2 ^ 24 → wide ≡ to_z w32 (of_z w32 mantissa) → FitsSigned w128 low → low ≡ factor
    → to_z w128 (of_z w128 wide) *ℤ to_z w128 (of_z w128 low) ≡ mantissa *ℤ factor
product_is mantissa wide low factor small wide_is fits low_is =
    let read : to_z w128 (of_z w128 wide) ≡ mantissa = omega (arith, ints, small, wide_is) in
    λ i. read i *ℤ (to_z-of_z w128 low fits ∙ low_is) i

pub product_fits : (mantissa factor : ℤ) (power : ℕ) → power ≤ 4 → unsigned_abs mantissa < 2 ^ 24 → unsigned_abs factor ≤ 2 ^ (16 * power) → FitsSigned w128 (mantissa *ℤ factor)
product_fits mantissa factor power few small low =
    fits_signed_from_abs w128 (mantissa *ℤ factor) (omega (arith, number_small mantissa factor power few small low))

-- and the product
pub number_is : (mantissa wide low factor : ℤ) (power : ℕ) → power ≤ 4 → unsigned_abs mantissa < 2 ^ 24 → unsigned_abs factor ≤ 2 ^ (16 * power)
    → wide ≡ to_z w32 (of_z w32 mantissa) → FitsSigned w128 low → low ≡ factor
    → to_z w128 (of_z w128 (to_z w128 (of_z w128 wide) *ℤ to_z w128 (of_z w128 low))) ≡ mantissa *ℤ factor
number_is mantissa wide low factor power few small bound wide_is fits low_is =
    ap (λ z. to_z w128 (of_z w128 z)) (product_is mantissa wide low factor small wide_is fits low_is)
    ∙ to_z-of_z w128 (mantissa *ℤ factor) (product_fits mantissa factor power few small bound)
