-- The two parts of a float, with its sign.
use Rattle.std.proofs.Common.{◌≡◌, ◌∙◌, sym, ap, zero, suc, arith, bit_and, bit_or, w32, to_z, of_z}
use Rattle.std.specs.Prelude.{ℕ, ◌+◌, ◌-◌, ◌*◌, ◌/◌, ◌%◌, ◌^◌, ◌<◌, ℤ, pos, negsuc, neg_ℤ, ◌+ℤ◌, ◌-ℤ◌, ◌*ℤ◌, ◌≤ℤ◌, ◌<ℤ◌, refl}
use Rattle.std.proofs.Math.Nat.{zero-mul}
use Rattle.std.proofs.lemmas.Int.{ints}
use Rattle.std.proofs.lemmas.Nat.{and_comm, or_disjoint}
use Rattle.std.proofs.lemmas.Nat.Bits.{and_pow}
use Rattle.external_calibration.proofs.FloatSizes.{size_by, size_by_positive}

neg_mul : (k d : ℕ) → neg_ℤ (pos k) *ℤ pos d ≡ neg_ℤ (pos (k * d))
neg_mul zero d = ap pos (zero-mul d) ∙ sym (ap (λ n. neg_ℤ (pos n)) (zero-mul d))
neg_mul (suc k) d = refl

pub negated : (mantissa m : ℤ) (d n : ℕ) → pos 0 ≤ℤ m → mantissa ≡ neg_ℤ m → m *ℤ pos d ≡ pos n → mantissa *ℤ pos d ≡ neg_ℤ (pos n)
negated mantissa (pos k) d n low is whole = ap (λ z. z *ℤ pos d) is ∙ (neg_mul k d ∙ ap neg_ℤ whole)
negated mantissa (negsuc k) d n low is whole = absurd (omega (arith, ints, low))

pub kept : (mantissa m : ℤ) (d n : ℕ) → mantissa ≡ m → m *ℤ pos d ≡ pos n → mantissa *ℤ pos d ≡ pos n
kept mantissa m d n is whole = ap (λ z. z *ℤ pos d) is ∙ whole

-- a 1 before a fraction of 23 bits, whether it is added or joined
pub one_beside : (fraction : ℕ) → fraction < 2 ^ 23 → bit_or 8388608 fraction ≡ 8388608 + fraction
one_beside fraction small =
    let bit : bit_and fraction (2 ^ 23) ≡ fraction / 2 ^ 23 % 2 * 2 ^ 23 = and_pow fraction 23 in
    or_disjoint 8388608 fraction (and_comm 8388608 fraction ∙ omega (arith, bit, small))

pub with_one : (mantissa : ℤ) (exponent fraction : ℕ) → ¬ (exponent ≡ 0) → mantissa ≡ pos (2 ^ 23 + fraction)
    → mantissa *ℤ pos (2 ^ (exponent - 1)) ≡ pos (size_by exponent fraction)
with_one mantissa exponent fraction some is =
    ap (λ z. z *ℤ pos (2 ^ (exponent - 1))) is ∙ ap pos (sym (size_by_positive exponent fraction some))
