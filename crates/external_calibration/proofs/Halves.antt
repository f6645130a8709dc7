-- A number that is doubled so often, in its two sizes.
use Rattle.std.proofs.Common.{◌≡◌, ◌∙◌, sym, refl, ap, zero, suc, inl, inr, arith, to_z, of_z}
use Rattle.std.specs.Prelude.{ℕ, ◌+◌, ◌-◌, ◌*◌, ◌%◌, ◌^◌, ◌≤◌, ◌<◌, ℤ, pos, negsuc, ◌+ℤ◌, ◌*ℤ◌, FitsSigned, unsigned_abs}
use Rattle.std.specs.Int.{int_div_euclid, int_rem_euclid, w128}
use Rattle.std.proofs.Math.Nat.{pow-le-pow_right, mul-le-mul_right, mul-lt-mul_of_pos_right, div-le_self}
use Rattle.std.proofs.lemmas.Nat.{pow-add, pow_pos, pow_below, one_shl, mod_below}
use Rattle.std.proofs.lemmas.Bool.{cases_lt}
use Rattle.std.proofs.lemmas.Int.{ints, to_z-of_z, to_z_pos}
use Rattle.external_calibration.specs.ExactSums.{IsSmall}
use Rattle.external_calibration.proofs.Integers.{div-rem_euclid, mul_distributes, mul_groups}

whole : (doublings : ℕ) → doublings < 96 → 2 ^ (96 - doublings) * 2 ^ doublings ≡ 2 ^ 96
whole doublings few = sym (pow-add 2 (96 - doublings) doublings) ∙ ap (λ n. 2 ^ n) (let e : 96 - doublings + doublings ≡ 96 = omega arith in e)

pub joined : (number : ℤ) (doublings : ℕ) → doublings < 96
    → int_div_euclid number (pos (2 ^ (96 - doublings))) *ℤ pos (2 ^ 96) +ℤ int_rem_euclid number (pos (2 ^ (96 - doublings))) *ℤ pos (2 ^ doublings)
    ≡ number *ℤ pos (2 ^ doublings)
joined number doublings few =
    let cut = 2 ^ (96 - doublings) in
    let quotient = int_div_euclid number (pos cut) in
    let rest = int_rem_euclid number (pos cut) in
    ap (λ n. quotient *ℤ pos n +ℤ rest *ℤ pos (2 ^ doublings)) (sym (whole doublings few))
    ∙ (ap (λ z. z +ℤ rest *ℤ pos (2 ^ doublings)) (sym (mul_groups quotient cut (2 ^ doublings)))
    ∙ (sym (mul_distributes (quotient *ℤ pos cut) rest (2 ^ doublings))
    ∙ ap (λ z. z *ℤ pos (2 ^ doublings)) (div-rem_euclid number cut (pow_pos (96 - doublings)))))

pub rest_is : (number : ℤ) (cut : ℕ) → 0 < cut → (rest : ℕ) × (int_rem_euclid number (pos cut) ≡ pos rest) × (rest < cut)
rest_is (pos a) cut some = (a % cut, refl, mod_below a cut some)
rest_is (negsuc a) cut some = (cut - 1 - a % cut, refl, omega (arith, some))

pub quotient_small : (number : ℤ) (cut : ℕ) → unsigned_abs (int_div_euclid number (pos cut)) ≤ unsigned_abs number
quotient_small (pos a) cut = div-le_self a cut
quotient_small (negsuc a) cut = omega (arith, div-le_self a cut)

pub rest_small : (rest doublings : ℕ) → doublings < 96 → rest < 2 ^ (96 - doublings) → rest * 2 ^ doublings < 2 ^ 96
rest_small rest doublings few below =
    let room : rest * 2 ^ doublings < 2 ^ (96 - doublings) * 2 ^ doublings = mul-lt-mul_of_pos_right below (pow_pos doublings) in
    omega (arith, room, whole doublings few)

pub few_doublings : (size doublings : ℕ) → 0 < size → size * 2 ^ doublings < 2 ^ 197 → doublings < 197
few_doublings size doublings some fits =
    elim (cases_lt doublings 197) [
      | inl few ↦ few
      | inr many ↦
          let up : 2 ^ 197 ≤ 2 ^ doublings = pow-le-pow_right (omega arith) many in
          let more : 1 * 2 ^ doublings ≤ size * 2 ^ doublings = mul-le-mul_right (2 ^ doublings) some in
          absurd (omega (arith, up, more, fits))
    ]

split_power : (doublings : ℕ) → 96 ≤ doublings → 2 ^ (doublings - 96) * 2 ^ 96 ≡ 2 ^ doublings
split_power doublings many = sym (pow-add 2 (doublings - 96) 96) ∙ ap (λ n. 2 ^ n) (let e : doublings - 96 + 96 ≡ doublings = omega arith in e)

pub raised_small : (size doublings : ℕ) → 96 ≤ doublings → size * 2 ^ doublings < 2 ^ 197 → size * 2 ^ (doublings - 96) < 2 ^ 101
raised_small size doublings many fits =
    let scaled = ap (λ n. size * n) (split_power doublings many) in
    omega (arith, scaled, fits)

pub raised_value : (number : ℤ) (doublings : ℕ) → 96 ≤ doublings → (number *ℤ pos (2 ^ (doublings - 96))) *ℤ pos (2 ^ 96) ≡ number *ℤ pos (2 ^ doublings)
raised_value number doublings many = mul_groups number (2 ^ (doublings - 96)) (2 ^ 96) ∙ ap (λ n. number *ℤ pos n) (split_power doublings many)

-- ---- as the code computes them
pub power_is : (doublings : ℕ) → doublings < 127 → to_z w128 (1 * 2 ^ doublings % 2 ^ 128) ≡ pos (2 ^ doublings)
power_is doublings few = ap (to_z w128) (one_shl doublings 128 (omega (arith, few))) ∙ to_z_pos w128 (2 ^ doublings) (pow_below doublings 127 few)

pub rest_of : (number rest : ℤ) (doublings : ℕ) → FitsSigned w128 number → rest ≡ int_rem_euclid (to_z w128 (of_z w128 number)) (to_z w128 (1 * 2 ^ (96 - doublings) % 2 ^ 128))
    → rest ≡ int_rem_euclid number (pos (2 ^ (96 - doublings)))
rest_of number rest doublings fits is = is ∙ λ i. int_rem_euclid (to_z-of_z w128 number fits i) (power_is (96 - doublings) (omega arith) i)

pub quotient_of : (number quotient : ℤ) (doublings : ℕ) → FitsSigned w128 number → quotient ≡ int_div_euclid (to_z w128 (of_z w128 number)) (to_z w128 (1 * 2 ^ (96 - doublings) % 2 ^ 128))
    → quotient ≡ int_div_euclid number (pos (2 ^ (96 - doublings)))
quotient_of number quotient doublings fits is = is ∙ λ i. int_div_euclid (to_z-of_z w128 number fits i) (power_is (96 - doublings) (omega arith) i)

pub rest_fits : (number rest : ℤ) (doublings : ℕ) → doublings < 96 → rest ≡ int_rem_euclid number (pos (2 ^ (96 - doublings)))
    → (shown : ℕ) × (rest ≡ pos shown) × (shown * 2 ^ doublings < 2 ^ 96)
rest_fits number rest doublings few is =
    let found = rest_is number (2 ^ (96 - doublings)) (pow_pos (96 - doublings)) in
    (found.0, is ∙ found.1, rest_small found.0 doublings few found.2)

pub small_of : (high low quotient : ℤ) (n : ℕ) → high ≡ quotient → low ≡ pos n → unsigned_abs quotient ≤ 2 ^ 102 → n < 2 ^ 96 → IsSmall 1 (record { high = high; low = low })
small_of high low quotient n high_is low_is high_small low_small = record {
  high = omega (arith, ap unsigned_abs high_is, high_small);
  low = omega (arith, ints, low_is);
  below = omega (arith, ints, low_is, low_small);
}

pub not_zero : (number : ℤ) → ¬ (of_z w128 number ≡ 0) → 0 < unsigned_abs number
not_zero (pos zero) some = absurd (some refl)
not_zero (pos (suc n)) some = omega arith
not_zero (negsuc n) some = omega arith
