-- Which level a power has, from the powers of ten around it and from the level of a power some decades above.
use Rattle.std.proofs.Common.{◌≡◌, ◌∙◌, sym, ap, arith, zero, suc, inl, inr}
use Rattle.std.specs.Prelude.{ℕ, ◌+◌, ◌-◌, ◌*◌, ◌^◌, ◌≤◌, ◌<◌}
use Rattle.std.proofs.Math.Nat.{pow-zero, pow-suc, pow-le-pow_right, le_of_mul-le-mul_right, one-le-pow, mul-le-mul_right, mul-zero, mul_comm}
use Rattle.std.proofs.lemmas.Nat.{mul-pow, pow-add}
use Rattle.std.proofs.lemmas.Bool.{cases_lt}
use Rattle.decibels.specs.Levels.{IsLevel}

-- a power of a power
pub pow-pow : (n i j : ℕ) → (n ^ i) ^ j ≡ n ^ (i * j)
pow-pow n i zero = pow-zero (n ^ i) ∙ (sym (pow-zero n) ∙ ap (λ k. n ^ k) (sym (mul-zero i)))
pow-pow n i (suc j) = pow-suc (n ^ i) j ∙ (ap (λ x. x * n ^ i) (pow-pow n i j) ∙ (sym (pow-add n (i * j) i) ∙ ap (λ k. n ^ k) (let e : i * j + i ≡ i * suc j = omega arith in e)))

-- what bounds a level from both sides
pub level_between : (power level : ℕ) → 10 ^ level ≤ power ^ 1000 → power ^ 1000 < 10 ^ (level + 1) → IsLevel power level
level_between power level low high = (
  low,
  λ other reached. elim (cases_lt level other) [
    | inl above ↦ let more : 10 ^ (level + 1) ≤ 10 ^ other = pow-le-pow_right (omega arith) (omega (arith, above)) in absurd (omega (arith, more, reached, high))
    | inr below ↦ below
  ],
)

-- ten to the decades is a factor of 1000 hundredths each
factor : (power decades : ℕ) → (power * 10 ^ decades) ^ 1000 ≡ power ^ 1000 * 10 ^ (1000 * decades)
factor power decades =
    mul-pow power (10 ^ decades) 1000
    ∙ ap (λ x. power ^ 1000 * x) (pow-pow 10 decades 1000 ∙ ap (λ k. 10 ^ k) (mul_comm decades 1000))

pub level_scaled : (power decades level : ℕ) → 1000 * decades ≤ level → IsLevel (power * 10 ^ decades) level → IsLevel power (level - 1000 * decades)
level_scaled power decades level below scaled =
    let gain = 1000 * decades in
    let positive : 0 < 10 ^ gain = one-le-pow gain 10 (omega arith) in
    let up : (h : ℕ) → 10 ^ (h + gain) ≡ 10 ^ h * 10 ^ gain = λ h. pow-add 10 h gain in
    let same : level - gain + gain ≡ level = omega arith in (
      le_of_mul-le-mul_right (omega (arith, scaled.0, factor power decades, up (level - gain), ap (λ k. 10 ^ k) same)) positive,
      λ other reached.
          let raised = mul-le-mul_right (10 ^ gain) reached in
          let bound = scaled.1 (other + gain) (omega (arith, raised, factor power decades, up other)) in
          omega (arith, bound, below),
    )
