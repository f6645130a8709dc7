-- How a float's exponent bounds its size.
use Rattle.std.proofs.Common.{◌≡◌, ◌∙◌, sym, ap, zero, suc, inl, inr, arith}
use Rattle.std.specs.Prelude.{ℕ, Bool, ◌+◌, ◌-◌, ◌*◌, ◌^◌, ◌≤◌, ◌<◌, ◌==◌, nat_le, nat_lt, if◌then◌else◌}
use Rattle.std.proofs.Math.Nat.{pow-le-pow_right, mul-le-mul_right}
use Rattle.std.proofs.lemmas.Nat.{pow-add, shl_below}
use Rattle.std.proofs.lemmas.Bool.{cases_lt, cond-false, le-leb, lt-leb, lt-ltb, le-ltb, ne_eqb}

-- the size, by exponent and fraction
abbrev pub size_by : ℕ → ℕ → ℕ
size_by exponent fraction = if exponent == 0 then fraction else (2 ^ 23 + fraction) * 2 ^ (exponent - 1)

pub size_by_positive : (exponent fraction : ℕ) → ¬ (exponent ≡ 0) → size_by exponent fraction ≡ (2 ^ 23 + fraction) * 2 ^ (exponent - 1)
size_by_positive exponent fraction some = cond-false (exponent == 0) fraction ((2 ^ 23 + fraction) * 2 ^ (exponent - 1)) (ne_eqb exponent 0 some)

size_by_suc : (k fraction : ℕ) → size_by (suc k) fraction ≡ (2 ^ 23 + fraction) * 2 ^ k
size_by_suc k fraction =
    let one_less : suc k - 1 ≡ k = omega arith in
    size_by_positive (suc k) fraction (λ same. omega (arith, same)) ∙ ap (λ n. (2 ^ 23 + fraction) * 2 ^ n) one_less

fits : (k fraction power : ℕ) → fraction < 2 ^ 23 → suc k + 23 ≤ power → (2 ^ 23 + fraction) * 2 ^ k < 2 ^ power
fits k fraction power small room =
    let digits : (2 ^ 23 + fraction) * 2 ^ k < 2 ^ (24 + k) = shl_below (2 ^ 23 + fraction) 24 k (omega (arith, small)) in
    let up : 2 ^ (24 + k) ≤ 2 ^ power = pow-le-pow_right (omega arith) (omega (arith, room)) in
    omega (arith, digits, up)

exceeds : (k fraction power : ℕ) → power < suc k + 23 → 2 ^ power ≤ (2 ^ 23 + fraction) * 2 ^ k
exceeds k fraction power less =
    let up : 2 ^ power ≤ 2 ^ (23 + k) = pow-le-pow_right (omega arith) (omega (arith, less)) in
    let more : 2 ^ 23 * 2 ^ k ≤ (2 ^ 23 + fraction) * 2 ^ k = mul-le-mul_right (2 ^ k) (omega arith) in
    omega (arith, up, more, pow-add 2 23 k)

pub below_by_exponent : (exponent fraction power : ℕ) → fraction < 2 ^ 23 → 23 ≤ power → nat_le (exponent + 23) power ≡ nat_lt (size_by exponent fraction) (2 ^ power)
below_by_exponent zero fraction power small room =
    let up : 2 ^ 23 ≤ 2 ^ power = pow-le-pow_right (omega arith) room in
    le-leb (0 + 23) power (omega (arith, room)) ∙ sym (lt-ltb fraction (2 ^ power) (omega (arith, small, up)))
below_by_exponent (suc k) fraction power small room =
    let whole = ap (λ n. nat_lt n (2 ^ power)) (sym (size_by_suc k fraction)) in
    elim (cases_lt power (suc k + 23)) [
      | inl less ↦ lt-leb (suc k + 23) power less ∙ (sym (le-ltb ((2 ^ 23 + fraction) * 2 ^ k) (2 ^ power) (exceeds k fraction power less)) ∙ whole)
      | inr more ↦ le-leb (suc k + 23) power more ∙ (sym (lt-ltb ((2 ^ 23 + fraction) * 2 ^ k) (2 ^ power) (fits k fraction power small more)) ∙ whole)
    ]

-- by a test that says the same
pub below_as : (test : Bool) (exponent fraction power : ℕ) → fraction < 2 ^ 23 → 23 ≤ power → test ≡ nat_le (exponent + 23) power → test ≡ nat_lt (size_by exponent fraction) (2 ^ power)
below_as test exponent fraction power small room same = same ∙ below_by_exponent exponent fraction power small room
