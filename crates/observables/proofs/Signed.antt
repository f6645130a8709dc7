-- A word in two's complement.
use Rattle.std.proofs.Common.{◌≡◌, ℕ, suc, ◌-◌, ◌==◌, ◌≤◌, ◌<◌, sym, ap, ◌∙◌, arith, pos, negsuc, ◌-ℤ◌, w16, to_z, inl, inr, if◌then◌else◌}
use Rattle.std.proofs.lemmas.Bool.{cases_lt}
use Rattle.std.proofs.Math.Facts.{to_z-neg}
use Rattle.std.specs.Int.{bit_at}
use Rattle.std.proofs.lemmas.Int.{ints}
use Rattle.field_tables.specs.declared.layout.Sign.TheVariants.{Signed}
use Rattle.field_tables.specs.Numbers.{signed_by}

low : (n : ℕ) → n < 32768 → to_z w16 n ≡ signed_by Signed n
low n below =
    let bit : 0 ≡ bit_at n 15 = omega arith in
    let same : to_z w16 n ≡ pos n = omega (arith, ints) in
    same ∙ ap (λ (b : ℕ). if b == 1 then pos n -ℤ pos 65536 else pos n) bit

high : (n : ℕ) → 32768 ≤ n → n < 65536 → to_z w16 n ≡ signed_by Signed n
high n above fits =
    let bit : 1 ≡ bit_at n 15 = omega arith in
    let k : ℕ = 65535 - n in
    let split : 65536 - suc k ≡ n = omega arith in
    let below : to_z w16 n ≡ negsuc k = ap (to_z w16) (sym split) ∙ to_z-neg w16 k (omega arith) in
    let less : to_z w16 n ≡ pos n -ℤ pos 65536 = omega (arith, ints, below) in
    less ∙ ap (λ (b : ℕ). if b == 1 then pos n -ℤ pos 65536 else pos n) bit

pub two_s_complement : (n : ℕ) → n < 65536 → to_z w16 n ≡ signed_by Signed n
two_s_complement n fits = elim (cases_lt n 32768) [ inl below ↦ low n below | inr above ↦ high n above fits ]
