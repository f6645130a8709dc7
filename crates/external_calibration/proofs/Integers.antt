-- Products of integers, of which the second factor is mostly a natural number; quotients that are rounded down.
use Rattle.std.proofs.Common.{◌≡◌, ◌∙◌, refl, ap, zero, suc, true, false, arith}
use Rattle.std.specs.Prelude.{ℕ, ◌-◌, ◌*◌, ◌/◌, ◌%◌, ◌^◌, ◌<◌, ◌==◌, Bool, if◌then◌else◌, ℤ, pos, negsuc, neg_ℤ, ◌+ℤ◌, ◌*ℤ◌, unsigned_abs}
use Rattle.std.specs.Int.{int_div_euclid, int_rem_euclid, int_pow}
use Rattle.std.proofs.Math.Nat.{one-mul, pow-suc, pow-zero}
use Rattle.std.proofs.lemmas.Int.{ints}
use Rattle.std.proofs.lemmas.Nat.{div-add-mod', mod_below}
use Rattle.field_tables.specs.Units.{IsFloor, floor_div}
use borrow.Author.Differences.{up, down, same_in, product_is, sum_is_lem}

-- ---- products
pub mul_distributes : (a b : ℤ) (n : ℕ) → (a +ℤ b) *ℤ pos n ≡ a *ℤ pos n +ℤ b *ℤ pos n
mul_distributes a b n =
    let scaled = ap (λ x. x * n) (sum_is_lem a b) in
    same_in _ _ (omega (arith, scaled, product_is (a +ℤ b) (pos n), product_is a (pos n), product_is b (pos n), sum_is_lem (a *ℤ pos n) (b *ℤ pos n)))

pub mul_groups : (a : ℤ) (m n : ℕ) → (a *ℤ pos m) *ℤ pos n ≡ a *ℤ pos (m * n)
mul_groups a m n =
    let ups = ap (λ x. x * n) (product_is a (pos m)).0 in
    let downs = ap (λ x. x * n) (product_is a (pos m)).1 in
    same_in _ _ (omega (arith, ups, downs, product_is (a *ℤ pos m) (pos n), product_is a (pos (m * n))))

pub mul_turns : (a b : ℤ) (n : ℕ) → (a *ℤ pos n) *ℤ b ≡ (a *ℤ b) *ℤ pos n
mul_turns a b n =
    let up_up = ap (λ x. x * up b) (product_is a (pos n)).0 in
    let down_down = ap (λ x. x * down b) (product_is a (pos n)).1 in
    let up_down = ap (λ x. x * down b) (product_is a (pos n)).0 in
    let down_up = ap (λ x. x * up b) (product_is a (pos n)).1 in
    let ups = ap (λ x. x * n) (product_is a b).0 in
    let downs = ap (λ x. x * n) (product_is a b).1 in
    same_in _ _ (omega (arith, up_up, down_down, up_down, down_up, ups, downs, product_is (a *ℤ pos n) b, product_is (a *ℤ b) (pos n)))

-- ---- powers
abs_signed : (b : Bool) (n : ℕ) → unsigned_abs (if b then pos n else neg_ℤ (pos n)) ≡ n
abs_signed true n = refl
abs_signed false zero = refl
abs_signed false (suc n) = refl

pub abs-int_pow : (z : ℤ) (n : ℕ) → unsigned_abs (int_pow z n) ≡ unsigned_abs z ^ n
abs-int_pow (pos a) n = refl
abs-int_pow (negsuc a) n = abs_signed (n % 2 == 0) (suc a ^ n)

-- ---- quotients
pub div-rem_euclid : (z : ℤ) (n : ℕ) → 0 < n → int_div_euclid z (pos n) *ℤ pos n +ℤ int_rem_euclid z (pos n) ≡ z
div-rem_euclid (pos a) n some = ap pos (div-add-mod' a n)
div-rem_euclid (negsuc a) n some =
    let quotient = a / n in
    let rest = pos (n - 1 - a % n) in
    same_in _ _ (omega (arith, product_is (negsuc quotient) (pos n), sum_is_lem (negsuc quotient *ℤ pos n) rest, div-add-mod' a n, mod_below a n some))

pub rounds_53 : (z : ℤ) → IsFloor (floor_div z (2 ^ 53)) z (2 ^ 53)
rounds_53 (pos a) = (omega (arith, ints), omega (arith, ints))
rounds_53 (negsuc a) = (omega (arith, ints), omega (arith, ints))

pub rounds_96 : (z : ℤ) → IsFloor (floor_div z (2 ^ 96)) z (2 ^ 96)
rounds_96 (pos a) = (omega (arith, ints), omega (arith, ints))
rounds_96 (negsuc a) = (omega (arith, ints), omega (arith, ints))

rounds_149 : (z : ℤ) → IsFloor (floor_div z (2 ^ 149)) z (2 ^ 149)
rounds_149 (pos a) = (omega (arith, ints), omega (arith, ints))
rounds_149 (negsuc a) = (omega (arith, ints), omega (arith, ints))

-- to round down in two steps is to round down once
pub rounds_twice : (high low : ℤ) → floor_div (high *ℤ pos 100 +ℤ floor_div (low *ℤ pos 100) (2 ^ 96)) (2 ^ 53) ≡ floor_div ((high *ℤ pos (2 ^ 96) +ℤ low) *ℤ pos 100) (2 ^ 149)
rounds_twice high low =
    let first = rounds_96 (low *ℤ pos 100) in
    let second = rounds_53 (high *ℤ pos 100 +ℤ floor_div (low *ℤ pos 100) (2 ^ 96)) in
    let once = rounds_149 ((high *ℤ pos (2 ^ 96) +ℤ low) *ℤ pos 100) in
    omega (arith, ints, first, second, once)

pub rounds_256 : (z : ℤ) → IsFloor (floor_div z 256) z 256
rounds_256 (pos a) = (omega (arith, ints), omega (arith, ints))
rounds_256 (negsuc a) = (omega (arith, ints), omega (arith, ints))

rounds_65536 : (z : ℤ) → IsFloor (floor_div z 65536) z 65536
rounds_65536 (pos a) = (omega (arith, ints), omega (arith, ints))
rounds_65536 (negsuc a) = (omega (arith, ints), omega (arith, ints))

pub rounds_by_256 : (z : ℤ) → floor_div z 65536 ≡ floor_div (floor_div z 256) 256
rounds_by_256 z = omega (arith, ints, rounds_65536 z, rounds_256 z, rounds_256 (floor_div z 256))

-- ---- what is multiplied and divided by the same number
pub same_256 : (z : ℤ) → floor_div (z *ℤ pos 256) 256 ≡ z
same_256 z = omega (arith, ints, rounds_256 (z *ℤ pos 256))

pub same_149 : (z : ℤ) → floor_div (z *ℤ pos (2 ^ 149)) (2 ^ 149) ≡ z
same_149 z = omega (arith, ints, rounds_149 (z *ℤ pos (2 ^ 149)))

pow-one : (n : ℕ) → n ^ 1 ≡ n
pow-one n = pow-suc n 0 ∙ (ap (λ x. x * n) (pow-zero n) ∙ one-mul n)

pub int_pow-one : (z : ℤ) → int_pow z 1 ≡ z
int_pow-one (pos a) = ap pos (pow-one a)
int_pow-one (negsuc a) = ap (λ n. neg_ℤ (pos n)) (pow-one (suc a))
