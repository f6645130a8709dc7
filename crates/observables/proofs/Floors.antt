-- A quotient that is rounded down is the greatest whole number that is not above the exact one.
use Rattle.std.proofs.Common.{◌≡◌, refl, ap, arith}
use Rattle.std.specs.Prelude.{ℕ, ◌-◌, ◌*◌, ◌/◌, ◌%◌, ◌<◌, ℤ, pos, negsuc, ◌+ℤ◌, ◌*ℤ◌}
use Rattle.std.specs.Int.{int_div_euclid, int_rem_euclid}
use Rattle.std.proofs.lemmas.Int.{ints}
use Rattle.std.proofs.lemmas.Nat.{div-add-mod', mod_below}
use Rattle.field_tables.specs.Units.{IsFloor, floor_div}
use borrow.Author.Differences.{same_in, product_is, sum_is_lem}

distributes : (a b : ℤ) (n : ℕ) → (a +ℤ b) *ℤ pos n ≡ a *ℤ pos n +ℤ b *ℤ pos n
distributes a b n =
    let scaled = ap (λ x. x * n) (sum_is_lem a b) in
    same_in _ _ (omega (arith, scaled, product_is (a +ℤ b) (pos n), product_is a (pos n), product_is b (pos n), sum_is_lem (a *ℤ pos n) (b *ℤ pos n)))

divided : (z : ℤ) (n : ℕ) → 0 < n → int_div_euclid z (pos n) *ℤ pos n +ℤ int_rem_euclid z (pos n) ≡ z
divided (pos a) n some = ap pos (div-add-mod' a n)
divided (negsuc a) n some =
    let quotient = a / n in
    let rest = pos (n - 1 - a % n) in
    same_in _ _ (omega (arith, product_is (negsuc quotient) (pos n), sum_is_lem (negsuc quotient *ℤ pos n) rest, div-add-mod' a n, mod_below a n some))

rest_is : (z : ℤ) (n : ℕ) → 0 < n → (rest : ℕ) × (int_rem_euclid z (pos n) ≡ pos rest) × (rest < n)
rest_is (pos a) n some = (a % n, refl, mod_below a n some)
rest_is (negsuc a) n some = (n - 1 - a % n, refl, omega (arith, some))

pub rounds : (z : ℤ) (n : ℕ) → 0 < n → IsFloor (floor_div z n) z n
rounds z n some =
    let whole = divided z n some in
    let rest = rest_is z n some in
    let next = distributes (floor_div z n) (pos 1) n in
    (omega (arith, ints, whole, rest.1), omega (arith, ints, whole, rest.1, rest.2, next))
