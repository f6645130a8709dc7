-- The test for the same operation tells it.
use Rattle.std.proofs.Common.{◌≡◌, ℕ, ◌&&◌, Bool, true, false, List, [], ◌∷◌, refl, subst, eq-eqb}
use Rattle.std.proofs.lemmas.Bool.{and_parts, and_from, eqb-true}
use Rattle.bus_model.specs.declared.device.Dev.{Dev}
use Rattle.bus_model.specs.declared.device.Dev.TheVariants.{A0, A2}
use Rattle.bus_model.specs.declared.operation.Op.{Op}
use Rattle.bus_model.specs.declared.operation.Op.TheVariants.{Fetch, Store}
use Rattle.bus_model.specs.SameOperation.{same_bytes, same_device, same_op}

devices_are : (a b : Dev) → same_device a b ≡ true → a ≡ b
devices_are A0 A0 e = refl
devices_are A2 A2 e = refl
devices_are A0 A2 e = cc
devices_are A2 A0 e = cc

bytes_are : (xs ys : List ℕ) → same_bytes xs ys ≡ true → xs ≡ ys
bytes_are [] [] e = refl
bytes_are (x ∷ xs) (y ∷ ys) e =
    let parts = and_parts _ _ e in
    let head = eqb-true x y parts.0 in
    let tail = bytes_are xs ys parts.1 in
    λ i. head i ∷ tail i
bytes_are [] (y ∷ ys) e = cc
bytes_are (x ∷ xs) [] e = cc

pub ops_are : (a b : Op) → same_op a b ≡ true → a ≡ b
ops_are (Fetch dev offset count) (Fetch dev' offset' count') e =
    let parts = and_parts _ _ e in
    let numbers = and_parts _ _ parts.1 in
    let device = devices_are dev dev' parts.0 in
    let first = eqb-true offset offset' numbers.0 in
    let many = eqb-true count count' numbers.1 in
    λ i. Fetch (device i) (first i) (many i)
ops_are (Store dev offset bytes) (Store dev' offset' bytes') e =
    let parts = and_parts _ _ e in
    let numbers = and_parts _ _ parts.1 in
    let device = devices_are dev dev' parts.0 in
    let first = eqb-true offset offset' numbers.0 in
    let given = bytes_are bytes.items bytes'.items numbers.1 in
    λ i. Store (device i) (first i) (record { items = given i })
ops_are (Fetch dev offset count) (Store dev' offset' bytes') e = cc
ops_are (Store dev offset bytes) (Fetch dev' offset' count') e = cc

same_device_refl : (a : Dev) → same_device a a ≡ true
same_device_refl A0 = refl
same_device_refl A2 = refl

same_bytes_refl : (bytes : List ℕ) → same_bytes bytes bytes ≡ true
same_bytes_refl [] = refl
same_bytes_refl (byte ∷ bytes) = and_from _ _ (eq-eqb byte byte refl) (same_bytes_refl bytes)

same_op_refl : (a : Op) → same_op a a ≡ true
same_op_refl (Fetch dev offset count) = and_from _ _ (same_device_refl dev) (and_from _ _ (eq-eqb offset offset refl) (eq-eqb count count refl))
same_op_refl (Store dev offset bytes) = and_from _ _ (same_device_refl dev) (and_from _ _ (eq-eqb offset offset refl) (same_bytes_refl bytes.items))

pub ops_same : (a b : Op) → a ≡ b → same_op a b ≡ true
ops_same a b e = subst (λ b. same_op a b ≡ true) e (same_op_refl a)

not_both : (b : Bool) → b ≡ true → b ≡ false → ⊥
not_both true e h = cc
not_both false e h = cc

-- operations that a test tells apart are two
pub apart : (a b : Op) → same_op a b ≡ false → a ≡ b → ⊥
apart a b differs e = not_both (same_op a b) (ops_same a b e) differs
