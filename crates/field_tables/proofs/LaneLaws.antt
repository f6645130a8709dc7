-- What operations on bytes do to their lanes.
use Rattle.std.proofs.Common.{◌≡◌, ℕ, ◌+◌, ◌-◌, ◌/◌, ◌^◌, ◌<◌, ◌≤◌, ◌==◌, ◌&&◌, ◌||◌, Bool, true, false, refl, sym, ap, ◌∙◌, inl, inr, nat_eq, nat_lt, nat_le, arith, bit_and, bit_or}
use Rattle.std.proofs.Math.Bool.{and-false}
use Rattle.std.proofs.lemmas.Bool.{cases_lt, and_parts, eqb-true, eq-eqb}
use Rattle.std.proofs.lemmas.Bool.Decides.{nat_tests}
use Rattle.std.proofs.lemmas.Nat.{and_le_l}
use Rattle.std.proofs.lemmas.Nat.Bits.{bit_at_and, bit_at_or, bit_at-zero, bit_at-lt, shr_and_one, bit_at_mask_inside, bit_at_mask_below, bit_at_mask_above}
use Rattle.std.specs.Cmp.{nat_cmp_total}
use Rattle.std.specs.FinSet as set
use Rattle.std.specs.FinSet.{contains-empty, contains-union, contains-intersection, contains-is_subset, is_subset-contains, len-empty, empty_of_len, same_set, nat_cmp-IsAntisymmetric}
use Rattle.std.specs.Int.{bit_at}
use Rattle.std.specs.Ordering.{nat_cmp}
use Rattle.field_tables.specs.LaneSets.{Lanes, every_lane, run_of, lanes_in, byte_of, is_empty, is_disjoint}
use Rattle.field_tables.specs.LaneBytes.{at_bit, contains-run_of, contains-lanes_in, byte_of-lanes_in}

-- sets with the same lanes are one
pub same_lanes : (lanes others : Lanes) → ((q : ℕ) → set.contains lanes q ≡ set.contains others q) → lanes ≡ others
same_lanes = same_set nat_cmp_total nat_cmp-IsAntisymmetric

-- two bytes with the same lanes are one
same_byte : (a b : ℕ) → a < 256 → b < 256 → lanes_in a ≡ lanes_in b → a ≡ b
same_byte a b a_fits b_fits same = sym (byte_of-lanes_in a a_fits) ∙ ap byte_of same ∙ byte_of-lanes_in b b_fits

-- ---- one lane

pub contains-lane : (byte lane : ℕ) → 1 ≤ lane → lane ≤ 8 → nat_eq (bit_and (byte / 2 ^ (lane - 1)) 1) 1 ≡ set.contains (lanes_in byte) lane
contains-lane byte lane from to =
    let inside : set.contains every_lane lane ≡ true = contains-run_of 1 8 lane ∙ grind (arith, nat_tests) in
    ap (λ b. nat_eq b 1) (shr_and_one byte (lane - 1)) ∙ sym (contains-lanes_in byte lane ∙ ap (λ t. t && at_bit byte lane) inside)

pub contains-none : (byte lane : ℕ) → (1 ≤ lane → lane ≤ 8 → ⊥) → false ≡ set.contains (lanes_in byte) lane
contains-none byte lane outside =
    let apart : set.contains every_lane lane ≡ false = contains-run_of 1 8 lane ∙ grind (arith, nat_tests) in
    sym (contains-lanes_in byte lane ∙ ap (λ t. t && at_bit byte lane) apart)

-- ---- runs of lanes

mask_at : (low high i : ℕ) → (bit_at (2 ^ high - 2 ^ low) i == 1) ≡ (nat_le low i && nat_lt i high)
mask_at low high i =
    elim (cases_lt i low) [
      | inl below ↦ ap (λ b. b == 1) (bit_at_mask_below low high i below) ∙ grind (arith, nat_tests)
      | inr from ↦ elim (cases_lt i high) [
        | inl inside ↦ ap (λ b. b == 1) (bit_at_mask_inside low high i from inside) ∙ grind (arith, nat_tests)
        | inr above ↦ ap (λ b. b == 1) (bit_at_mask_above low high i above) ∙ grind (arith, nat_tests)
      ]
    ]

pub lanes_in-mask : (first count : ℕ) → 1 ≤ first → first + count ≤ 9 → lanes_in (2 ^ (first - 1 + count) - 2 ^ (first - 1)) ≡ run_of first count
lanes_in-mask first count from within =
    same_lanes _ _ (λ q.
    let mask : ℕ = 2 ^ (first - 1 + count) - 2 ^ (first - 1) in
    contains-lanes_in mask q
    ∙ (λ i. contains-run_of 1 8 q i && mask_at (first - 1) (first - 1 + count) (q - 1) i)
    ∙ grind (arith, nat_tests)
    ∙ sym (contains-run_of first count q))

-- ---- operations on sets

and_or : (s x y : Bool) → (s && (x || y)) ≡ (s && x || s && y)
and_or true x y = refl
and_or false x y = refl

and_and : (s x y : Bool) → (s && (x && y)) ≡ ((s && x) && (s && y))
and_and true x y = refl
and_and false x y = refl

pub lanes_in-or : (a b : ℕ) → lanes_in (bit_or a b) ≡ set.union (lanes_in a) (lanes_in b)
lanes_in-or a b =
    same_lanes _ _ (λ q.
    let joined : at_bit (bit_or a b) q ≡ (at_bit a q || at_bit b q) = grind (arith, nat_tests, bit_at_or a b (q - 1), bit_at-lt a (q - 1), bit_at-lt b (q - 1)) in
    contains-lanes_in (bit_or a b) q
    ∙ ap (λ t. set.contains every_lane q && t) joined
    ∙ and_or (set.contains every_lane q) (at_bit a q) (at_bit b q)
    ∙ sym (contains-union nat_cmp_total (lanes_in a) (lanes_in b) q ∙ (λ i. contains-lanes_in a q i || contains-lanes_in b q i)))

lanes_in-and : (a b : ℕ) → lanes_in (bit_and a b) ≡ set.intersection (lanes_in a) (lanes_in b)
lanes_in-and a b =
    same_lanes _ _ (λ q.
    let shared : at_bit (bit_and a b) q ≡ (at_bit a q && at_bit b q) = grind (arith, nat_tests, bit_at_and a b (q - 1), bit_at-lt a (q - 1), bit_at-lt b (q - 1)) in
    contains-lanes_in (bit_and a b) q
    ∙ ap (λ t. set.contains every_lane q && t) shared
    ∙ and_and (set.contains every_lane q) (at_bit a q) (at_bit b q)
    ∙ sym (contains-intersection nat_cmp_total (lanes_in a) (lanes_in b) q ∙ (λ i. contains-lanes_in a q i && contains-lanes_in b q i)))

pub lanes_in-zero : lanes_in 0 ≡ set.empty
lanes_in-zero =
    same_lanes _ _ (λ q.
    contains-lanes_in 0 q
    ∙ ap (λ b. set.contains every_lane q && (b == 1)) (bit_at-zero (q - 1))
    ∙ and-false (set.contains every_lane q)
    ∙ sym (contains-empty nat_cmp q))

-- ---- tests of sets

same_test : (s t : Bool) → (s ≡ true → t ≡ true) → (t ≡ true → s ≡ true) → s ≡ t
same_test true t there back = sym (there refl)
same_test false true there back = back refl
same_test false false there back = refl

pub is_empty-lanes_in : (byte : ℕ) → byte < 256 → (byte == 0) ≡ is_empty (lanes_in byte)
is_empty-lanes_in byte fits =
    same_test (byte == 0) (is_empty (lanes_in byte))
    (λ zeroed. eq-eqb _ _ (ap (λ b. set.len (lanes_in b)) (eqb-true byte 0 zeroed) ∙ ap set.len lanes_in-zero ∙ len-empty nat_cmp))
    (λ empty. eq-eqb _ _ (same_byte byte 0 fits (omega arith) (empty_of_len (lanes_in byte) (eqb-true _ _ empty) ∙ sym lanes_in-zero)))

pub is_disjoint-lanes_in : (a b : ℕ) → a < 256 → (bit_and a b == 0) ≡ is_disjoint (lanes_in a) (lanes_in b)
is_disjoint-lanes_in a b fits = is_empty-lanes_in (bit_and a b) (omega (arith, and_le_l a b)) ∙ ap is_empty (lanes_in-and a b)

and_where : (s t : Bool) → (s ≡ true → t ≡ true) → s ≡ (s && t)
and_where true t gives = sym (gives refl)
and_where false t gives = refl

pub is_subset-lanes_in : (a b : ℕ) → a < 256 → (bit_and a b == a) ≡ set.is_subset (lanes_in a) (lanes_in b)
is_subset-lanes_in a b fits =
    let shared : (q : ℕ) → set.contains (set.intersection (lanes_in a) (lanes_in b)) q ≡ (set.contains (lanes_in a) q && set.contains (lanes_in b) q) = contains-intersection nat_cmp_total (lanes_in a) (lanes_in b) in
    same_test (bit_and a b == a) (set.is_subset (lanes_in a) (lanes_in b))
    (λ kept. contains-is_subset nat_cmp_total (lanes_in a) (lanes_in b) (λ q in_a.
    let whole : lanes_in a ≡ set.intersection (lanes_in a) (lanes_in b) = ap lanes_in (sym (eqb-true _ _ kept)) ∙ lanes_in-and a b in
    (and_parts _ _ (sym (shared q) ∙ ap (λ (s : Lanes). set.contains s q) (sym whole) ∙ in_a)).1))
    (λ subset. eq-eqb _ _ (same_byte (bit_and a b) a (omega (arith, and_le_l a b)) fits
    (lanes_in-and a b ∙ sym (same_lanes _ _ (λ q. and_where _ _ (is_subset-contains nat_cmp_total (lanes_in a) (lanes_in b) subset q) ∙ sym (shared q))))))
