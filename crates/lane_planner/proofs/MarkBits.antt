-- Marks that are kept as bits.
use Rattle.std.proofs.Common.{◌≡◌, ℕ, ◌*◌, ◌/◌, ◌%◌, ◌^◌, ◌<◌, ◌||◌, true, false, List, length, replicate, set, get_or, nat_eq, bit_or, w8, refl, ap, ◌∙◌, inl, inr, arith, eq-eqb, ne_eqb, get_or-set_other}
use Rattle.std.proofs.lemmas.Bool.{cases_eq}
use Rattle.std.proofs.lemmas.Grind.{get_or-set_at}
use Rattle.std.proofs.lemmas.Nat.Bits.{bit_at-zero, bit_at_set_same, bit_at_set_other}
use Rattle.std.specs.Int.{bit_at}
use Rattle.lane_planner.specs.Marks.{is_marked}
use Rattle.lane_planner.proofs.CellNumbers.{get_of_same}

-- the byte of a place with its bit set
abbrev pub byte_with : List ℕ → ℕ → ℕ
byte_with bytes place = bit_or (get_or bytes (place / 8) 0) (1 * 2 ^ (place % 8) % 2 ^ 8)

pub set_at : (bytes : List ℕ) (place other : ℕ) → place / 8 < length bytes → is_marked (set bytes (place / 8) (byte_with bytes place)) other ≡ (nat_eq other place || is_marked bytes other)
set_at bytes place other inside =
    let byte = get_or bytes (place / 8) 0 in
    let fits : place % 8 < 8 = omega arith in
    elim (cases_eq (other / 8) (place / 8)) [
      | inl one ↦
          let new = get_or-set_at bytes (place / 8) (other / 8) (byte_with bytes place) 0 one inside in
          elim (cases_eq (other % 8) (place % 8)) [
            | inl same ↦ rw (new, same, bit_at_set_same w8 byte (place % 8) fits, eq-eqb other place (omega (arith, one, same))) refl
            | inr differs ↦ rw (new, bit_at_set_other w8 byte (place % 8) fits (other % 8) differs, ne_eqb other place (λ same. differs (ap (λ (n : ℕ). n % 8) same)), one) refl
          ]
      | inr elsewhere ↦ rw (get_or-set_other bytes (place / 8) (other / 8) (byte_with bytes place) 0 elsewhere, ne_eqb other place (λ same. elsewhere (ap (λ (n : ℕ). n / 8) same))) refl
    ]

pub blank_at : (n place : ℕ) → is_marked (replicate n 0) place ≡ false
blank_at n place = ap (λ (byte : ℕ). nat_eq byte 1) (ap (λ (byte : ℕ). bit_at byte (place % 8)) (get_of_same n (place / 8) 0) ∙ bit_at-zero (place % 8))

-- if a byte has no bit set, none of its places is marked
pub none_in_byte : (bytes : List ℕ) (place other : ℕ) → get_or bytes (place / 8) 0 ≡ 0 → other / 8 ≡ place / 8 → is_marked bytes other ≡ true → ⊥
none_in_byte bytes place other none same marked = let wrong = rw (same, none, bit_at-zero (other % 8)) at marked in cc
