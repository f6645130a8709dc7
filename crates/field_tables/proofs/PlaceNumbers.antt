-- The number in bits of one byte, and in a 16-bit value, as code computes it.
use Rattle.std.proofs.Common.{◌≡◌, ℕ, zero, suc, ◌+◌, ◌*◌, ◌/◌, ◌%◌, ◌^◌, ◌<◌, [], ◌∷◌, length, sym, ap, ◌∙◌, arith, add-one, ◌≤◌, add_comm, add-zero, zero-add, add-suc, mul-one, one-mul, zero-mul}
use Rattle.std.proofs.Math.Nat.{div-div-eq-div-mul, pow-suc, mod-eq_of_lt, mod-one, div-one, suc-add, two-pow-succ, mul-le-mul_right}
use Rattle.std.proofs.lemmas.Nat.Bits.{bit_at-lt}
use Rattle.std.proofs.lemmas.Nat.{mod-pow-add}
use Rattle.std.proofs.lemmas.List.Sums.{sum_by-cons, sum_by-append}
use Rattle.std.specs.Int.{bit_at}
use Rattle.std.specs.List.{sum_by, enumerate_from}
use Rattle.field_tables.specs.Layouts.{Place, bits_up, word}
use Rattle.field_tables.specs.Numbers.{bit_in, number_in}

-- what a bit counts that is the k-th
weight : (ℕ → ℕ) → ℕ × (ℕ × ℕ) → ℕ
weight byte_at p = bit_in byte_at p.1 * 2 ^ p.0

-- the sum where k counts from another number
number_from : ℕ → (ℕ → ℕ) → Place → ℕ
number_from k byte_at place = sum_by (weight byte_at) (enumerate_from k place)

number_from-cons : (k : ℕ) (byte_at : ℕ → ℕ) (bit : ℕ × ℕ) (place : Place) →
    number_from k byte_at (bit ∷ place) ≡ bit_in byte_at bit * 2 ^ k + number_from (suc k) byte_at place
unfolding number_from weight
number_from-cons k byte_at bit place =
    sum_by-cons (weight byte_at) (k, bit) (enumerate_from (k + 1) place)
    ∙ ap (λ (n : ℕ). bit_in byte_at bit * 2 ^ k + sum_by (weight byte_at) (enumerate_from n place)) (add-one k)

-- the lowest bit apart
lowest_apart : (n k : ℕ) → n % 2 ^ suc k ≡ (n / 2 % 2 ^ k) * 2 + n % 2
lowest_apart n k = ap (λ (m : ℕ). n % 2 ^ m) (sym (add-one k)) ∙ mod-pow-add n k 1

halved : (x low : ℕ) → x / 2 ^ low / 2 ≡ x / 2 ^ suc low
halved x low = div-div-eq-div-mul x (2 ^ low) 2 ∙ ap (λ (d : ℕ). x / d) (sym (pow-suc 2 low))

joined : (b q p : ℕ) → b * p + q * (p * 2) ≡ (q * 2 + b) * p
joined b q p = grind arith

bits_up-from : (byte_at : ℕ → ℕ) (byte low count k : ℕ) →
    number_from k byte_at (bits_up byte low count) ≡ (byte_at byte / 2 ^ low % 2 ^ count) * 2 ^ k
unfolding number_from
bits_up-from byte_at byte low zero k = sym (ap (λ (n : ℕ). n * 2 ^ k) (mod-one (byte_at byte / 2 ^ low)) ∙ zero-mul (2 ^ k))
bits_up-from byte_at byte low (suc count) k =
    let x : ℕ = byte_at byte in
    number_from-cons k byte_at (byte, low) (bits_up byte (suc low) count)
    ∙ ap (λ (later : ℕ). bit_at x low * 2 ^ k + later) (bits_up-from byte_at byte (suc low) count (suc k))
    ∙ ap (λ (p : ℕ). bit_at x low * 2 ^ k + (x / 2 ^ suc low % 2 ^ count) * p) (pow-suc 2 k)
    ∙ joined (bit_at x low) (x / 2 ^ suc low % 2 ^ count) (2 ^ k)
    ∙ ap (λ (q : ℕ). (q % 2 ^ count * 2 + bit_at x low) * 2 ^ k) (sym (halved x low))
    ∙ ap (λ (n : ℕ). n * 2 ^ k) (sym (lowest_apart (x / 2 ^ low) count))

pub number-bits_up : (byte_at : ℕ → ℕ) (byte low count : ℕ) →
    number_in byte_at (bits_up byte low count) ≡ byte_at byte / 2 ^ low % 2 ^ count
unfolding number_in number_from weight
number-bits_up byte_at byte low count = bits_up-from byte_at byte low count 0 ∙ mul-one (byte_at byte / 2 ^ low % 2 ^ count)

whole : (x p : ℕ) → x < 256 → (x / 1 % 256) * p ≡ x * p
whole x p fits = ap (λ (n : ℕ). n % 256 * p) (div-one x) ∙ ap (λ (n : ℕ). n * p) (mod-eq_of_lt fits)

pub number-word : (byte_at : ℕ → ℕ) (byte : ℕ) → byte_at byte < 256 → byte_at (suc byte) < 256 →
    number_in byte_at (word byte) ≡ byte_at byte * 256 + byte_at (suc byte)
unfolding number_in number_from weight
number-word byte_at byte high_fits low_fits =
    let low : number_from 0 byte_at (bits_up (suc byte) 0 8) ≡ byte_at (suc byte) = bits_up-from byte_at (suc byte) 0 8 0 ∙ whole (byte_at (suc byte)) 1 low_fits ∙ mul-one (byte_at (suc byte)) in
    let high : number_from 8 byte_at (bits_up byte 0 8) ≡ byte_at byte * 256 = bits_up-from byte_at byte 0 8 8 ∙ whole (byte_at byte) 256 high_fits in
    sum_by-append (weight byte_at) (enumerate_from 0 (bits_up (suc byte) 0 8)) (enumerate_from 8 (bits_up byte 0 8))
    ∙ ap (λ (n : ℕ). n + number_from 8 byte_at (bits_up byte 0 8)) low
    ∙ ap (λ (n : ℕ). byte_at (suc byte) + n) high
    ∙ add_comm (byte_at (suc byte)) (byte_at byte * 256)

up_to_one : (b p : ℕ) → b < 2 → b * p ≤ p
up_to_one b p below = let bound : b * p ≤ 1 * p = mul-le-mul_right p (omega arith) in omega (arith, bound, one-mul p)

from-bound : (byte_at : ℕ → ℕ) (place : Place) (k : ℕ) → number_from k byte_at place + 2 ^ k ≤ 2 ^ (k + length place)
unfolding number_from
from-bound byte_at [] k = omega (arith, ap (λ (n : ℕ). 2 ^ n) (add-zero k))
from-bound byte_at (bit ∷ place) k =
    let rest = from-bound byte_at place (suc k) in
    let one : bit_in byte_at bit * 2 ^ k ≤ 2 ^ k = up_to_one (bit_in byte_at bit) (2 ^ k) (bit_at-lt (byte_at bit.0) bit.1) in
    omega (arith, rest, one, number_from-cons k byte_at bit place, two-pow-succ k, ap (λ (n : ℕ). 2 ^ n) (add-suc k (length place)), ap (λ (n : ℕ). 2 ^ n) (suc-add k (length place)))

-- a number is below the power of its number of bits
pub number-bound : (byte_at : ℕ → ℕ) (place : Place) → number_in byte_at place < 2 ^ length place
unfolding number_in number_from weight
number-bound byte_at place =
    let bound : number_from 0 byte_at place + 1 ≤ 2 ^ (0 + length place) = from-bound byte_at place 0 in
    omega (arith, bound, ap (λ (n : ℕ). 2 ^ n) (zero-add (length place)))
