-- The code of a lane, as it is computed from its byte; and the list of codes, from each of them.
use Rattle.std.proofs.Common.{◌≡◌, ℕ, ◌+◌, ◌-◌, ◌/◌, ◌%◌, ◌^◌, ◌<◌, List, length, get_or, slice_index, sym, ap, ◌∙◌, arith}
use Rattle.std.proofs.Math.Nat.{div-one, mod-eq_of_lt}
use Rattle.std.proofs.lemmas.Bool.Decides.{nat_tests}
use Rattle.std.proofs.lemmas.List.{ext_get_or}
use Rattle.std.proofs.lemmas.List.FromFn.{get_or-map-range_with_len, length-map-range_with_len}
use Rattle.field_tables.specs.Layouts.{in_turn}
use Rattle.field_tables.proofs.PlaceNumbers.{number-bits_up}
use Rattle.datapath_states.specs.Lanes.{code_in, codes_in}

same_byte : (before : ℕ) → 0 + (before + 1 - 1) / 2 ≡ before / 2
same_byte before = omega arith

in_byte : (bytes : List ℕ) (before : ℕ) → code_in bytes (before + 1) ≡ slice_index bytes (before / 2) / 2 ^ in_turn (before + 1) 0 4 % 16
unfolding code_in
in_byte bytes before =
    number-bits_up (slice_index bytes) (0 + (before + 1 - 1) / 2) (in_turn (before + 1) 0 4) 4
    ∙ ap (λ (n : ℕ). slice_index bytes n / 2 ^ in_turn (before + 1) 0 4 % 16) (same_byte before)

turn_of_odd : (before : ℕ) → before % 2 ≡ 0 → in_turn (before + 1) 0 4 ≡ 0
turn_of_odd before even = grind (arith, nat_tests)

turn_of_even : (before : ℕ) → before % 2 ≡ 1 → in_turn (before + 1) 0 4 ≡ 4
turn_of_even before odd = grind (arith, nat_tests)

-- a lane with an even number of lanes before it is in the lower half
pub lower_half : (bytes : List ℕ) (before : ℕ) → before % 2 ≡ 0 → code_in bytes (before + 1) ≡ slice_index bytes (before / 2) % 16
lower_half bytes before even =
    in_byte bytes before
    ∙ ap (λ (turn : ℕ). slice_index bytes (before / 2) / 2 ^ turn % 16) (turn_of_odd before even)
    ∙ ap (λ (n : ℕ). n % 16) (div-one (slice_index bytes (before / 2)))

-- the others are in the upper half
pub upper_half : (bytes : List ℕ) (before : ℕ) → before % 2 ≡ 1 → slice_index bytes (before / 2) < 256 → code_in bytes (before + 1) ≡ slice_index bytes (before / 2) / 16
upper_half bytes before odd byte =
    in_byte bytes before
    ∙ ap (λ (turn : ℕ). slice_index bytes (before / 2) / 2 ^ turn % 16) (turn_of_even before odd)
    ∙ mod-eq_of_lt (omega (arith, byte))

-- the codes of all lanes
pub all_lanes : (bytes : List ℕ) (count : ℕ) (codes : List ℕ) → length codes ≡ count →
    ((k : ℕ) → k < count → get_or codes k 0 ≡ code_in bytes (k + 1)) → codes ≡ codes_in bytes count
all_lanes bytes count codes len each =
    ext_get_or 0 codes (codes_in bytes count) (len ∙ sym (length-map-range_with_len (code_in bytes) 1 count))
    (λ i below. each i (omega (arith, len)) ∙ sym (get_or-map-range_with_len (code_in bytes) 1 count i (i + 1) 0 (omega (arith, len)) (omega arith)))
