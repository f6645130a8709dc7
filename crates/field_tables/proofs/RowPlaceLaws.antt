-- What a row that fits says of the place of each of its values.
use Rattle.std.proofs.Common.{◌≡◌, ℕ, zero, suc, ◌+◌, ◌-◌, ◌<◌, ◌≤◌, ◌&&◌, true, [], ◌∷◌, sym, subst, ◌∙◌, arith}
use Rattle.std.proofs.lemmas.Bool.{and_parts, lt-ltb}
use Rattle.std.proofs.lemmas.Bool.Decides.{nat_tests}
use Rattle.std.proofs.lemmas.List.Folds.{list_all-append}
use Rattle.std.specs.Cmp.Derive.{both_true}
use Rattle.std.specs.List.{list_all, range_with_len}
use Rattle.paged_memory.specs.declared.key.Half.{Half}
use Rattle.paged_memory.specs.declared.key.Half.TheVariants.{Lower, Upper}
use Rattle.paged_memory.specs.Images.{place_in_half}
use Rattle.field_tables.specs.declared.layout.Layout.{Layout}
use Rattle.field_tables.specs.declared.layout.Part.{Part}
use Rattle.field_tables.specs.declared.layout.Part.TheVariants.{Byte, Word, Range}
use Rattle.field_tables.specs.declared.layout.Row.{Row}
use Rattle.field_tables.specs.RowPlaces.{place_by, place_of}
use Rattle.field_tables.specs.Layouts.{Place, bits_up}
use Rattle.field_tables.specs.Parts.{part_at}
use Rattle.field_tables.proofs.TrueTests.{in_range}
use Rattle.field_tables.specs.RowFits.{in_half, part_fits, part_inside, row_fits, steps_fit}

-- the place of each value of a row that is laid out so is in the row's half
pub place_fits : (row : Row) (layout : Layout) (i : ℕ) → row_fits row ≡ true → row.layout ≡ layout → 1 ≤ i → i ≤ row.count →
    list_all (in_half row.half) (place_by layout row.bits row.offset i) ≡ true
place_fits row layout i fits laid first last =
    let test = λ (k : ℕ). list_all (in_half row.half) (place_of row k) in
    let all = (and_parts (part_fits row.bits && steps_fit row.layout row.bits row.count) (list_all test (range_with_len 1 row.count)) fits).1 in
    subst (λ (l : Layout). list_all (in_half row.half) (place_by l row.bits row.offset i) ≡ true) laid (in_range test 1 row.count i all first (omega arith))

-- the bits of its values are in order
pub part_ordered : (row : Row) → row_fits row ≡ true → part_fits row.bits ≡ true
part_ordered row fits =
    let test = λ (k : ℕ). list_all (in_half row.half) (place_of row k) in
    (and_parts (part_fits row.bits) (steps_fit row.layout row.bits row.count) (and_parts (part_fits row.bits && steps_fit row.layout row.bits row.count) (list_all test (range_with_len 1 row.count)) fits).0).0

-- where a bit of a half is
pub bit_inside : (half : Half) (byte bit : ℕ) → in_half half (byte, bit) ≡ true → (place_in_half byte < 128) × (bit < 8)
bit_inside Lower byte bit e = (grind (arith, nat_tests), grind (arith, nat_tests))
bit_inside Upper byte bit e = (grind (arith, nat_tests), grind (arith, nat_tests))

two_inside : (half : Half) (byte : ℕ) → in_half half (suc byte, 0) ≡ true → in_half half (byte, 0) ≡ true → place_in_half byte + 1 < 128
two_inside Lower byte next this = grind (arith, nat_tests)
two_inside Upper byte next this = grind (arith, nat_tests)

first_of_all : (half : Half) (bit : ℕ × ℕ) (place : Place) → list_all (in_half half) (bit ∷ place) ≡ true → in_half half bit ≡ true
first_of_all half bit place all = (and_parts (in_half half bit) (list_all (in_half half) place) all).0

-- bits of one byte
pub bits_inside : (half : Half) (byte low more : ℕ) → list_all (in_half half) (bits_up byte low (suc more)) ≡ true → (place_in_half byte < 128) × (low + more < 8)
bits_inside half byte low zero all = let at = bit_inside half byte low (first_of_all half (byte, low) [] all) in (at.0, omega arith)
bits_inside half byte low (suc more) all =
    let parts = and_parts (in_half half (byte, low)) (list_all (in_half half) (bits_up byte (suc low) (suc more))) all in
    let later = bits_inside half byte (suc low) more parts.1 in
    (later.0, omega arith)

-- a part whose bits are in a half
pub inside_part : (half : Half) (part : Part) (byte : ℕ) → part_fits part ≡ true → list_all (in_half half) (part_at part byte) ≡ true → part_inside part byte ≡ true
inside_part half Byte byte fits all = let at = bits_inside half byte 0 7 all in lt-ltb (place_in_half byte) 128 at.0
inside_part half Word byte fits all =
    let parts = and_parts (list_all (in_half half) (bits_up (suc byte) 0 8)) (list_all (in_half half) (bits_up byte 0 8)) (sym (list_all-append (in_half half) (bits_up (suc byte) 0 8) (bits_up byte 0 8)) ∙ all) in
    let at = two_inside half byte (first_of_all half (suc byte, 0) (bits_up (suc byte) 1 7) parts.0) (first_of_all half (byte, 0) (bits_up byte 1 7) parts.1) in
    lt-ltb (place_in_half byte + 1) 128 at
inside_part half (Range high low) byte fits all =
    let ordered : low ≤ high = grind (arith, nat_tests) in
    let count : suc high - low ≡ suc (high - low) = omega arith in
    let at = bits_inside half byte low (high - low) (subst (λ (n : ℕ). list_all (in_half half) (bits_up byte low n) ≡ true) count all) in
    both_true (both_true (lt-ltb (place_in_half byte) 128 at.0) fits) (lt-ltb high 8 (omega arith))
