-- Two memories whose halves agree but for the page selection, bytes 126 and 127 of the lower half of A0, have the same values of
-- fields, texts and sums. No row but those of the selection covers these bytes, by a computed test of all rows.
use Rattle.std.proofs.Common.{◌≡◌, ℕ, zero, suc, ◌+◌, ◌-◌, ◌*◌, ◌%◌, ◌^◌, ◌<◌, ◌≤◌, Bool, true, false, ◌&&◌, ◌||◌, ◌==◌, List, [], ◌∷◌, drop, map, take, Option, Some, None, refl, sym, ap, ◌∙◌, nat_lt, nat_le, arith}
use Rattle.std.proofs.lemmas.Bool.{and_parts}
use Rattle.std.proofs.lemmas.Bool.Decides.{nat_tests}
use Rattle.std.proofs.lemmas.List.{drop-take, get_or-take, take-take}
use Rattle.std.proofs.lemmas.List.Sums.{sum_by-cons}
use Rattle.std.specs.Prelude.{ℤ, is_some, not, option_map, pos, slice_range, sum, unsigned_abs, unwrap_or}
use Rattle.std.specs.FinMap as map
use Rattle.std.specs.Int.{bit_at}
use Rattle.std.specs.List.{enumerate_from, list_all, range_with_len, sum_by}
use Rattle.bus_model.specs.declared.device.Dev.{Dev}
use Rattle.paged_memory.specs.declared.key.Half.{Half}
use Rattle.paged_memory.specs.declared.key.Half.TheVariants.{Lower, Upper}
use Rattle.paged_memory.specs.declared.key.Key.{Key}
use Rattle.paged_memory.specs.Images.{Memory, place_in_half}
use Rattle.paged_memory.proofs.WindowReads.{before_selection}
use Rattle.field_tables.specs.declared.field.Field.{Field}
use Rattle.field_tables.specs.declared.field.Field.TheVariants.{Cmis, Sff8636}
use Rattle.field_tables.specs.declared.field.Sum.{Sum}
use Rattle.field_tables.specs.declared.field.TextField.{TextField}
use Rattle.field_tables.specs.declared.readings.PerLimit.{PerLimit}
use Rattle.field_tables.specs.declared.spans.Span.{Span}
use Rattle.field_tables.specs.declared.table.cmis.CmisField.TheVariants as cmis
use Rattle.field_tables.specs.declared.table.sff8636.Sff8636Field.TheVariants as sff8636
use Rattle.field_tables.specs.FieldRows.{row_of}
use Rattle.field_tables.specs.FieldValues.{field_key, value_in}
use Rattle.field_tables.specs.Halves.{byte_in, is_absent}
use Rattle.field_tables.specs.Layouts.{Place}
use Rattle.field_tables.specs.Numbers.{bit_in, number_in, signed_by}
use Rattle.field_tables.specs.Readings.{all_bits, all_numbers, all_readings, bit, bit_at as bit_of, is_sum_right, limit_bits, limits_of, number, number_at, reading, reading_at, text}
use Rattle.field_tables.specs.RowPlaces.{place_of}
use Rattle.field_tables.specs.Spans.{bytes_in}
use Rattle.field_tables.specs.Sums.{sum_key, sum_matches, sum_row}
use Rattle.field_tables.specs.Texts.{text_key, text_span}
use Rattle.field_tables.proofs.EveryField.{fields, texts, sums, every_field, every_text, every_sum}
use Rattle.field_tables.proofs.TrueTests.{in_range}

-- how many bytes of a half are before the selection
abbrev plain_of : Dev → Half → ℕ
plain_of dev Lower = before_selection dev
plain_of dev Upper = 128

abbrev pub plain : Key → ℕ
plain key = plain_of key.dev key.half

-- both memories have the half with these bytes, or neither has it
abbrev pub Agree : Memory → Memory → Key → Type 0
Agree a b key = option_map (take (plain key)) (map.get a key) ≡ option_map (take (plain key)) (map.get b key)

-- ---- what is read of bytes that agree

same_byte : (xs ys : List ℕ) (n : ℕ) → take n xs ≡ take n ys → (address : ℕ) → place_in_half address < n → byte_in xs address ≡ byte_in ys address
same_byte xs ys n same address below =
    let place = place_in_half address in
    sym (get_or-take n xs place 0 below) ∙ ap (λ (bytes : List ℕ). byte_in bytes address) same ∙ get_or-take n ys place 0 below

-- the bit is one of the first bytes
abbrev is_within : ℕ → ℕ × ℕ → Bool
is_within n bit = nat_lt (place_in_half bit.0) n

within : (n : ℕ) (bit : ℕ × ℕ) → is_within n bit ≡ true → place_in_half bit.0 < n
within n bit e = grind (arith, nat_tests)

same_sum : (f g : ℕ → ℕ) (n : ℕ) → ((address : ℕ) → place_in_half address < n → f address ≡ g address) → (place : Place) (k : ℕ) → list_all (is_within n) place ≡ true →
    sum_by (λ (p : ℕ × (ℕ × ℕ)). bit_in f p.1 * 2 ^ p.0) (enumerate_from k place) ≡ sum_by (λ (p : ℕ × (ℕ × ℕ)). bit_in g p.1 * 2 ^ p.0) (enumerate_from k place)
same_sum f g n same [] k all = refl
same_sum f g n same (bit ∷ place) k all =
    let parts = and_parts (is_within n bit) (list_all (is_within n) place) all in
    let here = same bit.0 (within n bit parts.0) in
    let later = same_sum f g n same place (k + 1) parts.1 in
    sum_by-cons (λ (p : ℕ × (ℕ × ℕ)). bit_in f p.1 * 2 ^ p.0) (k, bit) (enumerate_from (k + 1) place)
    ∙ (λ i. bit_at (here i) bit.1 * 2 ^ k + later i)
    ∙ sym (sum_by-cons (λ (p : ℕ × (ℕ × ℕ)). bit_in g p.1 * 2 ^ p.0) (k, bit) (enumerate_from (k + 1) place))

same_number_in : (xs ys : List ℕ) (n : ℕ) → take n xs ≡ take n ys → (place : Place) → list_all (is_within n) place ≡ true → number_in (byte_in xs) place ≡ number_in (byte_in ys) place
unfolding number_in
same_number_in xs ys n same place all = same_sum (byte_in xs) (byte_in ys) n (same_byte xs ys n same) place 0 all

same_value : (xs ys : List ℕ) (n : ℕ) (field : Field) (i : ℕ) → take n xs ≡ take n ys → list_all (is_within n) (place_of (row_of field) i) ≡ true → value_in xs field i ≡ value_in ys field i
unfolding value_in
same_value xs ys n field i same all = ap (signed_by (row_of field).sign) (same_number_in xs ys n same (place_of (row_of field) i) all)

same_range : (xs ys : List ℕ) (n a b : ℕ) → take n xs ≡ take n ys → a ≤ n → b ≤ n → slice_range xs a b ≡ slice_range ys a b
same_range xs ys n a b same from to =
    let count : n ≡ a + (n - a) = omega (arith, from) in
    let fewer : b - a ≤ n - a = omega (arith, from, to) in
    let of : (zs : List ℕ) → take (b - a) (drop a (take n zs)) ≡ take (b - a) (drop a zs) =
    λ zs. ap (λ (k : ℕ). take (b - a) (drop a (take k zs))) count ∙ ap (take (b - a)) (drop-take a (n - a) zs) ∙ take-take (b - a) (n - a) (drop a zs) fewer in
    sym (of xs) ∙ ap (λ (zs : List ℕ). take (b - a) (drop a zs)) same ∙ of ys

-- the span's bytes are among the first
abbrev span_within : ℕ → Span → Bool
span_within n s = nat_le (place_in_half s.first) n && nat_le (place_in_half s.last + 1) n

same_span : (xs ys : List ℕ) (n : ℕ) (s : Span) → take n xs ≡ take n ys → span_within n s ≡ true → bytes_in xs s ≡ bytes_in ys s
same_span xs ys n s same all =
    let parts = and_parts (nat_le (place_in_half s.first) n) (nat_le (place_in_half s.last + 1) n) all in
    let from : place_in_half s.first ≤ n = grind (arith, nat_tests) in
    let to : place_in_half s.last + 1 ≤ n = grind (arith, nat_tests) in
    same_range xs ys n (place_in_half s.first) (place_in_half s.last + 1) same from to

same_of : {A : Type 0} (n : ℕ) (f : List ℕ → A) → ((xs ys : List ℕ) → take n xs ≡ take n ys → f xs ≡ f ys) → (x y : Option (List ℕ)) → option_map (take n) x ≡ option_map (take n) y → option_map f x ≡ option_map f y
same_of n f so None None e = refl
same_of n f so (Some xs) (Some ys) e = let same : take n xs ≡ take n ys = cc in ap (λ v. Some v) (so xs ys same)
same_of n f so None (Some ys) e = absurd cc
same_of n f so (Some xs) None e = absurd cc

-- ---- no row but those of the selection covers it

abbrev pub is_selection : Field → Bool
is_selection (Cmis cmis.BankSelect) = true
is_selection (Cmis cmis.PageSelect) = true
is_selection (Sff8636 sff8636.PageSelect) = true
is_selection _ = false

abbrev value_plain : Field → ℕ → Bool
value_plain field i = list_all (is_within (plain (field_key field))) (place_of (row_of field) i)

abbrev field_plain : Field → Bool
field_plain field = list_all (value_plain field) (range_with_len 1 (row_of field).count)

fields_plain : list_all (λ field. is_selection field || field_plain field) fields ≡ true
fields_plain = refl

abbrev text_plain : TextField → Bool
text_plain field = span_within (plain (text_key field)) (text_span field)

texts_plain : list_all text_plain texts ≡ true
texts_plain = refl

abbrev sum_plain : Sum → Bool
sum_plain s = span_within (plain (sum_key s)) (sum_row s).0 && nat_lt (place_in_half (sum_row s).1) (plain (sum_key s))

sums_plain : list_all sum_plain sums ≡ true
sums_plain = refl

other_plain : (b c : Bool) → (b || c) ≡ true → b ≡ false → c ≡ true
other_plain true c e is = cc
other_plain false c e is = e

is_plain : (field : Field) (i : ℕ) → is_selection field ≡ false → 1 ≤ i → i ≤ (row_of field).count → value_plain field i ≡ true
is_plain field i other first last =
    let all = other_plain (is_selection field) (field_plain field) (every_field (λ f. is_selection f || field_plain f) fields_plain field) other in
    in_range (value_plain field) 1 (row_of field).count i all first (omega (arith, last))

-- ---- what is read of memories that agree

module _ (a b : Memory) where
  pub same_reading_at : (field : Field) (i : ℕ) → Agree a b (field_key field) → is_selection field ≡ false → 1 ≤ i → i ≤ (row_of field).count → reading_at a field i ≡ reading_at b field i
  unfolding reading_at
  same_reading_at field i agree other first last =
      ap (λ (value : Option ℤ). unwrap_or value (pos 0))
      (same_of (plain (field_key field)) (λ (bytes : List ℕ). value_in bytes field i)
      (λ xs ys same. same_value xs ys (plain (field_key field)) field i same (is_plain field i other first last)) (map.get a (field_key field)) (map.get b (field_key field)) agree)

  -- value i, where a test tells that the field has so many
  pub same_at : (field : Field) (i : ℕ) → Agree a b (field_key field) → is_selection field ≡ false → (nat_le 1 i && nat_le i (row_of field).count) ≡ true → reading_at a field i ≡ reading_at b field i
  same_at field i agree other counted =
      let parts = and_parts (nat_le 1 i) (nat_le i (row_of field).count) counted in
      same_reading_at field i agree other (grind (arith, nat_tests)) (grind (arith, nat_tests))

  same_each : {A : Type 0} (of : ℤ → A) (field : Field) → Agree a b (field_key field) → is_selection field ≡ false → (first count : ℕ) → 1 ≤ first → first + count ≤ (row_of field).count + 1 →
      map (λ i. of (reading_at a field i)) (range_with_len first count) ≡ map (λ i. of (reading_at b field i)) (range_with_len first count)
  same_each of field agree other first zero from to = refl
  same_each of field agree other first (suc count) from to =
      let here = same_reading_at field first agree other from (omega (arith, to)) in
      let later = same_each of field agree other (first + 1) count (omega (arith, from)) (omega (arith, to)) in
      λ i. of (here i) ∷ later i

  pub same_readings : (field : Field) → Agree a b (field_key field) → is_selection field ≡ false → all_readings a field ≡ all_readings b field
  same_readings field agree other = same_each (λ z. z) field agree other 1 (row_of field).count (omega arith) (omega arith)

  pub same_numbers : (field : Field) → Agree a b (field_key field) → is_selection field ≡ false → all_numbers a field ≡ all_numbers b field
  same_numbers field agree other = same_each unsigned_abs field agree other 1 (row_of field).count (omega arith) (omega arith)

  pub same_bits : (field : Field) → Agree a b (field_key field) → is_selection field ≡ false → all_bits a field ≡ all_bits b field
  same_bits field agree other = same_each (λ z. unsigned_abs z == 1) field agree other 1 (row_of field).count (omega arith) (omega arith)

  -- of a field of one value or more
  pub same_number : (field : Field) → Agree a b (field_key field) → is_selection field ≡ false → nat_le 1 (row_of field).count ≡ true → number a field ≡ number b field
  same_number field agree other counted = ap unsigned_abs (same_at field 1 agree other counted)

  pub same_number_at : (field : Field) (i : ℕ) → Agree a b (field_key field) → is_selection field ≡ false → (nat_le 1 i && nat_le i (row_of field).count) ≡ true → number_at a field i ≡ number_at b field i
  same_number_at field i agree other counted = ap unsigned_abs (same_at field i agree other counted)

  pub same_bit_at : (field : Field) (i : ℕ) → Agree a b (field_key field) → is_selection field ≡ false → (nat_le 1 i && nat_le i (row_of field).count) ≡ true → bit_of a field i ≡ bit_of b field i
  same_bit_at field i agree other counted = ap (λ (n : ℕ). n == 1) (same_number_at field i agree other counted)

  pub same_reading : (field : Field) → Agree a b (field_key field) → is_selection field ≡ false → nat_le 1 (row_of field).count ≡ true → reading a field ≡ reading b field
  same_reading field agree other counted = same_at field 1 agree other counted

  -- of a field of four
  pub same_limits : (field : Field) → Agree a b (field_key field) → is_selection field ≡ false → nat_le 4 (row_of field).count ≡ true → limits_of a field ≡ limits_of b field
  same_limits field agree other counted =
      let four : 4 ≤ (row_of field).count = grind (arith, nat_tests) in
      let value = λ (i : ℕ) (first : 1 ≤ i) (last : i ≤ 4). same_reading_at field i agree other first (omega (arith, last, four)) in
      let one = value 1 (omega arith) (omega arith) in
      let two = value 2 (omega arith) (omega arith) in
      let three = value 3 (omega arith) (omega arith) in
      let last = value 4 (omega arith) (omega arith) in
      λ i. record { high_alarm = one i; low_alarm = two i; high_warning = three i; low_warning = last i }

  pub same_limit_bits : (field : Field) → Agree a b (field_key field) → is_selection field ≡ false → nat_le 4 (row_of field).count ≡ true → limit_bits a field ≡ limit_bits b field
  same_limit_bits field agree other counted =
      ap (λ (levels : PerLimit ℤ). record {
        high_alarm = unsigned_abs levels.high_alarm == 1;
        low_alarm = unsigned_abs levels.low_alarm == 1;
        high_warning = unsigned_abs levels.high_warning == 1;
        low_warning = unsigned_abs levels.low_warning == 1;
      }) (same_limits field agree other counted)

  pub same_text : (field : TextField) → Agree a b (text_key field) → text a field ≡ text b field
  same_text field agree =
      ap (λ (bytes : Option (List ℕ)). unwrap_or bytes [])
      (same_of (plain (text_key field)) (λ (bytes : List ℕ). bytes_in bytes (text_span field))
      (λ xs ys same. same_span xs ys (plain (text_key field)) (text_span field) same (every_text text_plain texts_plain field)) (map.get a (text_key field)) (map.get b (text_key field)) agree)

  same_right : (s : Sum) (xs ys : List ℕ) → take (plain (sum_key s)) xs ≡ take (plain (sum_key s)) ys → sum_matches xs (sum_row s) ≡ sum_matches ys (sum_row s)
  same_right s xs ys same =
      let n = plain (sum_key s) in
      let parts = and_parts (span_within n (sum_row s).0) (nat_lt (place_in_half (sum_row s).1) n) (every_sum sum_plain sums_plain s) in
      let summed = same_span xs ys n (sum_row s).0 same parts.0 in
      let byte = same_byte xs ys n same (sum_row s).1 (grind (arith, nat_tests)) in
      λ i. sum (summed i) % 256 == byte i

  pub same_sum_right : (s : Sum) → Agree a b (sum_key s) → is_sum_right a s ≡ is_sum_right b s
  same_sum_right s agree =
      ap (λ (right : Option Bool). unwrap_or right false)
      (same_of (plain (sum_key s)) (λ (bytes : List ℕ). sum_matches bytes (sum_row s)) (same_right s) (map.get a (sum_key s)) (map.get b (sum_key s)) agree)

  has_some : (n : ℕ) (half : Option (List ℕ)) → is_some (option_map (take n) half) ≡ is_some half
  has_some n None = refl
  has_some n (Some bytes) = refl

  pub same_absent : (key : Key) → Agree a b key → is_absent a key ≡ is_absent b key
  same_absent key agree =
      let has = sym (has_some (plain key) (map.get a key)) ∙ ap (λ (half : Option (List ℕ)). is_some half) agree ∙ has_some (plain key) (map.get b key) in
      ap not has
