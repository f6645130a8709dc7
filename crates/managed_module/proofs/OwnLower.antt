-- The lower half of a module's memory reads as what the module has there, but for the bytes that it shows of itself. So it is with each
-- field that stands in none of these.
use Rattle.std.proofs.Common.{◌≡◌, ℕ, ◌+◌, ◌-◌, ◌*◌, ◌^◌, ◌<◌, ◌==◌, ◌&&◌, nat_lt, not, Bool, true, false, List, [], ◌∷◌, map, Option, Some, refl, sym, ap, ◌∙◌, if◌then◌else◌, arith}
use Rattle.std.specs.Prelude.{option_map, pos, slice_index, unsigned_abs, unwrap_or}
use Rattle.std.specs.FinMap as finmap
use Rattle.std.specs.Int.{bit_at}
use Rattle.std.specs.List.{enumerate_from, list_all, range_with_len, sum_by}
use Rattle.std.proofs.lemmas.Bool.{and_parts, not-true}
use Rattle.std.proofs.lemmas.Bool.Decides.{nat_tests}
use Rattle.std.proofs.lemmas.List.FromFn.{get_or-map-range_with_len}
use Rattle.std.proofs.lemmas.List.Sums.{sum_by-cons}
use Rattle.bus_model.specs.declared.device.Dev.TheVariants.{A0}
use Rattle.field_tables.specs.declared.field.Field.{Field}
use Rattle.field_tables.specs.FieldRows.{row_of}
use Rattle.field_tables.specs.FieldValues.{field_key, value_in}
use Rattle.field_tables.specs.Halves.{byte_in}
use Rattle.field_tables.specs.Layouts.{Place}
use Rattle.field_tables.specs.Numbers.{bit_in, number_in, signed_by}
use Rattle.field_tables.specs.Readings.{number_at, reading_at}
use Rattle.field_tables.specs.RowPlaces.{place_of}
use Rattle.paged_memory.specs.Images.{Memory, place_in_half}
use Rattle.paged_memory.specs.Keys.{lower_key}
use Rattle.control_sets.specs.OutcomeOperations.{control_page, status_page}
use Rattle.sim_module.specs.declared.module.SimModule.{SimModule}
use Rattle.sim_module.specs.ShownBytes.{configuration_bytes, control_byte, first_shown, is_mapped, lower_bytes, shown_byte, state_byte, status_bytes}

-- ---- bytes

-- an address of the lower half that shows the byte of the image: not the state, flags, controls or the selection
abbrev pub is_plain : ℕ → Bool
is_plain address = nat_lt address 128 && (not (address == 3) && (not (address == 9) && (not (address == 26) && (not (address == 126) && not (address == 127)))))

none_shown : (a b c d e : Bool) (v w x y z byte : ℕ) → a ≡ false → b ≡ false → c ≡ false → d ≡ false → e ≡ false → first_shown ((a, v) ∷ (b, w) ∷ (c, x) ∷ (d, y) ∷ (e, z) ∷ []) byte ≡ byte
none_shown a b c d e v w x y z byte f g h k l = (λ i. first_shown ((f i, v) ∷ (g i, w) ∷ (h i, x) ∷ (k i, y) ∷ (l i, z) ∷ []) byte)

abbrev shown_if : SimModule → List ℕ → ℕ → Bool → ℕ
shown_if sim page address low =
    let byte = slice_index page (if low then address else address - 128) in
    first_shown (if low then lower_bytes sim byte address else if is_mapped sim control_page then configuration_bytes sim address else if is_mapped sim status_page then status_bytes sim address else []) byte

shown_plain : (sim : SimModule) (page : List ℕ) (address : ℕ) → is_plain address ≡ true → shown_byte sim page address ≡ slice_index page address
unfolding shown_byte
shown_plain sim page address plain =
    let low = and_parts (nat_lt address 128) _ plain in
    let state = and_parts (not (address == 3)) _ low.1 in
    let flags = and_parts (not (address == 9)) _ state.1 in
    let controls = and_parts (not (address == 26)) _ flags.1 in
    let bank = and_parts (not (address == 126)) (not (address == 127)) controls.1 in
    ap (shown_if sim page address) low.0
    ∙ none_shown (address == 3) (address == 9) (address == 26) (address == 126) (address == 127)
    (state_byte sim (slice_index page address)) sim.module_flags (control_byte sim) sim.selection.bank sim.selection.page (slice_index page address)
    (not-true (address == 3) state.0) (not-true (address == 9) flags.0) (not-true (address == 26) controls.0) (not-true (address == 126) bank.0) (not-true (address == 127) bank.1)

pub read_byte : (sim : SimModule) (page : List ℕ) (address : ℕ) → is_plain address ≡ true → byte_in (map (shown_byte sim page) (range_with_len 0 128)) address ≡ byte_in page address
read_byte sim page address plain =
    let low = (and_parts (nat_lt address 128) _ plain).0 in
    let below : address < 128 = grind (arith, nat_tests) in
    let place : place_in_half address ≡ address = ap (λ (b : Bool). if b then address else address - 128) low in
    let all = map (shown_byte sim page) (range_with_len 0 128) in
    ap (slice_index all) place ∙ get_or-map-range_with_len (shown_byte sim page) 0 128 address address 0 below (omega arith) ∙ shown_plain sim page address plain ∙ sym (ap (slice_index page) place)

-- ---- values

abbrev pub all_plain : (ℕ → Bool) → Place → Bool
all_plain test place = list_all (λ (bit : ℕ × ℕ). test bit.0) place

module _ (f g : ℕ → ℕ) (test : ℕ → Bool) (same : (address : ℕ) → test address ≡ true → f address ≡ g address) where
  same_sum : (place : Place) (k : ℕ) → all_plain test place ≡ true
      → sum_by (λ (p : ℕ × (ℕ × ℕ)). bit_in f p.1 * 2 ^ p.0) (enumerate_from k place) ≡ sum_by (λ (p : ℕ × (ℕ × ℕ)). bit_in g p.1 * 2 ^ p.0) (enumerate_from k place)
  same_sum [] k all = refl
  same_sum (bit ∷ place) k all =
      let parts = and_parts (test bit.0) (all_plain test place) all in
      let here = same bit.0 parts.0 in
      let later = same_sum place (k + 1) parts.1 in
      sum_by-cons (λ (p : ℕ × (ℕ × ℕ)). bit_in f p.1 * 2 ^ p.0) (k, bit) (enumerate_from (k + 1) place)
      ∙ (λ i. bit_at (here i) bit.1 * 2 ^ k + later i)
      ∙ sym (sum_by-cons (λ (p : ℕ × (ℕ × ℕ)). bit_in g p.1 * 2 ^ p.0) (k, bit) (enumerate_from (k + 1) place))

  same_number_in : (place : Place) → all_plain test place ≡ true → number_in f place ≡ number_in g place
  unfolding number_in
  same_number_in place all = same_sum place 0 all

abbrev pub plain_in : Field → ℕ → Bool
plain_in field i = all_plain is_plain (place_of (row_of field) i)

same_value : (xs ys : List ℕ) (field : Field) (i : ℕ) → ((address : ℕ) → is_plain address ≡ true → byte_in xs address ≡ byte_in ys address) → plain_in field i ≡ true → value_in xs field i ≡ value_in ys field i
unfolding value_in
same_value xs ys field i same plain = ap (signed_by (row_of field).sign) (same_number_in (byte_in xs) (byte_in ys) is_plain same (place_of (row_of field) i) plain)

-- ---- memories

-- the image has a lower half that was read of the module
pub record HasLower (image own : Memory) : Type 0 where
  pub bytes : List ℕ
  pub page : List ℕ
  pub read : finmap.get image (lower_key A0) ≡ Some bytes
  pub there : finmap.get own (lower_key A0) ≡ Some page
  pub same : (address : ℕ) → is_plain address ≡ true → byte_in bytes address ≡ byte_in page address

abbrev number_of : Field → ℕ → Option (List ℕ) → ℕ
number_of field i half = unsigned_abs (unwrap_or (option_map (λ bytes. value_in bytes field i) half) (pos 0))

-- what a field in a half has
pub number_is : (memory : Memory) (field : Field) (i : ℕ) (bytes : List ℕ) → finmap.get memory (field_key field) ≡ Some bytes → number_at memory field i ≡ unsigned_abs (value_in bytes field i)
unfolding reading_at
number_is memory field i bytes is = ap (number_of field i) is

pub same_half : (image own : Memory) (field : Field) (i : ℕ) → finmap.get image (field_key field) ≡ finmap.get own (field_key field) → number_at image field i ≡ number_at own field i
unfolding reading_at
same_half image own field i is = ap (number_of field i) is

pub lower_number : (image own : Memory) (field : Field) (i : ℕ) → HasLower image own → field_key field ≡ lower_key A0 → plain_in field i ≡ true → number_at image field i ≡ number_at own field i
lower_number image own field i half key plain =
    number_is image field i half.bytes (ap (finmap.get image) key ∙ half.read) ∙ ap unsigned_abs (same_value half.bytes half.page field i half.same plain)
    ∙ sym (number_is own field i half.page (ap (finmap.get own) key ∙ half.there))
