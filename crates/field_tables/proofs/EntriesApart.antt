-- No bit belongs to two values: a computed test of all entries, by the span of each value, and what it says.
use Rattle.std.proofs.Common.{◌≡◌, ℕ, zero, suc, ◌+◌, ◌*◌, ◌<◌, ◌≤◌, ◌==◌, ◌&&◌, ◌||◌, Bool, true, false, List, [], ◌∷◌, ◌++◌, Some, refl, sym, subst, ap, ◌∙◌, inl, inr, map, max, min, nat_lt, arith}
use Rattle.std.specs.Prelude.{Contains}
use Rattle.std.proofs.lemmas.Bool.{and_parts, eq-eqb, eqb-true, or_cases}
use Rattle.std.proofs.lemmas.Bool.Decides.{nat_tests}
use Rattle.std.proofs.lemmas.List.Folds.{list_all-map}
use Rattle.std.specs.List.{AllByRecursion, list_all, range_with_len, slice_get}
use denote.Enum.Declared.{tag_of}
use Rattle.paged_memory.specs.declared.family.Family.{Family}
use Rattle.paged_memory.specs.contracts.family.Family as family_enum
use Rattle.paged_memory.specs.declared.key.Key.{Key}
use Rattle.paged_memory.specs.KeyOrder.{device_rank, half_rank}
use Rattle.field_tables.specs.Layouts.{Place}
use Rattle.field_tables.specs.Entries.{Entry, of_field, of_text, of_sum, IsBitOf, NoBitTwice, WithinHalf, entry_count, entry_key, entry_place, entry_standard}
use Rattle.field_tables.specs.RowFits.{in_half}
use Rattle.field_tables.proofs.EveryField.{fields as all_fields, texts as all_texts, sums as all_sums, each_field, each_text, each_sum}
use Rattle.field_tables.proofs.EveryValue.{all_pass, of_both, of_mapped}
use Rattle.field_tables.proofs.TrueTests.{all_in, in_range}

-- ---- all entries

abbrev entries : List Entry
entries = map of_field all_fields ++ (map of_text all_texts ++ map of_sum all_sums)

each_entry : (P : Entry → Type 0) → AllByRecursion P entries → (entry : Entry) → P entry
each_entry P all entry =
    let first = of_both P (map of_field all_fields) (map of_text all_texts ++ map of_sum all_sums) all in
    let later = of_both P (map of_text all_texts) (map of_sum all_sums) first.1 in
    elim entry as (λ (e : Entry). P e) [
      | of_field field ↦ each_field (λ f. P (of_field f)) (of_mapped of_field P all_fields first.0) field
      | of_text text ↦ each_text (λ t. P (of_text t)) (of_mapped of_text P all_texts later.0) text
      | of_sum s ↦ each_sum (λ t. P (of_sum t)) (of_mapped of_sum P all_sums later.1) s
    ]

-- ---- where an entry is among all

abbrev IsAt : List Entry → ℕ → Entry → Type 0
IsAt entries k entry = slice_get entries k ≡ Some entry

after : (first : Entry) (xs ys : List Entry) → AllByRecursion (λ (e : Entry). (k : ℕ) × IsAt xs k e) ys → AllByRecursion (λ (e : Entry). (k : ℕ) × IsAt (first ∷ xs) k e) ys
after first xs [] all = tt
after first xs (y ∷ ys) all = ((suc all.0.0, all.0.1), after first xs ys all.1)

placed : (xs : List Entry) → AllByRecursion (λ (e : Entry). (k : ℕ) × IsAt xs k e) xs
placed [] = tt
placed (x ∷ xs) = ((0, refl), after x xs xs (placed xs))

place_among : (entry : Entry) → (k : ℕ) × IsAt entries k entry
place_among entry = each_entry (λ (e : Entry). (k : ℕ) × IsAt entries k e) (placed entries) entry

-- ---- spans of places

-- bits of a half, counted from its first
abbrev position : ℕ × ℕ → ℕ
position bit = 8 * bit.0 + bit.1

abbrev lowest : Place → ℕ
lowest [] = 2048
lowest (bit ∷ place) = min (position bit) (lowest place)

abbrev highest : Place → ℕ
highest [] = 0
highest (bit ∷ place) = max (position bit) (highest place)

-- a bit of a place is in its span
in_span : (place : Place) (bit : ℕ × ℕ) → Contains place bit → (lowest place ≤ position bit) × (position bit ≤ highest place)
in_span [] bit (k, below, is) = absurd (omega arith)
in_span (b ∷ place) bit (zero, below, is) = let same = ap position is in (omega (arith, same), omega (arith, same))
in_span (b ∷ place) bit (suc k, below, is) = let rest = in_span place bit (k, omega arith, is) in (omega (arith, rest.0), omega (arith, rest.1))

-- ---- the test

-- one number for each standard and half
abbrev half_code : Family → Key → ℕ
half_code standard key = ((tag_of family_enum.the_type standard * 2 + device_rank key.dev) * 2 + half_rank key.half) * 256 + key.page

-- the half of an entry, and its values with their spans
record Claim : Type 0 where
  code : ℕ
  spans : List (ℕ × (ℕ × ℕ))

abbrev span_of : Entry → ℕ → ℕ × (ℕ × ℕ)
span_of entry i = let place = entry_place entry i in (i, (lowest place, highest place))

abbrev claim_of : Entry → Claim
claim_of entry = record { code = half_code (entry_standard entry) (entry_key entry); spans = map (span_of entry) (range_with_len 1 (entry_count entry)) }

abbrev apart : ℕ × ℕ → ℕ × ℕ → Bool
apart s t = nat_lt s.1 t.0 || nat_lt t.1 s.0

-- the values of one entry
abbrev same_or_apart : ℕ × (ℕ × ℕ) → ℕ × (ℕ × ℕ) → Bool
same_or_apart p q = p.0 == q.0 || apart p.1 q.1

abbrev own_clear : Claim → Bool
own_clear c = list_all (λ p. list_all (same_or_apart p) c.spans) c.spans

-- those of two
abbrev both_apart : ℕ × (ℕ × ℕ) → ℕ × (ℕ × ℕ) → Bool
both_apart p q = apart p.1 q.1

abbrev clear_where : Bool → Claim → Claim → Bool
clear_where false c d = true
clear_where true c d = list_all (λ p. list_all (both_apart p) d.spans) c.spans

abbrev clear : Claim → Claim → Bool
clear c d = clear_where (c.code == d.code) c d

-- each with itself and with those after it
abbrev all_clear : List Entry → Bool
all_clear [] = true
all_clear (entry ∷ later) = own_clear (claim_of entry) && (list_all (λ e. clear (claim_of entry) (claim_of e)) later && all_clear later)

entries_clear : all_clear entries ≡ true
entries_clear = refl

-- ---- what the test says

own_at : (xs : List Entry) (k : ℕ) (a : Entry) → all_clear xs ≡ true → IsAt xs k a → own_clear (claim_of a) ≡ true
own_at [] k a all at = absurd cc
own_at (x ∷ xs) zero a all at = let same : x ≡ a = cc in ap (λ (e : Entry). own_clear (claim_of e)) (sym same) ∙ (and_parts _ _ all).0
own_at (x ∷ xs) (suc k) a all at = own_at xs k a (and_parts _ _ (and_parts _ _ all).1).1 at

test_at : (test : Entry → Bool) (xs : List Entry) (k : ℕ) (a : Entry) → list_all test xs ≡ true → IsAt xs k a → test a ≡ true
test_at test [] k a all at = absurd cc
test_at test (x ∷ xs) zero a all at = let same : x ≡ a = cc in ap test (sym same) ∙ (and_parts _ _ all).0
test_at test (x ∷ xs) (suc k) a all at = test_at test xs k a (and_parts _ _ all).1 at

pair_at : (xs : List Entry) (k m : ℕ) (a b : Entry) → all_clear xs ≡ true → k < m → IsAt xs k a → IsAt xs m b → clear (claim_of a) (claim_of b) ≡ true
pair_at [] k m a b all order is at = absurd cc
pair_at (x ∷ xs) k zero a b all order is at = absurd (omega (arith, order))
pair_at (x ∷ xs) zero (suc m) a b all order is at =
    let same : x ≡ a = cc in
    subst (λ (e : Entry). clear (claim_of e) (claim_of b) ≡ true) same (test_at (λ e. clear (claim_of x) (claim_of e)) xs m b (and_parts _ _ (and_parts _ _ all).1).0 at)
pair_at (x ∷ xs) (suc k) (suc m) a b all order is at = pair_at xs k m a b (and_parts _ _ (and_parts _ _ all).1).1 (omega (arith, order)) is at

-- a test of all pairs of values says it of each pair
values_at : (test : ℕ × (ℕ × ℕ) → ℕ × (ℕ × ℕ) → Bool) (a b : Entry) (i j : ℕ) → list_all (λ p. list_all (test p) (claim_of b).spans) (claim_of a).spans ≡ true →
    1 ≤ i → i ≤ entry_count a → 1 ≤ j → j ≤ entry_count b → test (span_of a i) (span_of b j) ≡ true
values_at test a b i j met i_first i_last j_first j_last =
    let d = claim_of b in
    let of_a = in_range (λ (n : ℕ). list_all (test (span_of a n)) d.spans) 1 (entry_count a) i
    (sym (list_all-map (λ p. list_all (test p) d.spans) (span_of a) (range_with_len 1 (entry_count a))) ∙ met) i_first (omega arith) in
    in_range (λ (n : ℕ). test (span_of a i) (span_of b n)) 1 (entry_count b) j
    (sym (list_all-map (test (span_of a i)) (span_of b) (range_with_len 1 (entry_count b))) ∙ of_a) j_first (omega arith)

-- no number is in two spans that are apart
not_apart : (s t : ℕ × ℕ) (n : ℕ) → (s.0 ≤ n) × (n ≤ s.1) → (t.0 ≤ n) × (n ≤ t.1) → apart s t ≡ true → ⊥
not_apart s t n in_s in_t e = elim (or_cases (nat_lt s.1 t.0) (nat_lt t.1 s.0) e) [ inl before ↦ grind (arith, nat_tests) | inr after ↦ grind (arith, nat_tests) ]

shared : (a b : Entry) (i j : ℕ) (bit : ℕ × ℕ) → IsBitOf a i bit → IsBitOf b j bit → apart (span_of a i).1 (span_of b j).1 ≡ true → ⊥
shared a b i j bit in_a in_b e =
    not_apart (span_of a i).1 (span_of b j).1 (position bit) (in_span (entry_place a i) bit in_a.2) (in_span (entry_place b j) bit in_b.2) e

same_code : (a b : Entry) → entry_standard a ≡ entry_standard b → entry_key a ≡ entry_key b → (claim_of a).code ≡ (claim_of b).code
same_code a b standards keys = ap (λ (s : Family). half_code s (entry_key a)) standards ∙ ap (half_code (entry_standard b)) keys

-- no entry shares a bit with one after it
none_later : (k m : ℕ) (a b : Entry) (i j : ℕ) (bit : ℕ × ℕ) → k < m → IsAt entries k a → IsAt entries m b → entry_standard a ≡ entry_standard b → entry_key a ≡ entry_key b →
    IsBitOf a i bit → IsBitOf b j bit → ⊥
none_later k m a b i j bit order is at standards keys in_a in_b =
    let c = claim_of a in
    let d = claim_of b in
    let met : clear_where true c d ≡ true = subst (λ (t : Bool). clear_where t c d ≡ true) (eq-eqb c.code d.code (same_code a b standards keys)) (pair_at entries k m a b entries_clear order is at) in
    shared a b i j bit in_a in_b (values_at both_apart a b i j met in_a.0 in_a.1 in_b.0 in_b.1)

same_value : (k : ℕ) (a : Entry) (i j : ℕ) (bit : ℕ × ℕ) → IsAt entries k a → IsBitOf a i bit → IsBitOf a j bit → i ≡ j
same_value k a i j bit is in_i in_j =
    elim (or_cases (i == j) (apart (span_of a i).1 (span_of a j).1) (values_at same_or_apart a a i j (own_at entries k a entries_clear is) in_i.0 in_i.1 in_j.0 in_j.1)) [
      | inl same ↦ eqb-true i j same
      | inr away ↦ absurd (shared a a i j bit in_i in_j away)
    ]

by_order : (less more : Bool) (k m : ℕ) (a b : Entry) (i j : ℕ) (bit : ℕ × ℕ) → nat_lt k m ≡ less → nat_lt m k ≡ more → IsAt entries k a → IsAt entries m b →
    entry_standard a ≡ entry_standard b → entry_key a ≡ entry_key b → IsBitOf a i bit → IsBitOf b j bit → (a ≡ b) × (i ≡ j)
by_order true more k m a b i j bit before after is at standards keys in_a in_b =
    let order : k < m = grind (arith, nat_tests) in
    absurd (none_later k m a b i j bit order is at standards keys in_a in_b)
by_order false true k m a b i j bit before after is at standards keys in_a in_b =
    let order : m < k = grind (arith, nat_tests) in
    absurd (none_later m k b a j i bit order at is (sym standards) (sym keys) in_b in_a)
by_order false false k m a b i j bit before after is at standards keys in_a in_b =
    let place : k ≡ m = grind (arith, nat_tests) in
    let one : Some a ≡ Some b = sym is ∙ ap (λ (n : ℕ). slice_get entries n) place ∙ at in
    let same : a ≡ b = cc in
    (same, same_value k a i j bit is in_a (subst (λ (e : Entry). IsBitOf e j bit) (sym same) in_b))

pub no_bit_twice : NoBitTwice
no_bit_twice a b i j bit standards keys in_a in_b =
    let p = place_among a in
    let q = place_among b in
    by_order (nat_lt p.0 q.0) (nat_lt q.0 p.0) p.0 q.0 a b i j bit refl refl p.1 q.1 standards keys in_a in_b

-- ---- within the half

abbrev value_within : Entry → ℕ → Bool
value_within entry i = list_all (in_half (entry_key entry).half) (entry_place entry i)

entries_within : list_all (λ e. list_all (value_within e) (range_with_len 1 (entry_count e))) entries ≡ true
entries_within = refl

pub within_half : WithinHalf
within_half entry i bit is_bit =
    let test = λ (e : Entry). list_all (value_within e) (range_with_len 1 (entry_count e)) in
    let values = each_entry (λ (e : Entry). test e ≡ true) (all_pass test entries entries_within) entry in
    let value = in_range (value_within entry) 1 (entry_count entry) i values is_bit.0 (omega (arith, is_bit.1)) in
    all_in (in_half (entry_key entry).half) (entry_place entry i) bit value is_bit.2
