-- The keys of what rows say are some of those that the rows have, in their order; these are distinct, by a computed test.
use Rattle.std.proofs.Common.{◌≡◌, ◌<◌, ◌≤◌, ◌+◌, ◌*◌, ℕ, Bool, true, List, [], ◌∷◌, ◌++◌, Option, None, Some, length, map, refl, sym, ap, subst, codes, nat_le, nat_lt, arith}
use Rattle.std.proofs.lemmas.Bool.{and_parts, cond_both, leb-true, ltb-true}
use Rattle.std.proofs.lemmas.Cmp.{nat_list_eq_equiv}
use Rattle.std.proofs.lemmas.List.{map-append}
use Rattle.std.proofs.lemmas.Map.Made.{AllPairs-from_IsDistinct, IsDistinct-from_count}
use Rattle.std.specs.List.{AllByRecursion, IsDistinct, flat_map, list_all, range_with_len}
use Rattle.std.specs.Set.{distinct_count}
use Rattle.std.specs.Str.{bytes_eq}
use Rattle.std.specs.Cmp.Lexicographic.{bytes_decides}
use Rattle.field_tables.specs.declared.field.Field.TheVariants as fields
use Rattle.field_tables.specs.declared.table.cmis.CmisField.TheVariants as cmis_fields
use Rattle.field_tables.specs.Readings.{number}
use Rattle.paged_memory.specs.Images.{Memory}
use Rattle.report_entries.specs.Entries.{Entry, entry}
use Rattle.report_entries.specs.Facts.{Fact, key_text}
use Rattle.report_entries.specs.declared.fact.Place.{Place}
use Rattle.report_entries.specs.declared.fact.Place.TheVariants.{Module, Lane}
use Rattle.module_details.specs.declared.item.Values.{Values}
use Rattle.module_details.specs.declared.item.Values.TheVariants.{One, Lanes}
use Rattle.module_details.specs.CmisDetails as cmis
use Rattle.module_details.specs.Details.{bank_entries, fact_at, fact_entries, has_lane, is_left_out, lane_entries, row_entries, rows_entries, values_entries}
use Rattle.module_details.specs.Families.{tables_entries}
use Rattle.module_details.specs.QsfpDetails as qsfp
use Rattle.module_details.specs.Rows.{Item, Row}
use Rattle.module_details.specs.SfpDetails as sfp
use Rattle.observables.specs.Banks.{lanes_of_bank}
use Rattle.reports.proofs.LaneDigits.{digits_of, written}
use Rattle.reports.proofs.SameBanks.{Further, no_further, numbered, numbers, up_to_1, up_to_2, up_to_3}
use Rattle.reports.specs.UniqueDetails.{DetailsHaveUniqueKeys, HaveUniqueKeys, entry_key}

-- ---- some of a list, in its order

data Part : List (List ℕ) → List (List ℕ) → Type 0 where
  end : Part [] []
  kept : {x : List ℕ} {xs ys : List (List ℕ)} → Part xs ys → Part (x ∷ xs) (x ∷ ys)
  left : {y : List ℕ} {xs ys : List (List ℕ)} → Part xs ys → Part xs (y ∷ ys)

part_none : (ys : List (List ℕ)) → Part [] ys
part_none [] = end
part_none (y ∷ ys) = left (part_none ys)

part_append : {xs ys us vs : List (List ℕ)} → Part xs ys → Part us vs → Part (xs ++ us) (ys ++ vs)
part_append end q = q
part_append (kept p) q = kept (part_append p q)
part_append (left p) q = left (part_append p q)

part_all : (P : List ℕ → Type 0) {xs ys : List (List ℕ)} → Part xs ys → AllByRecursion P ys → AllByRecursion P xs
part_all P end all = tt
part_all P (kept p) all = (all.0, part_all P p all.1)
part_all P (left p) all = part_all P p all.1

part_distinct : {xs ys : List (List ℕ)} → Part xs ys → IsDistinct bytes_eq ys → IsDistinct bytes_eq xs
unfolding IsDistinct
part_distinct end d = d
part_distinct (kept p) d = (part_all _ p d.0, part_distinct p d.1)
part_distinct (left p) d = part_distinct p d.1

-- ---- the keys that rows have

abbrev lane_key : List ℕ → ℕ → List ℕ
lane_key name lane = name ++ (codes "-lane-" ++ digits_of lane)

lane_key_text : (name : List ℕ) (lane : ℕ) → lane < 100 → key_text name (Lane lane) ≡ lane_key name lane
unfolding key_text
lane_key_text name lane small = ap (λ (digits : List ℕ). name ++ (codes "-lane-" ++ digits)) (written lane small)

-- of the lanes that a bank has
abbrev bank_keys : List ℕ → ℕ → ℕ → List (List ℕ)
bank_keys name n bank = flat_map (λ i. lane_key name (8 * bank + i) ∷ []) (range_with_len 1 n)

-- of the module, or of the lanes of these banks
abbrev values_keys : List ℕ → List ℕ → Values → List (List ℕ)
values_keys banks name (One i) = key_text name Module ∷ []
values_keys banks name (Lanes n) = flat_map (bank_keys name n) banks

abbrev pub are_few : Values → Bool
are_few (One i) = true
are_few (Lanes n) = list_all (λ (i : ℕ). nat_lt i 10) (range_with_len 1 n)

abbrev row_keys : List ℕ → Row → List (List ℕ)
row_keys banks row = values_keys banks row.name row.values

abbrev pub tables_keys : List ℕ → List (List Row) → List (List ℕ)
tables_keys banks tables = flat_map (flat_map (row_keys banks)) tables

abbrev pub keys_of : List Entry → List (List ℕ)
keys_of entries = map entry_key entries

-- of entries that are told of each of some things
each_part : {X : Type 0} (f : X → List Entry) (keys : X → List (List ℕ)) (small : X → Bool) → ((x : X) → small x ≡ true → Part (keys_of (f x)) (keys x)) → (xs : List X) → list_all small xs ≡ true
    → Part (keys_of (flat_map f xs)) (flat_map keys xs)
each_part f keys small part [] e = end
each_part f keys small part (x ∷ xs) e =
    let both = and_parts (small x) (list_all small xs) e in
    let whole = part_append (part x both.0) (each_part f keys small part xs both.1) in
    subst (λ (ks : List (List ℕ)). Part ks (keys x ++ flat_map keys xs)) (sym (map-append entry_key (f x) (flat_map f xs))) whole

fact_part : (name : List ℕ) (place : Place) (found : Option Fact) → Part (keys_of (fact_entries name place found)) (key_text name place ∷ [])
unfolding fact_entries entry
fact_part name place None = left end
fact_part name place (Some f) = kept end

lane_part : (identifier : ℕ) (lanes : Memory) (name : List ℕ) (item : Item) (bank : ℕ) → bank ≤ 3 → (i : ℕ) → i < 10 → Part (keys_of (lane_entries identifier name item bank lanes i)) (lane_key name (8 * bank + i) ∷ [])
unfolding lane_entries
lane_part identifier lanes name item bank few i small =
    let lane = 8 * bank + i in
    let content = fact_entries name (Lane lane) (fact_at lanes bank item i) in
    cond_both (has_lane identifier i) content [] (λ (entries : List Entry). Part (keys_of entries) (lane_key name lane ∷ []))
    (λ has. subst (λ (key : List ℕ). Part (keys_of content) (key ∷ [])) (lane_key_text name lane (omega (arith, few, small))) (fact_part name (Lane lane) (fact_at lanes bank item i)))
    (λ lacks. left end)

bank_part : (identifier : ℕ) (lanes : Memory) (name : List ℕ) (item : Item) (n : ℕ) → list_all (λ (i : ℕ). nat_lt i 10) (range_with_len 1 n) ≡ true → (bank : ℕ) → bank ≤ 3 → Part (keys_of (bank_entries identifier name item n bank lanes)) (bank_keys name n bank)
bank_part identifier lanes name item n e bank few =
    each_part (lane_entries identifier name item bank lanes) (λ i. lane_key name (8 * bank + i) ∷ []) (λ i. nat_lt i 10) (λ i small. lane_part identifier lanes name item bank few i (ltb-true i 10 small)) (range_with_len 1 n) e

abbrev pub is_bank : ℕ → Bool
is_bank bank = nat_le bank 3

values_part : (memory : Memory) (banks name : List ℕ) (item : Item) (values : Values) → list_all is_bank banks ≡ true → are_few values ≡ true → Part (keys_of (values_entries memory banks name item values)) (values_keys (0 ∷ banks) name values)
values_part memory banks name item (One i) of e = fact_part name Module (fact_at memory 0 item i)
values_part memory banks name item (Lanes n) of e =
    let first = bank_part (number memory (fields.Cmis cmis_fields.Identifier)) memory name item n e 0 (omega arith) in
    let later = each_part (λ (bank : ℕ). bank_entries (number memory (fields.Cmis cmis_fields.Identifier)) name item n bank (lanes_of_bank memory bank)) (bank_keys name n) is_bank (λ bank few. bank_part (number memory (fields.Cmis cmis_fields.Identifier)) (lanes_of_bank memory bank) name item n e bank (leb-true bank 3 few)) banks of in
    subst (λ (ks : List (List ℕ)). Part ks (bank_keys name n 0 ++ flat_map (bank_keys name n) banks))
    (sym (map-append entry_key (bank_entries (number memory (fields.Cmis cmis_fields.Identifier)) name item n 0 memory) (flat_map (λ (bank : ℕ). bank_entries (number memory (fields.Cmis cmis_fields.Identifier)) name item n bank (lanes_of_bank memory bank)) banks))) (part_append first later)

row_part : (memory : Memory) (banks : List ℕ) (flat : Bool) (row : Row) → list_all is_bank banks ≡ true → are_few row.values ≡ true → Part (keys_of (row_entries memory banks flat row)) (row_keys (0 ∷ banks) row)
unfolding row_entries
row_part memory banks flat row of e =
    cond_both (is_left_out memory flat row) [] (values_entries memory banks row.name row.item row.values) (λ (entries : List Entry). Part (keys_of entries) (row_keys (0 ∷ banks) row))
    (λ left_out. part_none (row_keys (0 ∷ banks) row)) (λ shown. values_part memory banks row.name row.item row.values of e)

tables_part : (banks : List ℕ) → list_all is_bank banks ≡ true → (tables : List (List Row)) → list_all (list_all (λ (row : Row). are_few row.values)) tables ≡ true
    → (memory : Memory) (flat : Bool) → Part (keys_of (tables_entries memory banks flat tables)) (tables_keys (0 ∷ banks) tables)
tables_part banks of tables few memory flat =
    let few_in = λ (row : Row). are_few row.values in
    let keys = row_keys (0 ∷ banks) in
    each_part (rows_entries memory banks flat) (flat_map keys) (list_all few_in) (each_part (row_entries memory banks flat) keys few_in (λ row e. row_part memory banks flat row of e)) tables few

-- ---- of each family

all_pass : (test : List ℕ → Bool) (keys : List (List ℕ)) → list_all test keys ≡ true → AllByRecursion (λ key. test key ≡ true) keys
all_pass test [] e = tt
all_pass test (key ∷ keys) e =
    let both = and_parts (test key) (list_all test keys) e in
    (both.0, all_pass test keys both.1)

-- a test that all keys of the rows pass, all that they say do
pub each_passes : (test : List ℕ → Bool) (banks : List ℕ) → list_all is_bank banks ≡ true → (tables : List (List Row)) → list_all (list_all (λ (row : Row). are_few row.values)) tables ≡ true
    → list_all test (tables_keys (0 ∷ banks) tables) ≡ true → (memory : Memory) (flat : Bool) → AllByRecursion (λ key. test key ≡ true) (keys_of (tables_entries memory banks flat tables))
each_passes test banks of tables few passed memory flat =
    part_all (λ key. test key ≡ true) (tables_part banks of tables few memory flat) (all_pass test (tables_keys (0 ∷ banks) tables) passed)

unique : (banks : List ℕ) → list_all is_bank banks ≡ true → (tables : List (List Row)) → list_all (list_all (λ (row : Row). are_few row.values)) tables ≡ true
    → distinct_count bytes_eq (tables_keys (0 ∷ banks) tables) ≡ length (tables_keys (0 ∷ banks) tables) → (memory : Memory) (flat : Bool) → HaveUniqueKeys (tables_entries memory banks flat tables)
unique banks of tables few new memory flat =
    let part = tables_part banks of tables few memory flat in
    AllPairs-from_IsDistinct bytes_decides (keys_of (tables_entries memory banks flat tables)) (part_distinct part (IsDistinct-from_count nat_list_eq_equiv (tables_keys (0 ∷ banks) tables) new))

cmis_unique : (further : Further) (memory : Memory) (flat : Bool) → HaveUniqueKeys (tables_entries memory (numbers further) flat cmis.tables_of_rows)
unfolding key_text cmis.identity_rows cmis.characteristics_rows cmis.controls_rows cmis.status_rows cmis.lanes_rows
cmis_unique no_further = unique [] refl cmis.tables_of_rows refl refl
cmis_unique up_to_1 = unique (1 ∷ []) refl cmis.tables_of_rows refl refl
cmis_unique up_to_2 = unique (1 ∷ 2 ∷ []) refl cmis.tables_of_rows refl refl
cmis_unique up_to_3 = unique (1 ∷ 2 ∷ 3 ∷ []) refl cmis.tables_of_rows refl refl

pub details_have_unique_keys : DetailsHaveUniqueKeys
unfolding key_text qsfp.identity_rows qsfp.compliance_rows qsfp.options_rows qsfp.status_rows sfp.identity_rows sfp.compliance_rows sfp.options_rows sfp.status_rows sfp.calibrated_rows
details_have_unique_keys = record {
  cmis = λ memory flat.
      let found = numbered true flat memory in
      subst (λ (banks : List ℕ). HaveUniqueKeys (tables_entries memory banks flat cmis.tables_of_rows)) found.1 (cmis_unique found.0 memory flat);
  qsfp = unique [] refl qsfp.tables_of_rows refl refl;
  sfp = unique [] refl sfp.tables_of_rows refl refl;
}
