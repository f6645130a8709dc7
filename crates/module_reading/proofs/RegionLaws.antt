-- What tells the halves apart that are read of a module, and which they are.
use Rattle.std.proofs.Common.{◌≡◌, ◌≤◌, ◌<◌, ℕ, zero, suc, ◌/◌, ◌==◌, ◌&&◌, Bool, true, false, not, List, [], ◌∷◌, length, drop, map, take, Option, Some, None, refl, sym, ap, subst, ◌∙◌, if◌then◌else◌, arith}
use Rattle.std.proofs.lemmas.Bool.{and_from, and_parts, eqb-true, le-leb, leb-true, true≢false}
use Rattle.std.specs.Prelude.{nat_le, option_map, unwrap_or, unsigned_abs, pos}
use Rattle.std.specs.List.{AllByRecursion, list_all, slice_get}
use Rattle.std.specs.FinMap as finmap
use Rattle.std.specs.Ordering.{eq_by_cmp, is_eq}
use Rattle.std.specs.Cmp.{eq_by_cmp_equiv}
use Rattle.std.specs.declared.cmp.Ordering.{Ordering}
use Rattle.std.specs.declared.cmp.Ordering.TheVariants.{Less, Equal, Greater}
use Rattle.bus_model.specs.declared.device.Dev.TheVariants.{A0, A2}
use Rattle.paged_memory.specs.declared.family.Family.{Family}
use Rattle.paged_memory.specs.declared.family.Family.TheVariants as families
use Rattle.paged_memory.specs.declared.key.Key.{Key}
use Rattle.paged_memory.specs.declared.page_addressing.PageAddressing.{PageAddressing}
use Rattle.paged_memory.specs.declared.page_addressing.PageAddressing.TheVariants.{BankAndPage, PageAlone}
use Rattle.paged_memory.specs.Families.{managed_by}
use Rattle.paged_memory.specs.Images.{Memory}
use Rattle.paged_memory.specs.KeyOrder.{key_cmp}
use Rattle.paged_memory.specs.Keys.{lower_key}
use Rattle.paged_memory.proofs.KeyLaws.{keys_apart, keys_total}
use Rattle.paged_memory.proofs.WindowHistories.{IsSelectable}
use Rattle.field_tables.specs.declared.field.Field.{Field}
use Rattle.field_tables.specs.declared.field.Field.TheVariants as fields
use Rattle.field_tables.specs.declared.table.cmis.CmisField.TheVariants as cmis
use Rattle.field_tables.specs.declared.table.sff8636.Sff8636Field.TheVariants as sff8636
use Rattle.field_tables.specs.declared.table.sff8472.Sff8472Field.TheVariants as sff8472
use Rattle.field_tables.specs.FieldValues.{field_key, value_in}
use Rattle.field_tables.specs.Readings.{number, reading_at}
use Rattle.field_tables.proofs.SameValues.{Agree, plain, same_number}
use Rattle.module_reading.specs.Regions.{addressing_in, addressing_of, and_if, decides, family_regions, halves_for, halves_of, halves_of_banks, has_banks, identifier, is_for_banks, key_of, lower_alone, regions_in, regions_of, requested, wants}
use Rattle.module_reading.specs.declared.region.Region.{Region}
use Rattle.module_reading.specs.declared.request.Request.{Request}
use Rattle.module_reading.specs.declared.region.Region.TheVariants.{Lower, FirstPage, Page}

pub not_true : (b : Bool) → not b ≡ true → b ≡ false
not_true true e = cc
not_true false e = refl

is_equal : (ordering : Ordering) → is_eq ordering ≡ true → ordering ≡ Equal
is_equal Less e = cc
is_equal Equal e = refl
is_equal Greater e = cc

pub keys_are : (a b : Key) → eq_by_cmp key_cmp a b ≡ true → a ≡ b
keys_are a b e = keys_apart a b (is_equal (key_cmp a b) e)

-- ---- what tells two halves of a list apart

abbrev is_paged : Region → Bool
is_paged (Lower dev) = false
is_paged FirstPage = false
is_paged (Page page) = true

abbrev is_first : Region → Bool
is_first (Lower dev) = false
is_first FirstPage = true
is_first (Page page) = false

-- an image has them under two keys, and no page is selected before the first page of flat memory is read
abbrev is_apart : Region → Region → Bool
is_apart earlier later = not (eq_by_cmp key_cmp (key_of earlier) (key_of later)) && not (is_paged earlier && is_first later)

abbrev all_apart : List Region → Bool
all_apart [] = true
all_apart (region ∷ regions) = list_all (is_apart region) regions && all_apart regions

each_at : (test : Region → Bool) (regions : List Region) (n : ℕ) (region : Region) → list_all test regions ≡ true → slice_get regions n ≡ Some region → test region ≡ true
each_at test [] n region all is = absurd cc
each_at test (first ∷ regions) zero region all is = let same : first ≡ region = cc in ap test (sym same) ∙ (and_parts _ _ all).0
each_at test (first ∷ regions) (suc n) region all is = each_at test regions n region (and_parts _ _ all).1 is

apart_at : (regions : List Region) (n m : ℕ) (earlier later : Region) → all_apart regions ≡ true → n < m → slice_get regions n ≡ Some earlier → slice_get regions m ≡ Some later → is_apart earlier later ≡ true
apart_at [] n m earlier later all order is at = absurd cc
apart_at (first ∷ regions) n zero earlier later all order is at = absurd (omega (arith, order))
apart_at (first ∷ regions) zero (suc m) earlier later all order is at =
    let same : first ≡ earlier = cc in
    subst (λ (region : Region). is_apart region later ≡ true) same (each_at (is_apart first) regions m later (and_parts _ _ all).0 at)
apart_at (first ∷ regions) (suc n) (suc m) earlier later all order is at = apart_at regions n m earlier later (and_parts _ _ all).1 (omega (arith, order)) is at

-- ---- what holds of all halves that a family has holds of those that are requested

abbrev pub regions_of_halves : List (ℕ × Region) → List Region
regions_of_halves halves = map (λ half. half.1) halves

pub all_requested : (P : Region → Type 0) (request : Request) (halves : List (ℕ × Region)) → AllByRecursion P (regions_of_halves halves) → AllByRecursion P (requested request halves)
all_requested P request [] all = tt
all_requested P request (half ∷ halves) all = by (wants request half.0) (all_requested P request halves all.1) where
  by : (wanted : Bool) → AllByRecursion P (requested request halves) → AllByRecursion P (and_if wanted half.1 (requested request halves))
  by true rest = (all.0, rest)
  by false rest = rest

test_requested : (test : Region → Bool) (request : Request) (halves : List (ℕ × Region)) → list_all test (regions_of_halves halves) ≡ true → list_all test (requested request halves) ≡ true
test_requested test request [] e = refl
test_requested test request (half ∷ halves) e =
    let parts = and_parts (test half.1) (list_all test (regions_of_halves halves)) e in by (wants request half.0) parts.0 (test_requested test request halves parts.1) where
      by : (wanted : Bool) → test half.1 ≡ true → list_all test (requested request halves) ≡ true → list_all test (and_if wanted half.1 (requested request halves)) ≡ true
      by true first rest = and_from _ _ first rest
      by false first rest = rest

apart_requested : (request : Request) (halves : List (ℕ × Region)) → all_apart (regions_of_halves halves) ≡ true → all_apart (requested request halves) ≡ true
apart_requested request [] e = refl
apart_requested request (half ∷ halves) e =
    let parts = and_parts (list_all (is_apart half.1) (regions_of_halves halves)) (all_apart (regions_of_halves halves)) e in
    by (wants request half.0) (test_requested (is_apart half.1) request halves parts.0) (apart_requested request halves parts.1) where
      by : (wanted : Bool) → list_all (is_apart half.1) (requested request halves) ≡ true → all_apart (requested request halves) ≡ true → all_apart (and_if wanted half.1 (requested request halves)) ≡ true
      by true first rest = and_from _ _ first rest
      by false first rest = rest

few_requested : (request : Request) (halves : List (ℕ × Region)) → length (requested request halves) ≤ length halves
few_requested request [] = omega arith
few_requested request (half ∷ halves) = by (wants request half.0) (few_requested request halves) where
  by : (wanted : Bool) → length (requested request halves) ≤ length halves → length (and_if wanted half.1 (requested request halves)) ≤ suc (length halves)
  by true few = omega (arith, few)
  by false few = omega (arith, few)

-- any two are apart, and there are five at most
abbrev is_fit : List Region → Bool
is_fit regions = all_apart regions && nat_le (length regions) 5

abbrev is_selectable : PageAddressing → Region → Bool
is_selectable addressing (Lower dev) = true
is_selectable addressing FirstPage = true
is_selectable BankAndPage (Page page) = true
is_selectable PageAlone (Page page) = page / 256 == 0

-- with the lower half of A0 they are so, and their pages can be selected
abbrev are_fit : PageAddressing → List (ℕ × Region) → Bool
are_fit addressing halves =
    all_apart (Lower A0 ∷ regions_of_halves halves) && (nat_le (length halves) 4 && list_all (is_selectable addressing) (regions_of_halves halves))

-- by what decides which a family has
true_fit : (family : Family) → are_fit (addressing_in (Some family)) (halves_of family true) ≡ true
true_fit families.Cmis = refl
true_fit _ = refl

false_fit : (family : Family) → are_fit (addressing_in (Some family)) (halves_of family false) ≡ true
false_fit families.Cmis = refl
false_fit _ = refl

halves_fit : (family : Family) (holds : Bool) → are_fit (addressing_in (Some family)) (halves_of family holds) ≡ true
halves_fit family true = true_fit family
halves_fit family false = false_fit family

banks_fit : (family : Family) (holds : Bool) → has_banks family holds ≡ true → are_fit (addressing_in (Some family)) halves_of_banks ≡ true
banks_fit families.Cmis holds has = refl
banks_fit _ holds has = absurd cc

all_are_fit : (request : Request) (family : Family) (holds : Bool) → are_fit (addressing_in (Some family)) (halves_for request family holds) ≡ true
all_are_fit request family holds = by (is_for_banks request && has_banks family holds) (λ both. (and_parts _ _ both).1) where
  by : (banks : Bool) → (banks ≡ true → has_banks family holds ≡ true) → are_fit (addressing_in (Some family)) (if banks then halves_of_banks else halves_of family holds) ≡ true
  by true has = banks_fit family holds (has refl)
  by false has = halves_fit family holds

fit_parts : (addressing : PageAddressing) (halves : List (ℕ × Region)) → are_fit addressing halves ≡ true
    → (all_apart (Lower A0 ∷ regions_of_halves halves) ≡ true) × (length halves ≤ 4) × (list_all (is_selectable addressing) (regions_of_halves halves) ≡ true)
fit_parts addressing halves fit =
    let parts = and_parts (all_apart (Lower A0 ∷ regions_of_halves halves)) (nat_le (length halves) 4 && list_all (is_selectable addressing) (regions_of_halves halves)) fit in
    let rest = and_parts (nat_le (length halves) 4) (list_all (is_selectable addressing) (regions_of_halves halves)) parts.1 in
    (parts.0, leb-true (length halves) 4 rest.0, rest.1)

requested_fit : (request : Request) (halves : List (ℕ × Region)) → all_apart (Lower A0 ∷ regions_of_halves halves) ≡ true → length halves ≤ 4 → is_fit (Lower A0 ∷ requested request halves) ≡ true
requested_fit request halves apart few =
    let parts = and_parts (list_all (is_apart (Lower A0)) (regions_of_halves halves)) (all_apart (regions_of_halves halves)) apart in
    let fewer = few_requested request halves in
    let least : suc (length (requested request halves)) ≤ 5 = omega (arith, few, fewer) in
    and_from (all_apart (Lower A0 ∷ requested request halves)) (nat_le (suc (length (requested request halves))) 5)
    (and_from (list_all (is_apart (Lower A0)) (requested request halves)) (all_apart (requested request halves)) (test_requested (is_apart (Lower A0)) request halves parts.0) (apart_requested request halves parts.1))
    (le-leb (suc (length (requested request halves))) 5 least)

all_fit : (request : Request) (memory : Memory) → is_fit (regions_of request memory) ≡ true
all_fit request memory = by (managed_by (identifier memory)) where
  by : (family : Option Family) → is_fit (regions_in request family memory) ≡ true
  by None = refl
  by (Some family) =
      let halves = halves_for request family (decides family memory) in
      let parts = fit_parts (addressing_in (Some family)) halves (all_are_fit request family (decides family memory)) in
      requested_fit request halves parts.0 parts.1

pub at_most_five : (request : Request) (memory : Memory) → length (regions_of request memory) ≤ 5
at_most_five request memory = leb-true _ _ (and_parts _ _ (all_fit request memory)).1

pub begins_lower : (request : Request) (memory : Memory) → regions_of request memory ≡ Lower A0 ∷ drop 1 (regions_of request memory)
begins_lower request memory = by (managed_by (identifier memory)) where
  by : (family : Option Family) → regions_in request family memory ≡ Lower A0 ∷ drop 1 (regions_in request family memory)
  by (Some family) = refl
  by None = refl

pub first_is : (request : Request) (memory : Memory) → slice_get (regions_of request memory) 0 ≡ Some (Lower A0)
first_is request memory = ap (λ (regions : List Region). slice_get regions 0) (begins_lower request memory)

module _ (request : Request) (memory : Memory) (n m : ℕ) (earlier later : Region) (order : n < m)
    (is : slice_get (regions_of request memory) n ≡ Some earlier) (at : slice_get (regions_of request memory) m ≡ Some later) where
  parts : (eq_by_cmp key_cmp (key_of earlier) (key_of later) ≡ false) × (not (is_paged earlier && is_first later) ≡ true)
  parts = let apart = and_parts _ _ (apart_at (regions_of request memory) n m earlier later (and_parts _ _ (all_fit request memory)).0 order is at) in (not_true _ apart.0, apart.1)

  pub other_keys : eq_by_cmp key_cmp (key_of earlier) (key_of later) ≡ false
  other_keys = parts.0

  pub not_same_key : key_of earlier ≡ key_of later → ⊥
  not_same_key same = true≢false (sym ((eq_by_cmp_equiv keys_total).refl (key_of later)) ∙ ap (λ (key : Key). eq_by_cmp key_cmp key (key_of later)) (sym same) ∙ other_keys)

  pub none_paged : (page : ℕ) → earlier ≡ Page page → later ≡ FirstPage → ⊥
  none_paged page paged first = let never : not (is_paged (Page page) && is_first FirstPage) ≡ true = (λ i. not (is_paged (sym paged i) && is_first (sym first i))) ∙ parts.1 in cc

-- ---- pages that can be selected

abbrev pub CanBeSelected : PageAddressing → Region → Type 0
CanBeSelected addressing (Lower dev) = Unit {0}
CanBeSelected addressing FirstPage = Unit {0}
CanBeSelected addressing (Page page) = IsSelectable addressing page

selectable_if : (addressing : PageAddressing) (region : Region) → is_selectable addressing region ≡ true → CanBeSelected addressing region
selectable_if addressing (Lower dev) e = tt
selectable_if addressing FirstPage e = tt
selectable_if BankAndPage (Page page) e = tt
selectable_if PageAlone (Page page) e = eqb-true _ _ e

all_selectable : (addressing : PageAddressing) (regions : List Region) → list_all (is_selectable addressing) regions ≡ true → AllByRecursion (CanBeSelected addressing) regions
all_selectable addressing [] e = tt
all_selectable addressing (region ∷ regions) e = (selectable_if addressing region (and_parts _ _ e).0, all_selectable addressing regions (and_parts _ _ e).1)

-- those of a family can, in its way
pub can_be_selected : (request : Request) (family : Option Family) (memory : Memory) → AllByRecursion (CanBeSelected (addressing_in family)) (regions_in request family memory)
can_be_selected request None memory = (tt, tt)
can_be_selected request (Some family) memory =
    let halves = halves_for request family (decides family memory) in
    let addressing = addressing_in (Some family) in
    let parts = fit_parts addressing halves (all_are_fit request family (decides family memory)) in
    (tt, all_requested (CanBeSelected addressing) request halves (all_selectable addressing (regions_of_halves halves) parts.2))

-- ---- memories with the same lower half

module _ (memory other : Memory) (low : Agree memory other (lower_key A0)) where
  pub same_identifier : identifier memory ≡ identifier other
  same_identifier = same_number memory other (fields.Cmis cmis.Identifier) low refl refl

  pub same_decides : (family : Family) → decides family memory ≡ decides family other
  same_decides families.Cmis = ap (λ (flat : ℕ). flat == 1) (same_number memory other (fields.Cmis cmis.FlatMemory) low refl refl)
  same_decides families.Sff8636 = ap (λ (flat : ℕ). flat == 1) (same_number memory other (fields.Sff8636 sff8636.FlatMemory) low refl refl)
  same_decides families.Sff8472 = λ i. (same_number memory other (fields.Sff8472 sff8472.DiagPresent) low refl refl i == 1) && not (same_number memory other (fields.Sff8472 sff8472.AddressChange) low refl refl i == 1)

pub same_half : (memory other : Memory) (key : Key) → finmap.get memory key ≡ finmap.get other key → Agree memory other key
same_half memory other key same = ap (option_map (take (plain key))) same

module _ (memory other : Memory) (same : finmap.get memory (lower_key A0) ≡ finmap.get other (lower_key A0)) where
  low : Agree memory other (lower_key A0)
  low = same_half memory other (lower_key A0) same

  pub same_regions : (request : Request) → regions_of request memory ≡ regions_of request other
  same_regions request = ap (λ (id : ℕ). regions_in request (managed_by id) memory) (same_identifier memory other low) ∙ same_in (managed_by (identifier other)) where
    same_in : (family : Option Family) → regions_in request family memory ≡ regions_in request family other
    same_in (Some family) = ap (family_regions request family) (same_decides memory other low family)
    same_in None = refl

  pub same_paging : addressing_of memory ≡ addressing_of other
  same_paging = ap (λ (id : ℕ). addressing_in (managed_by id)) (same_identifier memory other low)

-- ---- a memory that has nothing

number_of_nothing : (field : Field) → number finmap.empty field ≡ 0
unfolding reading_at
number_of_nothing field =
    ap (λ (half : Option (List ℕ)). unsigned_abs (unwrap_or (option_map (λ bytes. value_in bytes field 1) half) (pos 0))) (finmap.get-empty key_cmp (field_key field))

no_family : managed_by 0 ≡ None
unfolding managed_by
no_family = refl

family_of_nothing : managed_by (identifier finmap.empty) ≡ None
family_of_nothing = ap managed_by (number_of_nothing (fields.Cmis cmis.Identifier)) ∙ no_family

pub asked_of_nothing : (request : Request) → regions_of request finmap.empty ≡ lower_alone
asked_of_nothing request = ap (λ (family : Option Family). regions_in request family finmap.empty) family_of_nothing
