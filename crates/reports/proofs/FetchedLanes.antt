-- What is read over a scripted bus with a new window of an image behind, also of further banks, is the image's.
use Rattle.std.proofs.Common.{◌≡◌, inl, inr, ℕ, zero, suc, ◌<◌, ◌≤◌, ◌==◌, Bool, true, false, List, [], ◌∷◌, map, take, Option, Some, None, Ok, Err, is_some, nat_lt, reverse, refl, sym, ap, subst, ◌∙◌, arith}
use Rattle.std.proofs.lemmas.Bool.{false≢true, lt-ltb, ltb-false, or_cases}
use Rattle.std.specs.Prelude.{option_map, slice_index, unwrap_or}
use Rattle.std.specs.FinMap as map
use Rattle.std.specs.List.{AllByRecursion}
use Rattle.std.specs.Ordering.{eq_by_cmp}
use Rattle.bus_model.specs.declared.device.Dev.TheVariants.{A0}
use Rattle.bus_model.specs.declared.script.Directive.{Directive}
use Rattle.bus_model.specs.Runs.{IsFull, Ran, Seen}
use Rattle.bus_model.specs.ScriptedBus.{script_rules}
use Rattle.bus_model.proofs.Histories.{after_reverse, may_each}
use Rattle.paged_memory.specs.declared.family.Family.{Family}
use Rattle.paged_memory.specs.declared.family.Family.TheVariants.{Cmis}
use Rattle.paged_memory.specs.declared.key.Key.{Key}
use Rattle.paged_memory.specs.declared.page_addressing.PageAddressing.{PageAddressing}
use Rattle.paged_memory.specs.declared.page_addressing.PageAddressing.TheVariants.{BankAndPage}
use Rattle.paged_memory.specs.Families.{managed_by}
use Rattle.paged_memory.specs.Images.{Memory}
use Rattle.paged_memory.specs.ImageText.{IsImage}
use Rattle.paged_memory.specs.Keys.{lower_key, page_key, upper_key}
use Rattle.paged_memory.specs.KeyOrder.{key_cmp}
use Rattle.paged_memory.specs.MappedPages.{selecting_by, selecting_in, selecting_on}
use Rattle.paged_memory.specs.PageAddressing.{History}
use Rattle.paged_memory.specs.Windows.{Windowed, started, window_conduct}
use Rattle.paged_memory.proofs.WindowHistories.{IsOf, May, State, of_after}
use Rattle.field_tables.specs.declared.field.Field.TheVariants as fields
use Rattle.field_tables.specs.declared.table.cmis.CmisField.TheVariants as cmis_fields
use Rattle.field_tables.proofs.SameValues.{Agree, plain, same_number}
use Rattle.module_decoding.specs.ModuleFamilies.{identifier}
use Rattle.module_reading.specs.declared.region.Region.{Region}
use Rattle.module_reading.specs.declared.region.Region.TheVariants.{Lower, FirstPage, Page}
use Rattle.module_reading.specs.ReadImages.{IsKeyAmong, IsSettled}
use Rattle.module_reading.specs.Regions.{addressing_in, addressing_of, everything, family_regions, is_flat, key_of, of_banks, regions_in, regions_of}
use Rattle.module_reading.proofs.RegionLaws.{keys_are, same_half, same_regions}
use Rattle.observables.specs.Banks.{bank_count}
use Rattle.observables.specs.Pages.{is_cmis}
use Rattle.observables.proofs.FewBanks.{few_banks}
use Rattle.reports.specs.FetchedImages.{AreBanksRead, AreFetched, IsFetching, with_banks}
use Rattle.reports.proofs.FetchedHalves.{IsPaged, agrees_settled, fetched_agree, has_settled, identifier_is, low_settled, selecting_is}
use Rattle.reports.proofs.FetchedPages.{HasPage, IsLow, all_low, among_page, among_regions, asks_first, asks_second, asks_third, has_first, has_pages}
use Rattle.reports.proofs.PutPages.{banks_beside, banks_either, banks_lower, first_bank, second_bank, third_bank}
use Rattle.reports.proofs.SameBanks.{same_count}
use Rattle.reports.proofs.SameFamilies.{AllAgree, LanesAgree, found_cmis, low_agrees}
use Rattle.reports.proofs.SameIf.{KeysAgree, is_among}

-- ---- how pages are selected

selects : (memory copy : Memory) → IsImage memory → Agree copy memory (lower_key A0) → selecting_in (managed_by (identifier copy)) ≡ Some BankAndPage → (half : Option (List ℕ)) → map.get memory (lower_key A0) ≡ half
    → selecting_on memory A0 ≡ Some BankAndPage
selects memory copy image low by None none =
    ap (λ (half : Option (List ℕ)). unwrap_or (option_map selecting_by (option_map (λ (bytes : List ℕ). slice_index bytes 0) half)) (Some BankAndPage)) none
selects memory copy image low by (Some half) has =
    let id : identifier copy ≡ slice_index half 0 = same_number copy memory (fields.Cmis cmis_fields.Identifier) low refl refl ∙ identifier_is memory half image has in
    selecting_is memory half has ∙ ap (λ (n : ℕ). selecting_in (managed_by n)) (sym id) ∙ by

-- ---- what was read for reports stays with further banks

kept : (from copy : Memory) (region : Region) → HasPage IsLow region → map.get (with_banks from copy) (key_of region) ≡ map.get copy (key_of region)
kept from copy (Lower dev) low = banks_lower dev from copy
kept from copy FirstPage low = banks_beside 0 from copy (omega arith)
kept from copy (Page page) low = banks_beside page from copy (omega (arith, low))

kept_among : (from copy : Memory) (regions : List Region) → AllByRecursion (HasPage IsLow) regions → (key : Key) → is_among (map key_of regions) key ≡ true → map.get (with_banks from copy) key ≡ map.get copy key
kept_among from copy [] low key e = absurd (false≢true e)
kept_among from copy (region ∷ regions) low key e =
    elim (or_cases (eq_by_cmp key_cmp key (key_of region)) (is_among (map key_of regions) key) e) [
      | inl same ↦ subst (λ (k : Key). map.get (with_banks from copy) k ≡ map.get copy k) (sym (keys_are key (key_of region) same)) (kept from copy region low.0)
      | inr later ↦ kept_among from copy regions low.1 key later
    ]

same_asked : (from copy : Memory) → regions_of everything (with_banks from copy) ≡ regions_of everything copy
same_asked from copy = same_regions (with_banks from copy) copy (banks_lower A0 from copy) everything

banks_same : (from copy : Memory) → bank_count (with_banks from copy) ≡ bank_count copy
banks_same from copy = let all = with_banks from copy in same_count all copy (same_half all copy (lower_key A0) (banks_lower A0 from copy)) (same_half all copy (page_key 1) (banks_beside 1 from copy (omega arith)))

all_kept : (from copy memory : Memory) → AllAgree copy memory → AllAgree (with_banks from copy) memory
all_kept from copy memory all =
    subst (λ (regions : List Region). KeysAgree (with_banks from copy) memory (map key_of regions)) (sym (same_asked from copy)) (record { half = half }) where
      half : (key : Key) → is_among (map key_of (regions_of everything copy)) key ≡ true → Agree (with_banks from copy) memory key
      half key among =
          let same = kept_among from copy (regions_of everything copy) (all_low (managed_by (identifier copy)) copy) key among in
          subst (λ (half : Option (List ℕ)). option_map (take (plain key)) half ≡ option_map (take (plain key)) (map.get memory key)) (sym same) (all.half key among)

-- ---- what a fetch comes to

-- what was read agrees with the memory, and has its very bytes of pages from 20h on; a CMIS module selects by bank and page;
-- and the window behind the bus is still one of the memory
pub record IsFetchedOf (memory all : Memory) (new : Seen (List Directive × Windowed)) : Type 0 where
  pub lanes : LanesAgree all memory
  pub pages : (page : ℕ) (bytes : List ℕ) → 0x20 ≤ page → map.get all (page_key page) ≡ Some bytes → map.get memory (page_key page) ≡ Some bytes
  pub by_bank : is_cmis all ≡ true → selecting_on memory A0 ≡ Some BankAndPage
  pub behind : IsOf memory new.state.1

pub still_of : (old new : Seen (List Directive × Windowed)) (memory : Memory) (history : History) → Ran (script_rules window_conduct) old new (reverse history) → IsOf memory old.state.1 → IsOf memory new.state.1
still_of old new memory history ran of =
    subst (λ (state : State). IsOf memory state.1) (sym (ran.state ∙ after_reverse (script_rules window_conduct) old.state history)) (of_after memory old.state history of)

-- the first reading
module _ (old mid : Seen (List Directive × Windowed)) (memory copy : Memory) (image : IsImage memory) (start : old.state.1 ≡ started memory)
    (history : History) (ran : Ran (script_rules window_conduct) old mid (reverse history)) (fetched : AreFetched everything (IsFull mid) history (Ok copy)) where
  all : AllAgree copy memory
  all = fetched_agree old mid history memory copy image start ran fetched

  low : Agree copy memory (lower_key A0)
  low = low_agrees copy memory all

  of_mid : IsOf memory mid.state.1
  of_mid = still_of old mid memory history ran (ap (λ (window : Windowed). window.memory) start)

  no_high : (page : ℕ) (half : Option (List ℕ)) → 0x20 ≤ page → map.get copy (page_key page) ≡ half → half ≡ None
  no_high page None above held = refl
  no_high page (Some bytes) above held =
      let few : page < 0x20 = among_page IsLow page (regions_of everything copy) (all_low (managed_by (identifier copy)) copy) (fetched.answered.only (page_key page) (ap is_some held)) in
      absurd (omega (arith, above, few))

  none : (page : ℕ) → 0x20 ≤ page → map.get copy (page_key page) ≡ None
  none page above = no_high page (map.get copy (page_key page)) above refl

  -- page 01h is among what was asked for of a module of this family
  first_among : (family : Option Family) → managed_by (identifier copy) ≡ family → map.contains_key copy (page_key 1) ≡ true → IsKeyAmong (regions_in everything family copy) (page_key 1)
  first_among family is there = subst (λ (f : Option Family). IsKeyAmong (regions_in everything f copy) (page_key 1)) is (fetched.answered.only (page_key 1) there)

  of_cmis : managed_by (identifier copy) ≡ Some Cmis → selecting_on memory A0 ≡ Some BankAndPage
  of_cmis cmis = selects memory copy image low (ap selecting_in cmis) (map.get memory (lower_key A0)) refl

  -- the second one, of further banks
  module _ (new : Seen (List Directive × Windowed)) (from : Memory) (count : ℕ) (later : History) (ran_on : Ran (script_rules window_conduct) mid new (reverse later))
      (read : AreFetched (of_banks count) (IsFull new) later (Ok from)) (cmis : managed_by (identifier copy) ≡ Some Cmis) (first : map.contains_key copy (page_key 1) ≡ true) where
    may : May mid.state later
    may = may_each (script_rules window_conduct) mid.state later ran_on.allowed

    low_from : Agree from memory (lower_key A0)
    low_from = low_settled memory from mid.state later image of_mid may (of_banks count) read.answered

    family : managed_by (identifier from) ≡ Some Cmis
    family = ap managed_by (same_number from memory (fields.Cmis cmis_fields.Identifier) low_from refl refl ∙ sym (same_number copy memory (fields.Cmis cmis_fields.Identifier) low refl refl)) ∙ cmis

    flat : is_flat from ≡ false
    flat = ap (λ (n : ℕ). n == 1) (same_number from memory (fields.Cmis cmis_fields.FlatMemory) low_from refl refl ∙ sym (same_number copy memory (fields.Cmis cmis_fields.FlatMemory) low refl refl)) ∙ has_pages copy (first_among (Some Cmis) cmis first)

    asked_for : regions_of (of_banks count) from ≡ family_regions (of_banks count) Cmis false
    asked_for = ap (λ (family : Option Family). regions_in (of_banks count) family from) family ∙ ap (family_regions (of_banks count) Cmis) flat

    paged : (page : ℕ) → IsPaged memory (addressing_of from) page mid.state.1
    paged page =
        subst (λ (by : PageAddressing). IsPaged memory by page mid.state.1) (sym (ap addressing_in family))
        (record { selecting = of_cmis cmis; sound = record { memory_is = of_mid; bank = tt }; selectable = tt })

    each : AllByRecursion (IsSettled false later from) (family_regions (of_banks count) Cmis false)
    each = subst (AllByRecursion (IsSettled false later from)) asked_for read.answered.each

    put_agrees : (page : ℕ) → map.get (with_banks from copy) (page_key page) ≡ map.get from (page_key page) → IsSettled false later from (Page page) → Agree (with_banks from copy) memory (page_key page)
    put_agrees page there settled = ap (option_map (take 128)) there ∙ agrees_settled memory from mid.state later image of_mid may (Page page) (paged page) settled

    lanes_at : (bank : ℕ) → 1 ≤ bank → bank < count → count ≤ 4 → Agree (with_banks from copy) memory (upper_key A0 bank 0x11)
    lanes_at zero above below few = absurd (omega (arith, above))
    lanes_at (suc zero) above below few =
        put_agrees 0x111 (first_bank from copy none) (asks_first (IsSettled false later from) (nat_lt 3 count) (nat_lt 2 count) (nat_lt 1 count) (lt-ltb 1 count below) each)
    lanes_at (suc (suc zero)) above below few =
        put_agrees 0x211 (second_bank from copy none) (asks_second (IsSettled false later from) (nat_lt 3 count) (nat_lt 2 count) (nat_lt 1 count) (lt-ltb 2 count below) each)
    lanes_at (suc (suc (suc zero))) above below few =
        put_agrees 0x311 (third_bank from copy none) (asks_third (IsSettled false later from) (nat_lt 3 count) (nat_lt 2 count) (nat_lt 1 count) (lt-ltb 3 count below) each)
    lanes_at (suc (suc (suc (suc bank)))) above below few = absurd (omega (arith, below, few))

    put_pages : (page : ℕ) (bytes : List ℕ) → 0x20 ≤ page → map.get (with_banks from copy) (page_key page) ≡ Some bytes → map.get memory (page_key page) ≡ Some bytes
    put_pages page bytes above held =
        elim (banks_either page bytes from copy held) [
          | inl there ↦ has_settled memory from mid.state later image of_mid may page bytes (paged page)
              (among_regions (IsSettled false later from) page (regions_of (of_banks count) from) (omega (arith, above)) read.answered.each (read.answered.only (page_key page) (ap is_some there))) there
          | inr earlier ↦ absurd (let never : Some bytes ≡ None = sym earlier ∙ none page above in cc)
        ]

  -- ---- with or without it

  fetched_by : (new : Seen (List Directive × Windowed)) (result : Memory) (more : Bool) → nat_lt 1 (bank_count copy) ≡ more → AreBanksRead more (script_rules window_conduct) mid new copy (Ok result) → IsFetchedOf memory result new
  fetched_by new result false e (unchanged, answer) =
      let result_is : copy ≡ result = cc in
      subst (λ (m : Memory). IsFetchedOf memory m new) result_is (record {
        lanes = record { all = all; banks = λ bank above below. absurd (let few : bank_count copy ≤ 1 = ltb-false 1 (bank_count copy) e in omega (arith, above, below, few)) };
        pages = λ page bytes above held. absurd (let never : Some bytes ≡ None = sym held ∙ none page above in cc);
        by_bank = λ is. of_cmis (found_cmis (managed_by (identifier copy)) is);
        behind = subst (λ (seen : Seen (List Directive × Windowed)). IsOf memory seen.state.1) (sym unchanged) of_mid;
      })
  fetched_by new result true e (Err fault, made, joins) = absurd cc
  fetched_by new result true e (Ok from, (later, ran_on, read), joins) =
      let result_is : with_banks from copy ≡ result = cc in
      let (is, first) = has_first copy e in
      let cmis = found_cmis (managed_by (identifier copy)) is in
      subst (λ (m : Memory). IsFetchedOf memory m new) result_is (record {
        lanes = record {
          all = all_kept from copy memory all;
          banks = λ bank above below.
              lanes_at new from (bank_count copy) later ran_on read cmis first bank above (subst (λ (n : ℕ). bank < n) (banks_same from copy) below) (few_banks copy);
        };
        pages = put_pages new from (bank_count copy) later ran_on read cmis first;
        by_bank = λ is. of_cmis cmis;
        behind = still_of mid new memory later ran_on of_mid;
      })

-- what is fetched over a scripted bus with a new window
pub fetched_is : (old new : Seen (List Directive × Windowed)) (memory all : Memory) → IsImage memory → old.state.1 ≡ started memory → IsFetching (script_rules window_conduct) old new (Ok all) → IsFetchedOf memory all new
fetched_is old new memory all image start (inl (fault, refused, made)) = absurd cc
fetched_is old new memory all image start (inr (mid, copy, (history, ran, fetched), banks)) =
    fetched_by old mid memory copy image start history ran fetched new all (nat_lt 1 (bank_count copy)) refl banks

pub fetched_lanes : (old new : Seen (List Directive × Windowed)) (memory all : Memory) → IsImage memory → old.state.1 ≡ started memory → IsFetching (script_rules window_conduct) old new (Ok all) → LanesAgree all memory
fetched_lanes old new memory all image start fetching = (fetched_is old new memory all image start fetching).lanes

-- and a page from 20h on, such as one of a further bank, has the image's very bytes
pub fetched_pages : (old new : Seen (List Directive × Windowed)) (memory all : Memory) → IsImage memory → old.state.1 ≡ started memory → IsFetching (script_rules window_conduct) old new (Ok all)
    → (page : ℕ) (bytes : List ℕ) → 0x20 ≤ page → map.get all (page_key page) ≡ Some bytes → map.get memory (page_key page) ≡ Some bytes
fetched_pages old new memory all image start fetching = (fetched_is old new memory all image start fetching).pages
