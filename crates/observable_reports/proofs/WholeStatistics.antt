-- The statistics that are read of an image over a bus without a script are all that it advertises.
use Rattle.std.proofs.Common.{◌≡◌, ◌∙◌, ℕ, ◌+◌, ◌-◌, ◌*◌, ◌≤◌, ◌<◌, ◌/◌, ◌%◌, ◌==◌, ◌&&◌, Bool, true, false, nat_lt, List, [], ◌∷◌, Option, Some, None, Ok, is_some, refl, sym, ap, inl, inr, if◌then◌else◌, arith}
use Rattle.std.proofs.lemmas.Bool.{le-ltb}
use Rattle.std.specs.Prelude.{option_and_then, option_map, pos, unsigned_abs, unwrap_or}
use Rattle.std.specs.FinMap as map
use Rattle.bus_model.specs.declared.device.Dev.TheVariants.{A0}
use Rattle.bus_model.specs.declared.script.Directive.{Directive}
use Rattle.bus_model.specs.ScriptedBus.{script_rules}
use Rattle.field_tables.specs.declared.field.Field.TheVariants as fields
use Rattle.field_tables.specs.declared.table.cmis.CmisField.TheVariants as cmis_fields
use Rattle.field_tables.specs.FieldValues.{value_in}
use Rattle.field_tables.specs.Readings.{number, reading_at}
use Rattle.field_tables.proofs.SameValues.{same_number}
use Rattle.module_decoding.specs.CmisPages.{is_flat}
use Rattle.observables.specs.declared.descriptor.Descriptor.{Descriptor}
use Rattle.observables.specs.declared.instance.Instance.{Instance}
use Rattle.observables.specs.declared.observation.Observation.{Observation}
use Rattle.observables.specs.Banks.{bank_count, statistics_banks}
use Rattle.observables.specs.Descriptors.{descriptor_of}
use Rattle.observables.specs.Instances.{descriptor_at, instance_at}
use Rattle.observables.specs.Limits.{flags_in, limits_in}
use Rattle.observables.specs.Observables.{observable_of}
use Rattle.observables.specs.Observations.{all_places, decoded, monitor_places, observation_at, observed, with_instance}
use Rattle.observables.specs.Pages.{has_observables, is_cmis}
use Rattle.observables.specs.Words.{page_of, word_in}
use Rattle.paged_memory.specs.declared.family.Family.{Family}
use Rattle.paged_memory.specs.declared.family.Family.TheVariants.{Cmis, Sff8636, Sff8472}
use Rattle.paged_memory.specs.declared.key.Key.{Key}
use Rattle.paged_memory.specs.Families.{is_family, managed_by}
use Rattle.paged_memory.specs.Images.{Memory}
use Rattle.paged_memory.specs.ImageText.{IsImage}
use Rattle.paged_memory.specs.Keys.{lower_key, page_key, upper_key}
use Rattle.paged_memory.specs.Windows.{Windowed, started, window_conduct}
use Rattle.reports.specs.FetchedImages.{AreBanksRead, IsFetching}
use Rattle.reports.proofs.BesideFetched.{first_agrees, lanes_beside, offered_same}
use Rattle.reports.proofs.FetchedLanes.{fetched_is}
use Rattle.reports.proofs.FetchedReports.{lanes_reports}
use Rattle.reports.proofs.SameBanks.{same_count}
use Rattle.reports.proofs.SameFamilies.{LanesAgree, low_agrees}
use Rattle.vdm_reading.specs.BankPages.{bank_pages, groups_page}
use Rattle.vdm_reading.specs.VdmAccounts.{IsAmong}
use Rattle.vdm_reading.specs.VdmStages.{key_of}
use Rattle.observable_reports.specs.FetchedObservables.{IsObserving}
use Rattle.observable_reports.specs.SameStatistics.{AdvertisedRead, HasOwnStatistics, IsAdvertised, IsStatistics, ObservedReportsSame, StatisticsWhole}
use Rattle.observable_reports.proofs.BankReadings.{SeenWindow, ran_unscripted}
use Rattle.observable_reports.proofs.WindowStatistics.{statistics_of, statistics_same}

-- ---- no script is left after a fetch

banks_unscripted : (mid new : SeenWindow) (copy memory : Memory) (more : Bool) → AreBanksRead more (script_rules window_conduct) mid new copy (Ok memory) → mid.state.0 ≡ [] → new.state.0 ≡ []
banks_unscripted mid new copy memory false (unchanged, answer) none = ap (λ (seen : SeenWindow). seen.state.0) unchanged ∙ none
banks_unscripted mid new copy memory true (answer, (later, ran, is), joins) none = ran_unscripted mid new later ran none

fetch_unscripted : (old new : SeenWindow) (memory : Memory) → IsFetching (script_rules window_conduct) old new (Ok memory) → old.state.0 ≡ [] → new.state.0 ≡ []
fetch_unscripted old new memory (inl (fault, answer, made)) none = absurd cc
fetch_unscripted old new memory (inr (mid, copy, (history, ran, is), banks)) none = banks_unscripted mid new copy memory (nat_lt 1 (bank_count copy)) banks (ran_unscripted old mid history ran none)

-- ---- what the readings have, besides what was fetched before them

-- what was read agrees with the memory in the halves that are read for reports
pub observed_lanes : (old new : SeenWindow) (memory all : Memory) → IsImage memory → old.state.1 ≡ started memory → IsObserving (script_rules window_conduct) old new (Ok all) → LanesAgree all memory
observed_lanes old new memory all image start (inl (fault, refused, fetched)) = absurd cc
observed_lanes old new memory all image start (inr (mid, before, fetched, read_so)) =
    let is_fetched = fetched_is old mid memory before image start fetched in
    lanes_beside all before (statistics_of memory before image mid is_fetched new all read_so).low memory is_fetched.lanes

pub observed_reports : ObservedReportsSame
observed_reports old new memory all image start observing = lanes_reports all memory (observed_lanes old new memory all image start observing)

-- if statistics are offered, all that are advertised are read
abbrev IsWhole : Memory → Memory → Memory → Type 0
IsWhole memory before all =
    map.contains_key memory (lower_key A0) ≡ true → has_observables memory ≡ true → (bank : ℕ) → bank < statistics_banks before → (page : ℕ) (bytes : List ℕ) → 0x20 ≤ page
    → IsAmong page (groups_page bank ∷ bank_pages memory bank) → map.get memory (key_of page) ≡ Some bytes → map.get all (key_of page) ≡ Some bytes

-- ---- the memory's lower half

cmis_is : (family : Option Family) → is_family Cmis family ≡ true → family ≡ Some Cmis
cmis_is (Some Cmis) e = refl
cmis_is (Some Sff8636) e = absurd cc
cmis_is (Some Sff8472) e = absurd cc
cmis_is None e = absurd cc

no_family : managed_by 0 ≡ Some Cmis → ⊥
unfolding managed_by
no_family e = absurd (let clash : None ≡ Some Cmis = e in cc)

lower_there : (memory : Memory) → managed_by (number memory (fields.Cmis cmis_fields.Identifier)) ≡ Some Cmis → map.contains_key memory (lower_key A0) ≡ true
unfolding reading_at
lower_there memory managed = by (map.get memory (lower_key A0)) refl where
  by : (half : Option (List ℕ)) → map.get memory (lower_key A0) ≡ half → is_some (map.get memory (lower_key A0)) ≡ true
  by (Some half) e = ap is_some e
  by None e =
      let zero_is : number memory (fields.Cmis cmis_fields.Identifier) ≡ 0 = ap (λ (half : Option (List ℕ)). unsigned_abs (unwrap_or (option_map (λ (bytes : List ℕ). value_in bytes (fields.Cmis cmis_fields.Identifier) 1) half) (pos 0))) e in
      absurd (no_family (ap managed_by (sym zero_is) ∙ managed))

-- ---- what a module lists itself

page_number : (bank page : ℕ) → page < 256 → page_key (256 * bank + page) ≡ upper_key A0 bank page
page_number bank page below =
    let of : (256 * bank + page) / 256 ≡ bank = omega (arith, below) in
    let at : (256 * bank + page) % 256 ≡ page = omega (arith, below) in
    λ i. upper_key A0 (of i) (at i)

-- an instance with its observation, by whether statistics are advertised
abbrev decoded_by : Memory → ℕ → Bool → Option Instance → Option Observation
decoded_by memory bank offered found =
    option_and_then (λ (instance : Instance). option_map (λ observable. record (with_instance memory bank instance observable) { advertised = offered }) (observable_of instance.descriptor.kind)) found

-- the instance that these pages have: of descriptors, samples, limits and flags
abbrev instance_from : ℕ → Option (List ℕ) → Option (List ℕ) → Option (List ℕ) → Option (List ℕ) → Option Instance
instance_from n described samples limits flags =
    option_map (λ (descriptor : Descriptor). record {
      number = n;
      descriptor = descriptor;
      sample = option_map (λ (bytes : List ℕ). word_in bytes (128 + 2 * (n % 64))) samples;
      limits = option_map (λ (bytes : List ℕ). limits_in bytes descriptor.set) limits;
      flags = option_map (λ (bytes : List ℕ). flags_in bytes n) flags;
    }) (option_and_then (λ (word : ℕ). descriptor_of (word / 256) (word % 256)) (option_map (λ (bytes : List ℕ). word_in bytes (128 + 2 * (n % 64))) described))

instance_is : (memory : Memory) (bank n : ℕ) → instance_at memory bank n ≡ instance_from n (page_of memory bank (0x20 + n / 64)) (page_of memory bank (0x24 + n / 64)) (page_of memory bank (0x28 + n / 64)) (page_of memory bank 0x2C)
unfolding instance_at descriptor_at
instance_is memory bank n = refl

pub no_instance : (memory : Memory) (bank n : ℕ) → page_of memory bank (0x20 + n / 64) ≡ None → instance_at memory bank n ≡ None
no_instance memory bank n none =
    instance_is memory bank n
    ∙ ap (λ (half : Option (List ℕ)). instance_from n half (page_of memory bank (0x24 + n / 64)) (page_of memory bank (0x28 + n / 64)) (page_of memory bank 0x2C)) none

-- a page that is advertised is read if it is there
module _ (memory before all : Memory) (lanes : LanesAgree before memory) (read : IsWhole memory before all) (managed : managed_by (number memory (fields.Cmis cmis_fields.Identifier)) ≡ Some Cmis) where
  id_before : managed_by (number before (fields.Cmis cmis_fields.Identifier)) ≡ Some Cmis
  id_before = ap managed_by (same_number before memory (fields.Cmis cmis_fields.Identifier) (low_agrees before memory lanes.all) refl refl) ∙ managed

  flat_before : is_flat memory ≡ false → is_flat before ≡ false
  flat_before flat = ap (λ (n : ℕ). n == 1) (same_number before memory (fields.Cmis cmis_fields.FlatMemory) (low_agrees before memory lanes.all) refl refl) ∙ flat

  there_too : (page : ℕ) (bytes : List ℕ) → 0x20 ≤ page → IsAdvertised memory page → map.get memory (key_of page) ≡ Some bytes → map.get all (key_of page) ≡ Some bytes
  there_too page bytes above advert there =
      let first = first_agrees before memory lanes.all id_before (flat_before advert.paged) in
      let offered : has_observables before ≡ true = offered_same before memory first ∙ advert.offered in
      let cmis : is_cmis before ≡ true = ap (is_family Cmis) id_before in
      let count : statistics_banks before ≡ bank_count memory = (λ i. if cmis i && offered i then bank_count before else 0) ∙ same_count before memory (low_agrees before memory lanes.all) first in
      let few = advert.banked in
      read (lower_there memory managed) advert.offered (page / 256) (omega (arith, count, few)) page bytes above advert.listed there

module _ (memory before all : Memory) (own : HasOwnStatistics memory) (lanes : LanesAgree before memory) (all_lanes : LanesAgree all memory) (read : IsWhole memory before all)
    (within : (page : ℕ) (bytes : List ℕ) → 0x20 ≤ page → map.get all (key_of page) ≡ Some bytes → map.get memory (key_of page) ≡ Some bytes)
    (managed : managed_by (number memory (fields.Cmis cmis_fields.Identifier)) ≡ Some Cmis) where
  id_all : managed_by (number all (fields.Cmis cmis_fields.Identifier)) ≡ Some Cmis
  id_all = ap managed_by (same_number all memory (fields.Cmis cmis_fields.Identifier) (low_agrees all memory all_lanes.all) refl refl) ∙ managed

  flat_all : is_flat memory ≡ false → is_flat all ≡ false
  flat_all flat = ap (λ (n : ℕ). n == 1) (same_number all memory (fields.Cmis cmis_fields.FlatMemory) (low_agrees all memory all_lanes.all) refl refl) ∙ flat

  advertised : (page : ℕ) (bytes : List ℕ) → IsStatistics page → map.get memory (key_of page) ≡ Some bytes → IsAdvertised memory page
  advertised page bytes is there = own (ap (is_family Cmis) managed) page bytes is there

  -- each of these pages is read if it is there
  page_same : (page : ℕ) → IsStatistics page → map.get all (key_of page) ≡ map.get memory (key_of page)
  page_same page is = by (map.get all (key_of page)) (map.get memory (key_of page)) refl refl
    where
      above : 0x20 ≤ page
      above = omega (arith, is.0)

      by : (one other : Option (List ℕ)) → map.get all (key_of page) ≡ one → map.get memory (key_of page) ≡ other → one ≡ other
      by None None held there = refl
      by (Some bytes) other held there = sym (within page bytes above held) ∙ there
      by None (Some bytes) held there = sym held ∙ there_too memory before all lanes read managed page bytes above (advertised page bytes is there) there

  banked : (bank page : ℕ) → 0x20 ≤ page → page < 0x30 → page_of all bank page ≡ page_of memory bank page
  banked bank page above below =
      let key = page_number bank page (omega (arith, below)) in
      let number : (256 * bank + page) % 256 ≡ page = omega (arith, below) in
      ap (λ (k : Key). map.get all k) (sym key) ∙ page_same (256 * bank + page) (omega (arith, above, number), omega (arith, below, number)) ∙ ap (λ (k : Key). map.get memory k) key

  module _ (bank n : ℕ) (few : n < 256) where
    instance_same : instance_at all bank n ≡ instance_at memory bank n
    instance_same =
        let described = banked bank (0x20 + n / 64) (omega arith) (omega (arith, few)) in
        let samples = banked bank (0x24 + n / 64) (omega arith) (omega (arith, few)) in
        let limits = banked bank (0x28 + n / 64) (omega arith) (omega (arith, few)) in
        let flags = banked bank 0x2C (omega arith) (omega arith) in
        instance_is all bank n ∙ (λ i. instance_from n (described i) (samples i) (limits i) (flags i)) ∙ sym (instance_is memory bank n)

    -- where there is an instance, its page is advertised
    offered_by : (found : Option Instance) → instance_at memory bank n ≡ found → decoded_by memory bank (has_observables all) found ≡ decoded_by memory bank (has_observables memory) found
    offered_by None is = refl
    offered_by (Some instance) is = by (page_of memory bank (0x20 + n / 64)) refl
      where
        by : (half : Option (List ℕ)) → page_of memory bank (0x20 + n / 64) ≡ half → decoded_by memory bank (has_observables all) (Some instance) ≡ decoded_by memory bank (has_observables memory) (Some instance)
        by None none = absurd (let clash : Some instance ≡ None = sym is ∙ no_instance memory bank n none in cc)
        by (Some bytes) there =
            let key = page_number bank (0x20 + n / 64) (omega (arith, few)) in
            let advert = advertised (256 * bank + (0x20 + n / 64)) bytes (omega (arith, few), omega (arith, few)) (ap (λ (k : Key). map.get memory k) key ∙ there) in
            let offered = offered_same all memory (first_agrees all memory all_lanes.all id_all (flat_all advert.paged)) in
            ap (λ (has : Bool). decoded_by memory bank has (Some instance)) offered

    decoded_same : decoded all bank n ≡ decoded memory bank n
    decoded_same = ap (decoded_by memory bank (has_observables all)) instance_same ∙ offered_by (instance_at memory bank n) refl

module _ (memory before all : Memory) (own : HasOwnStatistics memory) (lanes : LanesAgree before memory) (all_lanes : LanesAgree all memory) (read : IsWhole memory before all)
    (within : (page : ℕ) (bytes : List ℕ) → 0x20 ≤ page → map.get all (key_of page) ≡ Some bytes → map.get memory (key_of page) ≡ Some bytes) where
  observed_same : (bank n : ℕ) → n < 256 → observed all bank n ≡ observed memory bank n
  observed_same bank n few =
      ap (λ (id : ℕ). if is_family Cmis (managed_by id) then decoded all bank n else None) (same_number all memory (fields.Cmis cmis_fields.Identifier) (low_agrees all memory all_lanes.all) refl refl)
      ∙ by (is_family Cmis (managed_by (number memory (fields.Cmis cmis_fields.Identifier)))) refl
    where
      by : (cmis : Bool) → is_family Cmis (managed_by (number memory (fields.Cmis cmis_fields.Identifier))) ≡ cmis → (if cmis then decoded all bank n else None) ≡ (if cmis then decoded memory bank n else None)
      by true e = decoded_same memory before all own lanes all_lanes read within (cmis_is (managed_by (number memory (fields.Cmis cmis_fields.Identifier))) e) bank n few
      by false e = refl

  listed_same : (place : ℕ) → monitor_places ≤ place → observation_at all place ≡ observation_at memory place
  unfolding observation_at
  listed_same place above =
      let later : nat_lt place monitor_places ≡ false = le-ltb place monitor_places above in
      let same = observed_same ((place - monitor_places) / 256) ((place - monitor_places) % 256) (omega arith) in
      sides (nat_lt place monitor_places) later _ _ _ _ (ap (λ (seen : Option Observation). if nat_lt place all_places then seen else None) same)
    where
      sides : (monitor : Bool) → monitor ≡ false → (x y u v : Option Observation) → u ≡ v → (if monitor then x else u) ≡ (if monitor then y else v)
      sides true e x y u v same = absurd cc
      sides false e x y u v same = same

-- ---- the whole

-- what was read of an image without a script
record IsReadWhole (memory all : Memory) : Type 0 where
  pub before : Memory
  pub lanes : LanesAgree before memory
  pub all_lanes : LanesAgree all memory
  pub read : IsWhole memory before all
  pub within : (page : ℕ) (bytes : List ℕ) → 0x20 ≤ page → map.get all (key_of page) ≡ Some bytes → map.get memory (key_of page) ≡ Some bytes

read_whole : (old new : SeenWindow) (memory all : Memory) → IsImage memory → old.state ≡ ([], started memory) → IsObserving (script_rules window_conduct) old new (Ok all) → IsReadWhole memory all
read_whole old new memory all image start (inl (fault, refused, fetched)) = absurd cc
read_whole old new memory all image start (inr (mid, before, fetched, read_so)) =
    let window : old.state.1 ≡ started memory = ap (λ (state : List Directive × Windowed). state.1) start in
    let is_fetched = fetched_is old mid memory before image window fetched in
    let none = fetch_unscripted old mid before fetched (ap (λ (state : List Directive × Windowed). state.0) start) in
    let observing : IsObserving (script_rules window_conduct) old new (Ok all) = inr (mid, before, fetched, read_so) in
    record {
      before = before;
      lanes = is_fetched.lanes;
      all_lanes = observed_lanes old new memory all image window observing;
      read = (statistics_of memory before image mid is_fetched new all read_so).whole none;
      within = λ page bytes high there. statistics_same old new memory all image window observing page bytes high there;
    }

pub advertised_read : AdvertisedRead
advertised_read old new memory all image start observing cmis page bytes is advert there =
    let it = read_whole old new memory all image start observing in
    there_too memory it.before all it.lanes it.read (cmis_is (managed_by (number memory (fields.Cmis cmis_fields.Identifier))) cmis) page bytes (omega (arith, is.0)) advert there

pub whole_read : StatisticsWhole
whole_read old new memory all image own start observing place above =
    let it = read_whole old new memory all image start observing in
    listed_same memory it.before all own it.lanes it.all_lanes it.read it.within place above

-- so is each of their pages
pub whole_pages : (old new : SeenWindow) (memory all : Memory) → IsImage memory → HasOwnStatistics memory → old.state ≡ ([], started memory) → IsObserving (script_rules window_conduct) old new (Ok all)
    → managed_by (number memory (fields.Cmis cmis_fields.Identifier)) ≡ Some Cmis → (bank page : ℕ) → 0x20 ≤ page → page < 0x30 → page_of all bank page ≡ page_of memory bank page
whole_pages old new memory all image own start observing managed bank page above below =
    let it = read_whole old new memory all image start observing in
    banked memory it.before all own it.lanes it.all_lanes it.read it.within managed bank page above below
