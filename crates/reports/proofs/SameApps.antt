-- What two memories say of the Applications of a module is the same if it is read of halves of which both agree.
use Rattle.std.proofs.Common.{◌≡◌, ◌∙◌, ◌-◌, ◌&&◌, ℕ, Bool, true, false, cond, List, [], ◌∷◌, ◌++◌, map, refl, sym, ap, if◌then◌else◌, nat_le}
use Rattle.std.proofs.lemmas.Bool.{and_parts, cond_both}
use Rattle.std.proofs.lemmas.List.Sums.{take_while-cons}
use Rattle.std.specs.Prelude.{is_some, nat_lt, not, take_while}
use Rattle.std.specs.List.{flat_map, list_all, range_with_len}
use Rattle.paged_memory.specs.Images.{Memory}
use Rattle.paged_memory.specs.declared.key.Key.{Key}
use Rattle.field_tables.specs.declared.field.Field.TheVariants as fields
use Rattle.field_tables.specs.declared.table.cmis.CmisField.{CmisField}
use Rattle.field_tables.specs.declared.table.cmis.CmisField.TheVariants as cmis
use Rattle.field_tables.specs.LaneSets.{lanes_in}
use Rattle.field_tables.specs.Readings.{number}
use Rattle.applications.specs.declared.app.App.{App}
use Rattle.applications.specs.ActiveSets.{nothing_active}
use Rattle.applications.specs.Advertised.{advertised_by}
use Rattle.applications.specs.Descriptors.{app_at, apps_of, described, is_listed}
use Rattle.applications.specs.Refusals.{page_fault, page_reasons}
use Rattle.module_details.specs.AppDetails.{app_entries, app_entry, host_entry, interface_entries, lane_entries, medium_entry, start_entries}
use Rattle.report_entries.specs.Entries.{Entry}
use Rattle.reports.proofs.SameIf.{KeysAgree, SameIf, always, by, by_two, choice, either, mapped, number_read, pair, refusal_same}

-- but for the media lanes where paths may begin, which page 01h has
abbrev without_starts : App → App
without_starts app = record app { media_starts = lanes_in 0 }

abbrev pub details_of : Memory → Bool → List Entry
details_of memory flat = if not flat && is_some (page_fault memory) then [] else flat_map (app_entries flat (number memory (fields.Cmis cmis.MediaType))) (apps_of memory)

-- ---- what is said of descriptors of flat memory

abbrev entries_of_apps : Memory → List ℕ → List Entry
entries_of_apps memory [] = []
entries_of_apps memory (n ∷ ns) = cond (is_listed (app_at memory n)) (app_entries true (number memory (fields.Cmis cmis.MediaType)) (app_at memory n) ++ entries_of_apps memory ns) []

pub entries_are : (memory : Memory) (ns : List ℕ) → flat_map (app_entries true (number memory (fields.Cmis cmis.MediaType))) (take_while is_listed (map (app_at memory) ns)) ≡ entries_of_apps memory ns
entries_are memory [] = refl
entries_are memory (n ∷ ns) =
    ap (flat_map entries) (take_while-cons is_listed (app_at memory n) (map (app_at memory) ns)) ∙ by (is_listed (app_at memory n)) (entries_are memory ns) where
      entries : App → List Entry
      entries = app_entries true (number memory (fields.Cmis cmis.MediaType))

      by : (listed : Bool) → flat_map entries (take_while is_listed (map (app_at memory) ns)) ≡ entries_of_apps memory ns → flat_map entries (cond listed (app_at memory n ∷ take_while is_listed (map (app_at memory) ns)) []) ≡ cond listed (entries (app_at memory n) ++ entries_of_apps memory ns) []
      by true later = ap (λ (rest : List Entry). entries (app_at memory n) ++ rest) later
      by false later = refl

-- beyond the eighth nothing is said
pub no_entries : (memory : Memory) (ns : List ℕ) → list_all (nat_lt 8) ns ≡ true → entries_of_apps memory ns ≡ []
unfolding app_entries app_at
no_entries memory [] far = refl
no_entries memory (n ∷ ns) far =
    let media = number memory (fields.Cmis cmis.MediaType) in
    let parts = and_parts _ _ far in
    let here = ap (λ (far : Bool). if far then [] else interface_entries media (app_at memory n) ++ (lane_entries (app_at memory n) ++ start_entries true (app_at memory n))) parts.0 in
    (λ i. cond (is_listed (app_at memory n)) (here i ++ no_entries memory ns parts.1 i) [])
    ∙ cond_both (is_listed (app_at memory n)) [] [] (λ (entries : List Entry). entries ≡ []) (λ is. refl) (λ not. refl)

-- ---- the descriptors

module _ {a b : Memory} {keys : List Key} (agree : KeysAgree a b keys) where
  abbrev column_same : (first more : CmisField) (n : ℕ) → SameIf (described a first more n) (described b first more n)
  column_same first more n = choice (nat_le n 8) (number_read agree (fields.Cmis first) n) (number_read agree (fields.Cmis more) (n - 8))

  abbrev described_same : (n : ℕ) → SameIf (without_starts (app_at a n)) (without_starts (app_at b n))
  unfolding app_at
  described_same n =
      let ids = pair (column_same cmis.AppHost cmis.AppHostMore n) (column_same cmis.AppMedia cmis.AppMediaMore n) in
      let lanes = pair (column_same cmis.AppHostLanes cmis.AppHostLanesMore n) (column_same cmis.AppMediaLanes cmis.AppMediaLanesMore n) in
      by_two (λ (ids : ℕ × ℕ) (more : (ℕ × ℕ) × ℕ). record {
        number = n;
        host_id = ids.0;
        media_id = ids.1;
        host_lanes = more.0.0;
        media_lanes = more.0.1;
        host_starts = lanes_in more.1;
        media_starts = lanes_in 0;
      }) ids (pair lanes (column_same cmis.AppHostStarts cmis.AppHostStartsMore n))

  abbrev apps_same : SameIf (apps_of a) (apps_of b)
  unfolding apps_of described_same
  apps_same =
      by (take_while is_listed) (mapped (app_at a) (app_at b)
      (λ n. by_two (λ (app : App) (starts : ℕ). record app { media_starts = lanes_in starts }) (described_same n) (number_read agree (fields.Cmis cmis.MediaStarts) n)) (range_with_len 1 15))

  abbrev entries_same : (ns : List ℕ) → SameIf (entries_of_apps a ns) (entries_of_apps b ns)
  unfolding described_same app_entries interface_entries host_entry medium_entry lane_entries start_entries app_entry
  entries_same [] = always []
  entries_same (n ∷ ns) =
      if nat_le n 8 then
      by_two (λ (it : ℕ × App) later. cond (is_listed it.1) (app_entries true it.0 it.1 ++ later) []) (pair (number_read agree (fields.Cmis cmis.MediaType) 1) (described_same n)) (entries_same ns)
      else record { test = list_all (nat_lt 8) (n ∷ ns); same = λ far. no_entries a (n ∷ ns) far ∙ sym (no_entries b (n ∷ ns) far) }

  -- ---- what is said of them

  unfoldable pub advertised_same : SameIf (advertised_by a) (advertised_by b)
  unfolding apps_same
  advertised_same =
      by_two (λ apps unsupported. record { apps = apps; unsupported = lanes_in unsupported; paired = false; active = nothing_active }) apps_same (number_read agree (fields.Cmis cmis.UnsupportedMedia) 1)

  -- in details, of memory that is flat or not
  unfoldable pub details_same : (flat : Bool) → SameIf (details_of a flat) (details_of b flat)
  unfolding apps_of apps_same entries_same
  details_same true =
      let same_entries = entries_same (range_with_len 1 15) in
      record { test = same_entries.test; same = λ e. entries_are a (range_with_len 1 15) ∙ same_entries.same e ∙ sym (entries_are b (range_with_len 1 15)) }
  details_same false =
      either (by is_some (refusal_same agree page_reasons)) (always []) (by_two (λ media apps. flat_map (app_entries false media) apps) (number_read agree (fields.Cmis cmis.MediaType) 1) apps_same)
