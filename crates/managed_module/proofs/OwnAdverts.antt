-- What is read of a module's Applications in an image with its lower half and pages 00h and 01h is what the module advertises, but for what
-- is active.
use Rattle.std.proofs.Common.{◌≡◌, ℕ, zero, suc, ◌+◌, ◌-◌, ◌≤◌, ◌==◌, ◌&&◌, nat_le, not, Bool, true, false, List, [], ◌∷◌, ◌++◌, map, take_while, Option, Some, None, is_some, refl, sym, ap, ◌∙◌, if◌then◌else◌, arith}
use Rattle.std.specs.Prelude.{option_map, unwrap_or}
use Rattle.std.specs.FinMap as finmap
use Rattle.std.specs.List.{list_all, range_with_len}
use Rattle.std.specs.Option.{option_or}
use Rattle.std.proofs.lemmas.Bool.{and_parts, leb-true, not-false, not-true}
use Rattle.bus_model.specs.declared.device.Dev.TheVariants.{A0}
use Rattle.field_tables.specs.declared.field.Field.{Field}
use Rattle.field_tables.specs.declared.field.Field.TheVariants as fields
use Rattle.field_tables.specs.declared.table.cmis.CmisField.{CmisField}
use Rattle.field_tables.specs.declared.table.cmis.CmisField.TheVariants as cmis_fields
use Rattle.field_tables.specs.declared.field.Sum.{Sum}
use Rattle.field_tables.specs.declared.field.Sum.TheVariants as sums
use Rattle.field_tables.specs.declared.field.CmisSum.TheVariants as cmis_sums
use Rattle.field_tables.specs.FieldValues.{field_key}
use Rattle.field_tables.specs.FirstFault.{first_fault}
use Rattle.field_tables.specs.Halves.{is_absent}
use Rattle.field_tables.specs.LaneSets.{lanes_in}
use Rattle.field_tables.specs.Readings.{number, number_at}
use Rattle.field_tables.specs.Reasons.{Reason, judged, refused_by}
use Rattle.field_tables.specs.Sums.{sum_matches, sum_row}
use Rattle.field_tables.proofs.TrueTests.{in_range}
use Rattle.paged_memory.specs.declared.family.Family.{Family}
use Rattle.paged_memory.specs.declared.family.Family.TheVariants.{Cmis}
use Rattle.paged_memory.specs.declared.key.Key.{Key}
use Rattle.paged_memory.specs.Families.{family_by, is_family, is_of, is_other_cmis, managed_by}
use Rattle.paged_memory.specs.Images.{Memory}
use Rattle.paged_memory.specs.Keys.{lower_key, upper_key}
use Rattle.applications.specs.declared.conventions.Conventions.{Conventions}
use Rattle.applications.specs.declared.fault.AdvertFault.{AdvertFault}
use Rattle.applications.specs.declared.fault.AdvertFault.TheVariants.{Absent, NotCmis, Revision, NotEightLanes, FlatMemory, BadSum}
use Rattle.applications.specs.ActiveSets.{active_in, nothing_active}
use Rattle.applications.specs.Advertised.{advertised_under, with_counts, with_pairing}
use Rattle.managed_module.proofs.ShownAdverts.{with_active}
use Rattle.applications.specs.Descriptors.{app_at, apps_of, described, is_listed}
use Rattle.applications.specs.Refusals.{active_reasons, advert_fault, advert_fault_under, is_read_revision, module_reasons, page_reasons}
use Rattle.managed_module.proofs.OwnLower.{HasLower, lower_number, plain_in, same_half}

abbrev pub first_key : Key
first_key = upper_key A0 0 0x00

abbrev pub second_key : Key
second_key = upper_key A0 0 0x01

abbrev pub lanes_key : Key
lanes_key = upper_key A0 0 0x11

abbrev chosen : Field → Field → ℕ → Memory → Bool → ℕ
chosen low more n memory b = if b then number_at memory low n else number_at memory more (n - 8)

abbrev sum_of : Sum → Option (List ℕ) → Bool
sum_of sum half = unwrap_or (option_map (λ bytes. sum_matches bytes (sum_row sum)) half) false

module _ (image own : Memory) (lower : HasLower image own) (first : finmap.get image first_key ≡ finmap.get own first_key) (second : finmap.get image second_key ≡ finmap.get own second_key) where
  -- ---- Applications

  column : (low more : CmisField) → field_key (fields.Cmis low) ≡ lower_key A0 → field_key (fields.Cmis more) ≡ second_key → list_all (plain_in (fields.Cmis low)) (range_with_len 1 8) ≡ true → (n : ℕ) → 1 ≤ n → described image low more n ≡ described own low more n
  column low more is above plain n from = by (nat_le n 8) refl where
    by : (b : Bool) → nat_le n 8 ≡ b → described image low more n ≡ described own low more n
    by true e =
        ap (chosen (fields.Cmis low) (fields.Cmis more) n image) e ∙ lower_number image own (fields.Cmis low) n lower is (in_range (plain_in (fields.Cmis low)) 1 8 n plain from (omega (arith, leb-true n 8 e))) ∙ sym (ap (chosen (fields.Cmis low) (fields.Cmis more) n own) e)
    by false e = ap (chosen (fields.Cmis low) (fields.Cmis more) n image) e ∙ same_half image own (fields.Cmis more) (n - 8) (ap (finmap.get image) above ∙ second ∙ sym (ap (finmap.get own) above)) ∙ sym (ap (chosen (fields.Cmis low) (fields.Cmis more) n own) e)

  app_same : (n : ℕ) → 1 ≤ n → app_at image n ≡ app_at own n
  unfolding app_at
  app_same n from =
      let host = column cmis_fields.AppHost cmis_fields.AppHostMore refl refl refl n from in
      let media = column cmis_fields.AppMedia cmis_fields.AppMediaMore refl refl refl n from in
      let host_lanes = column cmis_fields.AppHostLanes cmis_fields.AppHostLanesMore refl refl refl n from in
      let media_lanes = column cmis_fields.AppMediaLanes cmis_fields.AppMediaLanesMore refl refl refl n from in
      let host_starts = column cmis_fields.AppHostStarts cmis_fields.AppHostStartsMore refl refl refl n from in
      let media_starts = same_half image own (fields.Cmis cmis_fields.MediaStarts) n second in
      λ i. record {
        number = n;
        host_id = host i;
        media_id = media i;
        host_lanes = host_lanes i;
        media_lanes = media_lanes i;
        host_starts = lanes_in (host_starts i);
        media_starts = lanes_in (media_starts i);
      }

  all_same : (from count : ℕ) → 1 ≤ from → map (app_at image) (range_with_len from count) ≡ map (app_at own) (range_with_len from count)
  all_same from zero first = refl
  all_same from (suc count) first =
      let here = app_same from first in
      let rest = all_same (from + 1) count (omega (arith, first)) in
      λ i. here i ∷ rest i

  apps_same : apps_of image ≡ apps_of own
  unfolding apps_of
  apps_same = ap (take_while is_listed) (all_same 1 15 (omega arith))

  pub advert_same : (conventions : Conventions) → advertised_under conventions image ≡ with_active (if conventions.now then active_in image else nothing_active) (advertised_under conventions own)
  advert_same conventions =
      let media = lower_number image own (fields.Cmis cmis_fields.MediaType) 1 lower refl refl in
      let unsupported = same_half image own (fields.Cmis cmis_fields.UnsupportedMedia) 1 first in
      let apps = apps_same in
      λ i. with_active (if conventions.now then active_in image else nothing_active)
      (with_pairing conventions.paired (with_counts conventions.counts_by_id (media i) (record { apps = apps i; unsupported = lanes_in (unsupported i); paired = false; active = nothing_active })))

  -- ---- why they would not be read

  absent_same : (key : Key) → finmap.get image key ≡ finmap.get own key → is_absent image key ≡ is_absent own key
  absent_same key same = ap (λ (half : Option (List ℕ)). not (is_some half)) same

  lower_there : is_absent image (lower_key A0) ≡ is_absent own (lower_key A0)
  lower_there = ap (λ (half : Option (List ℕ)). not (is_some half)) lower.read ∙ sym (ap (λ (half : Option (List ℕ)). not (is_some half)) lower.there)

  fault_same : advert_fault image ≡ advert_fault own
  unfolding advert_fault
  fault_same =
      let there = lower_there in
      let identifier = lower_number image own (fields.Cmis cmis_fields.Identifier) 1 lower refl refl in
      let revision = lower_number image own (fields.Cmis cmis_fields.Revision) 1 lower refl refl in
      let flat = lower_number image own (fields.Cmis cmis_fields.FlatMemory) 1 lower refl refl in
      let has_first = absent_same first_key first in
      let has_second = absent_same second_key second in
      let first_sum = ap (sum_of (sums.Cmis cmis_sums.Sum00)) first in
      let second_sum = ap (sum_of (sums.Cmis cmis_sums.Sum01)) second in
      λ i. first_fault ((there i, Absent (lower_key A0))
      ∷ (not (is_of Cmis (identifier i)), NotCmis (identifier i))
      ∷ (not (is_read_revision (revision i)), Revision (revision i))
      ∷ (identifier i == 0x1E, NotEightLanes (identifier i))
      ∷ (flat i == 1, FlatMemory)
      ∷ (has_first i, Absent first_key)
      ∷ (has_second i, Absent second_key)
      ∷ (not (first_sum i), BadSum 0x00)
      ∷ (not (second_sum i), BadSum 0x01)
      ∷ [])

  pub identifier_same : number image (fields.Cmis cmis_fields.Identifier) ≡ number own (fields.Cmis cmis_fields.Identifier)
  identifier_same = lower_number image own (fields.Cmis cmis_fields.Identifier) 1 lower refl refl

  pub flat_same : number image (fields.Cmis cmis_fields.FlatMemory) ≡ number own (fields.Cmis cmis_fields.FlatMemory)
  flat_same = lower_number image own (fields.Cmis cmis_fields.FlatMemory) 1 lower refl refl

-- ---- what is known of a module whose Applications are read

none_or : {F : Type 0} (one other : Option F) → option_or one other ≡ None → one ≡ None
none_or None other e = refl
none_or (Some fault) other e = absurd cc

or_none : {F : Type 0} (one other : Option F) → one ≡ None → other ≡ None → option_or one other ≡ None
or_none one other e f = ap (λ (found : Option _). option_or found other) e ∙ f

-- no reason applies
abbrev none_apply : {F : Type 0} → Memory → List (Reason F) → Bool
none_apply memory reasons = list_all (λ reason. not (judged memory reason).0) reasons

passes : {F : Type 0} (memory : Memory) (reasons : List (Reason F)) → refused_by memory reasons ≡ None → none_apply memory reasons ≡ true
passes memory [] e = refl
passes {F} memory (reason ∷ reasons) e = by (passes memory reasons) (judged memory reason) e where
  by : (refused_by memory reasons ≡ None → none_apply memory reasons ≡ true) → (first : Bool × F) → first_fault (first ∷ map (judged memory) reasons) ≡ None → (not first.0 && none_apply memory reasons) ≡ true
  by later (true, fault) e = absurd cc
  by later (false, fault) e = later e

family_in : (family : Option Family) → is_family Cmis family ≡ true → family ≡ Some Cmis
family_in (Some Cmis) e = refl
family_in _ e = absurd cc

cmis_by : (other : Bool) (family : Option Family) → is_family Cmis (if other then None else family) ≡ true → family ≡ Some Cmis
cmis_by true family e = absurd cc
cmis_by false family e = family_in family e

of_cmis : (identifier : ℕ) → is_of Cmis identifier ≡ true → managed_by identifier ≡ Some Cmis
unfolding family_by
of_cmis identifier e = cmis_by (is_other_cmis identifier) (managed_by identifier) e

has_it : (memory : Memory) (key : Key) → is_absent memory key ≡ false → finmap.contains_key memory key ≡ true
has_it memory key e = not-false (finmap.contains_key memory key) e

pub record IsPaged (own : Memory) : Type 0 where
  pub cmis : managed_by (number own (fields.Cmis cmis_fields.Identifier)) ≡ Some Cmis
  pub paged : (number own (fields.Cmis cmis_fields.FlatMemory) == 1) ≡ false
  pub first : finmap.contains_key own first_key ≡ true
  pub second : finmap.contains_key own second_key ≡ true

paged_by : (own : Memory) → advert_fault own ≡ None → IsPaged own
unfolding advert_fault
paged_by own none =
    let lower = and_parts _ _ (passes own (module_reasons ++ page_reasons) none) in
    let cmis = and_parts _ _ lower.1 in
    let revision = and_parts _ _ cmis.1 in
    let lanes = and_parts _ _ revision.1 in
    let flat = and_parts _ _ lanes.1 in
    let first = and_parts _ _ flat.1 in
    let second = and_parts _ _ first.1 in
    record {
      cmis = of_cmis (number own (fields.Cmis cmis_fields.Identifier)) (not-false (is_of Cmis (number own (fields.Cmis cmis_fields.Identifier))) (not-true (not (is_of Cmis (number own (fields.Cmis cmis_fields.Identifier)))) cmis.0));
      paged = not-true (number own (fields.Cmis cmis_fields.FlatMemory) == 1) flat.0;
      first = has_it own first_key (not-true (is_absent own first_key) first.0);
      second = has_it own second_key (not-true (is_absent own second_key) second.0);
    }

module _ (conventions : Conventions) (own : Memory) (now : conventions.now ≡ true) (read : advert_fault_under conventions own ≡ None) where
  abbrev under : Memory → Bool → Option AdvertFault
  under memory b = if b then option_or (advert_fault memory) (refused_by memory active_reasons) else advert_fault memory

  own_none : advert_fault own ≡ None
  own_none = none_or (advert_fault own) (refused_by own active_reasons) (sym (ap (under own) now) ∙ read)

  pub is_paged : IsPaged own
  is_paged = paged_by own own_none

  -- nor is there one of the image
  pub none_read : (image : Memory) → HasLower image own → finmap.get image first_key ≡ finmap.get own first_key → finmap.get image second_key ≡ finmap.get own second_key → finmap.contains_key image lanes_key ≡ true
      → advert_fault_under conventions image ≡ None
  none_read image lower first second lanes =
      ap (under image) now
      ∙ or_none (advert_fault image) (refused_by image active_reasons) (fault_same image own lower first second ∙ own_none)
      (ap (λ (b : Bool). first_fault ((not b, Absent lanes_key) ∷ [])) lanes)
