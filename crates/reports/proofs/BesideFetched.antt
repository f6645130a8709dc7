-- Pages from 20h on that are put beside what was fetched leave its reports as they are.
use Rattle.std.proofs.Common.{◌≡◌, inl, inr, ◌∙◌, ℕ, ◌<◌, ◌/◌, ◌%◌, ◌==◌, ◌&&◌, Bool, true, false, List, [], ◌∷◌, Option, Some, None, map, take, refl, sym, ap, subst, arith}
use Rattle.std.proofs.lemmas.Bool.{false≢true, or_cases}
use Rattle.std.proofs.lemmas.List.{get_or-take}
use Rattle.std.specs.Prelude.{is_some, not, option_map}
use Rattle.std.specs.FinMap as map
use Rattle.std.specs.List.{AllByRecursion}
use Rattle.std.specs.Option.{option_map_or}
use Rattle.std.specs.Ordering.{eq_by_cmp}
use Rattle.bus_model.specs.declared.device.Dev.TheVariants.{A0}
use Rattle.paged_memory.specs.declared.family.Family.TheVariants.{Cmis}
use Rattle.paged_memory.specs.declared.key.Key.{Key}
use Rattle.paged_memory.specs.Families.{is_family, managed_by}
use Rattle.paged_memory.specs.Images.{Memory}
use Rattle.paged_memory.specs.Keys.{lower_key, page_key, upper_key}
use Rattle.paged_memory.specs.KeyOrder.{key_cmp}
use Rattle.field_tables.specs.declared.field.Field.TheVariants as fields
use Rattle.field_tables.specs.declared.table.cmis.CmisField.TheVariants as cmis
use Rattle.field_tables.specs.FirstFault.{first_fault}
use Rattle.field_tables.proofs.SameValues.{Agree, plain, same_absent, same_number}
use Rattle.module_decoding.specs.declared.module_family.ModuleFault.TheVariants.{Absent, Unknown, Revision}
use Rattle.module_decoding.specs.CmisPages.{is_flat}
use Rattle.module_decoding.specs.ModuleFamilies as families
use Rattle.module_decoding.specs.ModuleFamilies.{identifier}
use Rattle.module_reading.specs.declared.region.Region.{Region}
use Rattle.module_reading.specs.declared.region.Region.TheVariants.{Lower, FirstPage, Page}
use Rattle.module_reading.specs.Regions.{everything, key_of, regions_of}
use Rattle.module_reading.proofs.RegionLaws.{keys_are, same_half, same_regions}
use Rattle.observables.specs.Banks.{bank_count}
use Rattle.observables.specs.Pages.{has_observables}
use Rattle.observables.specs.Words.{byte_in, page_of}
use Rattle.reports.specs.Families.{detail_fault, unread}
use Rattle.reports.proofs.FetchedPages.{HasPage, IsLow, all_low}
use Rattle.reports.proofs.SameBanks.{same_count}
use Rattle.reports.proofs.SameFamilies.{AllAgree, LanesAgree, family_agrees, low_agrees}
use Rattle.reports.proofs.SameIf.{KeysAgree, is_among}

-- ---- two memories with the same halves below page 20h

none_below : 0 < 0x20
none_below = omega arith

first_below : 0x01 < 0x20
first_below = omega arith

lanes_below : 0x11 < 0x20
lanes_below = omega arith

module _ (all before : Memory) (same : (key : Key) → key.page < 0x20 → map.get all key ≡ map.get before key) where
  same_lower : map.get all (lower_key A0) ≡ map.get before (lower_key A0)
  same_lower = same (lower_key A0) none_below

  same_asked : regions_of everything all ≡ regions_of everything before
  same_asked = same_regions all before same_lower everything

  kept : (region : Region) → HasPage IsLow region → map.get all (key_of region) ≡ map.get before (key_of region)
  kept (Lower dev) low = same (lower_key dev) none_below
  kept FirstPage low = same (upper_key A0 0 0) none_below
  kept (Page page) low = let below : page % 256 < 0x20 = omega (arith, low) in same (page_key page) below

  kept_among : (regions : List Region) → AllByRecursion (HasPage IsLow) regions → (key : Key) → is_among (map key_of regions) key ≡ true → map.get all key ≡ map.get before key
  kept_among [] low key e = absurd (false≢true e)
  kept_among (region ∷ regions) low key e =
      elim (or_cases (eq_by_cmp key_cmp key (key_of region)) (is_among (map key_of regions) key) e) [
        | inl here ↦ subst (λ (k : Key). map.get all k ≡ map.get before k) (sym (keys_are key (key_of region) here)) (kept region low.0)
        | inr later ↦ kept_among regions low.1 key later
      ]

  banks_same : bank_count all ≡ bank_count before
  banks_same = same_count all before (same_half all before (lower_key A0) same_lower) (same_half all before (upper_key A0 0 0x01) (same (upper_key A0 0 0x01) first_below))

  module _ (memory : Memory) where
    agrees : (key : Key) → map.get all key ≡ map.get before key → Agree before memory key → Agree all memory key
    agrees key is agree = subst (λ (half : Option (List ℕ)). option_map (take (plain key)) half ≡ option_map (take (plain key)) (map.get memory key)) (sym is) agree

    -- as they agree in the halves that are read for reports, so does the memory that has more
    pub lanes_beside : LanesAgree before memory → LanesAgree all memory
    lanes_beside lanes = record {
      all = subst (λ (regions : List Region). KeysAgree all memory (map key_of regions)) (sym same_asked) (record {
        half = λ key among. agrees key (kept_among (regions_of everything before) (all_low (managed_by (identifier before)) before) key among) (lanes.all.half key among);
      });
      banks = λ bank above below. agrees (upper_key A0 bank 0x11) (same (upper_key A0 bank 0x11) lanes_below) (lanes.banks bank above (subst (λ (n : ℕ). bank < n) banks_same below));
    }

-- ---- memories that agree in these halves

module _ (a b : Memory) where
  abbrev offered : Option (List ℕ) → Bool
  offered half = option_map_or (λ (bytes : List ℕ). byte_in bytes 142 / 64 % 2 == 1) half false

  taken : (half : Option (List ℕ)) → offered (option_map (take 128) half) ≡ offered half
  taken None = refl
  taken (Some bytes) = ap (λ (n : ℕ). n / 64 % 2 == 1) (get_or-take 128 bytes 14 0 (omega arith))

  -- statistics are offered by both or by neither
  pub offered_same : Agree a b (upper_key A0 0 0x01) → has_observables a ≡ has_observables b
  offered_same first = sym (taken (page_of a 0 0x01)) ∙ ap offered first ∙ taken (page_of b 0 0x01)

  -- page 01h is read of a CMIS module whose memory isn't flat
  pub first_agrees : AllAgree a b → managed_by (identifier a) ≡ Some Cmis → is_flat a ≡ false → Agree a b (upper_key A0 0 0x01)
  first_agrees all managed flat = (family_agrees a b Cmis managed all false flat).half (upper_key A0 0 0x01) refl

  -- nor does what keeps a module from being told differ
  pub detail_fault_same : AllAgree a b → detail_fault a ≡ detail_fault b
  unfolding detail_fault families.detail_fault families.fault_in
  detail_fault_same all =
      let low = low_agrees a b all in
      let absent = same_absent a b (lower_key A0) low in
      let id = same_number a b (fields.Cmis cmis.Identifier) low refl refl in
      let revision = same_number a b (fields.Cmis cmis.Revision) low refl refl in
      λ i. option_map (λ fault. unread fault) (first_fault (
      (absent i, Absent (lower_key A0))
      ∷ (not (is_some (managed_by (id i))), Unknown (id i))
      ∷ (is_family Cmis (managed_by (id i)) && not (families.is_detail_revision (revision i)), Revision (revision i))
      ∷ []))
