-- What the halves that a module has come to, of memories that agree in those that are read for reports.
use Rattle.std.proofs.Common.{◌≡◌, ◌∙◌, ℕ, ◌%◌, ◌<◌, Bool, true, false, cond, List, Option, Some, None, refl, sym, ap, subst, if◌then◌else◌, take, arith}
use Rattle.std.proofs.lemmas.Bool.{false_from_ne_true}
use Rattle.std.specs.Prelude.{not, option_map}
use Rattle.std.specs.FinMap as map
use Rattle.std.specs.Option.{option_map_or, option_or}
use Rattle.std.specs.Ordering.{eq_by_cmp}
use Rattle.bus_model.specs.declared.device.Dev.TheVariants.{A0, A2}
use Rattle.field_tables.specs.declared.field.Field.TheVariants as fields
use Rattle.field_tables.specs.declared.table.cmis.CmisField.TheVariants as cmis_fields
use Rattle.field_tables.specs.Readings.{number}
use Rattle.field_tables.proofs.SameValues.{Agree, plain, same_number}
use Rattle.module_decoding.specs.ModuleFamilies.{detail_family_of, known}
use Rattle.module_reading.specs.Regions.{decides, has_diagnostics}
use Rattle.module_reading.proofs.RegionLaws.{keys_are, same_decides, same_half}
use Rattle.observables.specs.Banks.{advertised_banks, bank_count, banks_by}
use Rattle.observables.specs.Pages.{is_cmis}
use Rattle.observables.specs.Words.{byte_in, page_of}
use Rattle.paged_memory.specs.declared.family.Family.{Family}
use Rattle.paged_memory.specs.declared.family.Family.TheVariants.{Cmis, Sff8636, Sff8472}
use Rattle.paged_memory.specs.declared.key.Half.TheVariants as halves
use Rattle.paged_memory.specs.declared.key.Key.{Key}
use Rattle.paged_memory.specs.Families.{managed_by}
use Rattle.paged_memory.specs.Images.{Memory}
use Rattle.paged_memory.specs.KeyOrder.{key_cmp}
use Rattle.paged_memory.specs.Keys.{lower_key, upper_key}
use Rattle.paged_memory.proofs.KeyLaws.{keys_total}
use Rattle.reports.proofs.SameFamilies.{LanesAgree, family_agrees, keys_by, low_agrees}
use Rattle.reports.proofs.SameIf.{KeysAgree, each_agree}
use Rattle.observable_reports.specs.OwnHalves.{first_halves, has_no_more, own_halves, with_half}
use Rattle.observable_reports.proofs.SameMonitors.{MonitorsAgree, if_all}

-- ---- the lower half and page 00h

either : {A : Type 0} (one : Bool) (x : A) → cond one x x ≡ x
either true x = refl
either false x = refl

or_none : {A : Type 0} (x : Option A) → option_or x None ≡ x
or_none None = refl
or_none (Some x) = refl

half_of : (from rest : Memory) (other key : Key) → map.get (with_half from other rest) key ≡ cond (eq_by_cmp key_cmp key other) (option_or (map.get from other) (map.get rest key)) (map.get rest key)
half_of from rest other key = by (map.get from other) where
  by : (half : Option (List ℕ)) → map.get (option_map_or (λ (bytes : List ℕ). map.insert rest other bytes) half rest) key ≡ cond (eq_by_cmp key_cmp key other) (option_or half (map.get rest key)) (map.get rest key)
  by None = sym (either (eq_by_cmp key_cmp key other) (map.get rest key))
  by (Some bytes) = map.get-insert keys_total rest other bytes key

module _ (memory : Memory) where
  abbrev nothing : Memory
  nothing = map.empty

  abbrev lower_alone : Memory
  lower_alone = with_half memory (lower_key A0) nothing

  pub first_lower : map.get (first_halves memory) (lower_key A0) ≡ map.get memory (lower_key A0)
  first_lower =
      half_of memory lower_alone (upper_key A0 0 0x00) (lower_key A0)
      ∙ half_of memory nothing (lower_key A0) (lower_key A0)
      ∙ ap (option_or (map.get memory (lower_key A0))) (map.get-empty key_cmp (lower_key A0))
      ∙ or_none (map.get memory (lower_key A0))

  first_zeroth : map.get (first_halves memory) (upper_key A0 0 0x00) ≡ map.get memory (upper_key A0 0 0x00)
  first_zeroth =
      half_of memory lower_alone (upper_key A0 0 0x00) (upper_key A0 0 0x00)
      ∙ ap (option_or (map.get memory (upper_key A0 0 0x00))) (half_of memory nothing (lower_key A0) (upper_key A0 0 0x00) ∙ map.get-empty key_cmp (upper_key A0 0 0x00))
      ∙ or_none (map.get memory (upper_key A0 0 0x00))

  -- nothing else
  first_only : (key : Key) → (key ≡ upper_key A0 0 0x00 → ⊥) → (key ≡ lower_key A0 → ⊥) → map.get (first_halves memory) key ≡ None
  first_only key no_page no_lower =
      half_of memory lower_alone (upper_key A0 0 0x00) key
      ∙ ap (λ (b : Bool). cond b (option_or (map.get memory (upper_key A0 0 0x00)) (map.get lower_alone key)) (map.get lower_alone key))
      (false_from_ne_true (eq_by_cmp key_cmp key (upper_key A0 0 0x00)) (λ e. no_page (keys_are key (upper_key A0 0 0x00) e)))
      ∙ half_of memory nothing (lower_key A0) key
      ∙ ap (λ (b : Bool). cond b (option_or (map.get memory (lower_key A0)) (map.get nothing key)) (map.get nothing key))
      (false_from_ne_true (eq_by_cmp key_cmp key (lower_key A0)) (λ e. no_lower (keys_are key (lower_key A0) e)))
      ∙ map.get-empty key_cmp key

  pub first_page : (bank page : ℕ) → 0 < page → page_of (first_halves memory) bank page ≡ None
  first_page bank page above =
      first_only (upper_key A0 bank page) (λ e. let number : page ≡ 0 = ap (λ (key : Key). key.page) e in omega (arith, number, above))
      (λ e. let clash : halves.Upper ≡ halves.Lower = ap (λ (key : Key). key.half) e in cc)

  no_diagnostics : map.get (first_halves memory) (lower_key A2) ≡ None
  no_diagnostics =
      first_only (lower_key A2) (λ e. let clash : halves.Lower ≡ halves.Upper = ap (λ (key : Key). key.half) e in cc)
      (λ e. let clash : A2 ≡ A0 = ap (λ (key : Key). key.dev) e in cc)

  first_banks : bank_count (first_halves memory) ≡ 1
  first_banks = by (is_cmis (first_halves memory)) where
    by : (cmis : Bool) → (if cmis then advertised_banks (first_halves memory) else 1) ≡ 1
    by true = ap (λ (half : Option (List ℕ)). option_map_or (λ (bytes : List ℕ). banks_by (byte_in bytes 142 % 4)) half 1) (first_page 0 0x01 (omega arith))
    by false = refl

-- ---- of memories that agree

module _ (a b : Memory) where
  none_agree : (key : Key) → map.get (first_halves a) key ≡ None → map.get (first_halves b) key ≡ None → Agree (first_halves a) (first_halves b) key
  none_agree key one other = ap (option_map (take (plain key))) (one ∙ sym other)

  page_agrees : (page : ℕ) → 0 < page → Agree (first_halves a) (first_halves b) (upper_key A0 0 page)
  page_agrees page above = none_agree (upper_key A0 0 page) (first_page a 0 page above) (first_page b 0 page above)

  half_agrees : (key : Key) → map.get (first_halves a) key ≡ map.get a key → map.get (first_halves b) key ≡ map.get b key → Agree a b key → Agree (first_halves a) (first_halves b) key
  half_agrees key one other agree = ap (option_map (take (plain key))) one ∙ agree ∙ sym (ap (option_map (take (plain key))) other)

  module _ (lanes : LanesAgree a b) where
    low : Agree a b (lower_key A0)
    low = low_agrees a b lanes.all

    id_same : number a (fields.Cmis cmis_fields.Identifier) ≡ number b (fields.Cmis cmis_fields.Identifier)
    id_same = same_number a b (fields.Cmis cmis_fields.Identifier) low refl refl

    no_more_in : (family : Family) → has_no_more family a ≡ has_no_more family b
    no_more_in Cmis = same_decides a b low Cmis
    no_more_in Sff8636 = same_decides a b low Sff8636
    no_more_in Sff8472 = ap not (same_decides a b low Sff8472)

    pub no_more_same : has_no_more (detail_family_of a) a ≡ has_no_more (detail_family_of b) b
    unfolding detail_family_of
    no_more_same = no_more_in (known (managed_by (number a (fields.Cmis cmis_fields.Identifier)))) ∙ ap (λ (id : ℕ). has_no_more (known (managed_by id)) b) id_same

    -- ---- all halves

    decides_all : (family : Family) → has_no_more family a ≡ false → decides family a ≡ if_all family
    decides_all Cmis e = e
    decides_all Sff8636 e = e
    decides_all Sff8472 e = by (has_diagnostics a) e where
      by : (diagnosed : Bool) → not diagnosed ≡ false → diagnosed ≡ true
      by true e = refl
      by false e = absurd cc

    all_agree : has_no_more (detail_family_of a) a ≡ false → MonitorsAgree a b
    unfolding detail_family_of
    all_agree more = record {
      low = low;
      halves = λ family is.
          family_agrees a b family is lanes.all (if_all family) (decides_all family (ap (λ (f : Option Family). has_no_more (known f) a) (sym is) ∙ more));
      banks = lanes.banks;
    }

    -- ---- the first halves

    low_first : Agree (first_halves a) (first_halves b) (lower_key A0)
    low_first = half_agrees (lower_key A0) (first_lower a) (first_lower b) low

    -- page 00h is read of flat memory
    first_in : (family : Family) → managed_by (number a (fields.Cmis cmis_fields.Identifier)) ≡ Some family → has_no_more family a ≡ true → KeysAgree (first_halves a) (first_halves b) (keys_by family (if_all family))
    first_in Cmis is no_more =
        let read = family_agrees a b Cmis is lanes.all true no_more in
        each_agree (first_halves a) (first_halves b) (keys_by Cmis false) (
          low_first,
          (
            half_agrees (upper_key A0 0 0x00) (first_zeroth a) (first_zeroth b) (read.half (upper_key A0 0 0x00) refl),
            (page_agrees 0x01 (omega arith), (page_agrees 0x02 (omega arith), (page_agrees 0x11 (omega arith), tt))),
          ),
        )
    first_in Sff8636 is no_more =
        let read = family_agrees a b Sff8636 is lanes.all true no_more in
        each_agree (first_halves a) (first_halves b) (keys_by Sff8636 false)
        (low_first, (half_agrees (upper_key A0 0 0x00) (first_zeroth a) (first_zeroth b) (read.half (upper_key A0 0 0x00) refl), (page_agrees 0x03 (omega arith), tt)))
    first_in Sff8472 is no_more = each_agree (first_halves a) (first_halves b) (keys_by Sff8472 true) (low_first, (none_agree (lower_key A2) (no_diagnostics a) (no_diagnostics b), tt))

    id_first : number (first_halves a) (fields.Cmis cmis_fields.Identifier) ≡ number a (fields.Cmis cmis_fields.Identifier)
    id_first = same_number (first_halves a) a (fields.Cmis cmis_fields.Identifier) (same_half (first_halves a) a (lower_key A0) (first_lower a)) refl refl

    first_agree : has_no_more (detail_family_of a) a ≡ true → MonitorsAgree (first_halves a) (first_halves b)
    unfolding detail_family_of
    first_agree no_more = record {
      low = low_first;
      halves = λ family is.
          let managed : managed_by (number a (fields.Cmis cmis_fields.Identifier)) ≡ Some family = ap managed_by (sym id_first) ∙ is in
          first_in family managed (ap (λ (f : Option Family). has_no_more (known f) a) (sym managed) ∙ no_more);
      banks = λ bank above below. absurd (let one = first_banks a in omega (arith, one, above, below));
    }

    pub own_agree : MonitorsAgree (own_halves a) (own_halves b)
    unfolding own_halves
    own_agree =
        subst (λ (no_more : Bool). MonitorsAgree (own_halves a) (if no_more then first_halves b else b)) no_more_same (by (has_no_more (detail_family_of a) a) refl)
      where
        by : (no_more : Bool) → has_no_more (detail_family_of a) a ≡ no_more → MonitorsAgree (if no_more then first_halves a else a) (if no_more then first_halves b else b)
        by true e = first_agree e
        by false e = all_agree e
