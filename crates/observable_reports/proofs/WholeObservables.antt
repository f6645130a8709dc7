-- All that a module measures is told of what is read of an image over a bus without a script as it is told of the image.
use Rattle.std.proofs.Common.{◌≡◌, ◌∙◌, ℕ, zero, suc, ◌+◌, ◌-◌, ◌/◌, ◌%◌, ◌<◌, ◌≤◌, ◌==◌, ◌&&◌, Bool, true, false, cond, nat_le, nat_lt, List, [], ◌∷◌, ◌++◌, Option, Some, None, is_some, refl, sym, ap, subst, if◌then◌else◌, arith}
use Rattle.std.proofs.lemmas.Bool.{and_parts, le-ltb, leb-true, lt-ltb, ltb-false, ltb-true}
use Rattle.std.specs.Prelude.{not, option_and_then, option_map, option_to_list}
use Rattle.std.specs.List.{list_all}
use Rattle.std.specs.Option.{option_map_or}
use Rattle.bus_model.specs.declared.device.Dev.TheVariants.{A0}
use Rattle.bus_model.specs.declared.script.Directive.{Directive}
use Rattle.field_tables.specs.declared.field.Field.TheVariants as fields
use Rattle.field_tables.specs.declared.table.cmis.CmisField.TheVariants as cmis_fields
use Rattle.field_tables.specs.Readings.{number}
use Rattle.field_tables.proofs.SameValues.{same_number}
use Rattle.module_decoding.specs.ModuleFamilies.{detail_family_of, known}
use Rattle.observables.specs.declared.instance.Instance.{Instance}
use Rattle.observables.specs.declared.observation.Observation.{Observation}
use Rattle.observables.specs.Observables.{observable_of}
use Rattle.observables.specs.Observations.{all_places, monitor_places, monitored, observation_at, observations_before, observed, with_instance}
use Rattle.observables.specs.Pages.{absent_page, first_absent, groups, has_observables, is_cmis, pages, pages_of}
use Rattle.observables.specs.Words.{byte_in, page_of}
use Rattle.paged_memory.specs.declared.family.Family.{Family}
use Rattle.paged_memory.specs.declared.family.Family.TheVariants.{Cmis}
use Rattle.paged_memory.specs.Families.{is_family, managed_by}
use Rattle.paged_memory.specs.Images.{Memory}
use Rattle.paged_memory.specs.Keys.{upper_key}
use Rattle.paged_memory.specs.Windows.{Windowed}
use Rattle.reports.proofs.BesideFetched.{detail_fault_same, first_agrees, offered_same}
use Rattle.reports.proofs.SameFamilies.{LanesAgree, found_cmis, low_agrees}
use Rattle.observable_reports.specs.ObservationJson.{observables_json}
use Rattle.observable_reports.specs.ObservationText.{lines_with}
use Rattle.observable_reports.specs.OwnHalves.{first_halves, has_no_more, own_halves}
use Rattle.observable_reports.specs.SameObservables.{AreToldAlike, MonitorsSame, ObservablesWhole}
use Rattle.observable_reports.proofs.OwnHalves.{first_page, no_more_same, own_agree}
use Rattle.observable_reports.proofs.SameMonitors.{monitored_same}
use Rattle.observable_reports.proofs.WholeStatistics.{no_instance, observed_lanes, whole_pages, whole_read}

-- ---- monitors

module _ (place : ℕ) (below : place < monitor_places) where
  monitor_at : (memory : Memory) → observation_at memory place ≡ monitored memory (place / 32) (place % 32 + 1)
  unfolding observation_at
  monitor_at memory =
      let first = lt-ltb place monitor_places below in
      ap (λ (monitor : Bool). if monitor then monitored memory (place / 32) (place % 32 + 1)
      else if nat_lt place all_places then observed memory ((place - monitor_places) / 256) ((place - monitor_places) % 256) else None) first

  at_monitor : (a b : Memory) → LanesAgree a b → observation_at (own_halves a) place ≡ observation_at (own_halves b) place
  at_monitor a b lanes =
      monitor_at (own_halves a) ∙ monitored_same (own_halves a) (own_halves b) (own_agree a b lanes) (place / 32) (place % 32 + 1) (omega (arith, below)) (omega arith) ∙ sym (monitor_at (own_halves b))

pub monitors_same : MonitorsSame
monitors_same old new memory all image start observing place below = at_monitor place below all memory (observed_lanes old new memory all image start observing)

-- ---- where there is no page but 00h

either : {A : Type 0} (one : Bool) (x : A) → (if one then x else x) ≡ x
either true x = refl
either false x = refl

module _ (memory : Memory) (none : (bank page : ℕ) → 0 < page → page_of memory bank page ≡ None) where
  none_observed : (bank n : ℕ) → observed memory bank n ≡ None
  none_observed bank n =
      ap (λ (found : Option Instance). if is_cmis memory then option_and_then (λ (instance : Instance). option_map (with_instance memory bank instance) (observable_of instance.descriptor.kind)) found else None)
      (no_instance memory bank n (none bank (0x20 + n / 64) (omega arith)))
      ∙ either (is_cmis memory) None

  none_at : (place : ℕ) → monitor_places ≤ place → observation_at memory place ≡ None
  unfolding observation_at
  none_at place above =
      let later = le-ltb place monitor_places above in
      ap (λ (monitor : Bool). if monitor then monitored memory (place / 32) (place % 32 + 1)
      else if nat_lt place all_places then observed memory ((place - monitor_places) / 256) ((place - monitor_places) % 256) else None) later
      ∙ ap (λ (seen : Option Observation). if nat_lt place all_places then seen else None) (none_observed ((place - monitor_places) / 256) ((place - monitor_places) % 256))
      ∙ either (nat_lt place all_places) None

  none_absent : absent_page memory 0 ≡ None
  unfolding first_absent
  none_absent =
      ap (λ (half : Option (List ℕ)). if is_cmis memory then first_absent (if option_map_or (λ (bytes : List ℕ). byte_in bytes 142 / 64 % 2 == 1) half false then option_map_or pages_of (groups memory 0) (0x2F ∷ []) else []) 0 memory else None)
      (none 0 0x01 (omega arith))
      ∙ either (is_cmis memory) None

-- ---- pages that are absent

abbrev is_high : ℕ → Bool
is_high page = nat_le 0x20 page && nat_lt page 0x30

listed_high : (groups : ℕ) → list_all is_high (pages_of groups) ≡ true
listed_high groups = by (groups == 0) (groups == 1) (groups == 2) where
  by : (zeroth first second : Bool) → list_all is_high (
      if zeroth then 0x20 ∷ 0x28 ∷ 0x24 ∷ 0x2C ∷ []
      else if first then 0x20 ∷ 0x21 ∷ 0x28 ∷ 0x29 ∷ 0x24 ∷ 0x25 ∷ 0x2C ∷ []
      else if second then 0x20 ∷ 0x21 ∷ 0x22 ∷ 0x28 ∷ 0x29 ∷ 0x2A ∷ 0x24 ∷ 0x25 ∷ 0x26 ∷ 0x2C ∷ []
      else 0x20 ∷ 0x21 ∷ 0x22 ∷ 0x23 ∷ 0x28 ∷ 0x29 ∷ 0x2A ∷ 0x2B ∷ 0x24 ∷ 0x25 ∷ 0x26 ∷ 0x27 ∷ 0x2C ∷ []) ≡ true
  by true first second = refl
  by false true second = refl
  by false false true = refl
  by false false false = refl

pages_high : (memory : Memory) → list_all is_high (pages memory 0) ≡ true
pages_high memory = by (has_observables memory) (groups memory 0) where
  by : (offered : Bool) (groups : Option ℕ) → list_all is_high (if offered then option_map_or pages_of groups (0x2F ∷ []) else []) ≡ true
  by true (Some n) = listed_high n
  by true None = refl
  by false groups = refl

module _ (a b : Memory) (same : (bank page : ℕ) → 0x20 ≤ page → page < 0x30 → page_of a bank page ≡ page_of b bank page) where
  first_same : (listed : List ℕ) → list_all is_high listed ≡ true → first_absent listed 0 a ≡ first_absent listed 0 b
  unfolding first_absent
  first_same [] high = refl
  first_same (page ∷ listed) high =
      let parts = and_parts (is_high page) (list_all is_high listed) high in
      let bounds = and_parts (nat_le 0x20 page) (nat_lt page 0x30) parts.0 in
      let here = same 0 page (leb-true 0x20 page bounds.0) (ltb-true page 0x30 bounds.1) in
      let later = first_same listed parts.1 in
      λ i. cond (not (is_some (here i))) (Some (upper_key A0 0 page)) (later i)

  absent_alike : has_observables a ≡ has_observables b → first_absent (pages a 0) 0 a ≡ first_absent (pages b 0) 0 b
  absent_alike offered =
      let grouped = same 0 0x2F (omega arith) (omega arith) in
      let listed : pages a 0 ≡ pages b 0 = λ i. if offered i then option_map_or pages_of (option_map (λ (bytes : List ℕ). byte_in bytes 128 % 4) (grouped i)) (0x2F ∷ []) else [] in
      ap (λ (ps : List ℕ). first_absent ps 0 a) listed ∙ first_same (pages b 0) (pages_high b)

-- ---- the whole

module _ (a b : Memory) (lanes : LanesAgree a b) (listed : (place : ℕ) → monitor_places ≤ place → observation_at a place ≡ observation_at b place)
    (same : managed_by (number b (fields.Cmis cmis_fields.Identifier)) ≡ Some Cmis → (bank page : ℕ) → 0x20 ≤ page → page < 0x30 → page_of a bank page ≡ page_of b bank page) where
  id_same : number a (fields.Cmis cmis_fields.Identifier) ≡ number b (fields.Cmis cmis_fields.Identifier)
  id_same = same_number a b (fields.Cmis cmis_fields.Identifier) (low_agrees a b lanes.all) refl refl

  -- what is made of the halves that a module has, by whether it has more than the first
  abbrev OfOwn : {T : Type 0} → (Memory → T) → Bool → Type 0
  OfOwn f no_more = f (if no_more then first_halves a else a) ≡ f (if no_more then first_halves b else b)

  of_own : {T : Type 0} (f : Memory → T) → ((no_more : Bool) → has_no_more (detail_family_of a) a ≡ no_more → OfOwn f no_more) → f (own_halves a) ≡ f (own_halves b)
  unfolding own_halves
  of_own f each = subst (λ (no_more : Bool). f (own_halves a) ≡ f (if no_more then first_halves b else b)) (no_more_same a b lanes) (each (has_no_more (detail_family_of a) a) refl)

  at_instance : (place : ℕ) → monitor_places ≤ place → observation_at (own_halves a) place ≡ observation_at (own_halves b) place
  at_instance place above = of_own (λ (memory : Memory). observation_at memory place) by where
    by : (no_more : Bool) → has_no_more (detail_family_of a) a ≡ no_more → OfOwn (λ (memory : Memory). observation_at memory place) no_more
    by true e = none_at (first_halves a) (first_page a) place above ∙ sym (none_at (first_halves b) (first_page b) place above)
    by false e = listed place above

  at_place : (place : ℕ) → observation_at (own_halves a) place ≡ observation_at (own_halves b) place
  at_place place = by (nat_lt place monitor_places) refl where
    by : (monitor : Bool) → nat_lt place monitor_places ≡ monitor → observation_at (own_halves a) place ≡ observation_at (own_halves b) place
    by true e = at_monitor place (ltb-true place monitor_places e) a b lanes
    by false e = at_instance place (ltb-false place monitor_places e)

  before_same : (n : ℕ) → observations_before (own_halves a) n ≡ observations_before (own_halves b) n
  unfolding observations_before
  before_same zero = refl
  before_same (suc n) =
      let here = at_place n in
      let earlier = before_same n in
      λ i. earlier i ++ option_to_list (here i)

  paged_absent : has_no_more (detail_family_of a) a ≡ false → absent_page a 0 ≡ absent_page b 0
  unfolding detail_family_of
  paged_absent more =
      ap (λ (id : ℕ). if is_family Cmis (managed_by id) then first_absent (pages a 0) 0 a else None) id_same ∙ by (is_cmis b) refl
    where
      by : (cmis : Bool) → is_cmis b ≡ cmis → (if cmis then first_absent (pages a 0) 0 a else None) ≡ (if cmis then first_absent (pages b 0) 0 b else None)
      by false e = refl
      by true e =
          let managed = found_cmis (managed_by (number b (fields.Cmis cmis_fields.Identifier))) e in
          let managed_too : managed_by (number a (fields.Cmis cmis_fields.Identifier)) ≡ Some Cmis = ap managed_by id_same ∙ managed in
          let paged = ap (λ (family : Option Family). has_no_more (known family) a) (sym managed_too) ∙ more in
          absent_alike a b (same managed) (offered_same a b (first_agrees a b lanes.all managed_too paged))

  absent_same : absent_page (own_halves a) 0 ≡ absent_page (own_halves b) 0
  absent_same = of_own (λ (memory : Memory). absent_page memory 0) by where
    by : (no_more : Bool) → has_no_more (detail_family_of a) a ≡ no_more → OfOwn (λ (memory : Memory). absent_page memory 0) no_more
    by true e = none_absent (first_halves a) (first_page a) ∙ sym (none_absent (first_halves b) (first_page b))
    by false e = paged_absent e

  told_alike : AreToldAlike a b
  told_alike =
      let seen = before_same all_places in
      record {
        fault = detail_fault_same a b lanes.all;
        lines = λ i. lines_with (seen i) (absent_same i);
        json = λ i. observables_json (seen i) (absent_same i);
      }

pub observables_whole : ObservablesWhole
observables_whole old new memory all image own start observing =
    let window = ap (λ (state : List Directive × Windowed). state.1) start in
    told_alike all memory (observed_lanes old new memory all image window observing) (λ place above. whole_read old new memory all image own start observing place above)
    (λ managed bank page above below. whole_pages old new memory all image own start observing managed bank page above below)
