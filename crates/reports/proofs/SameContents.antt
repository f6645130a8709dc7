-- Memories that agree in the halves that a report needs have the same report, and those of their family the same details.
use Rattle.std.proofs.Common.{◌≡◌, ◌≢◌, ◌∙◌, ◌&&◌, ℕ, Bool, true, false, List, [], ◌∷◌, ◌++◌, append-nil, Some, None, map, refl, sym, ap, subst, if◌then◌else◌}
use Rattle.std.proofs.lemmas.Bool.{and_from, not-false}
use Rattle.std.specs.Prelude.{not}
use Rattle.std.specs.Option.{option_or}
use Rattle.bus_model.specs.declared.device.Dev.TheVariants.{A0, A2}
use Rattle.paged_memory.specs.declared.family.Family.{Family}
use Rattle.paged_memory.specs.declared.family.Family.TheVariants.{Cmis, Sff8636, Sff8472}
use Rattle.paged_memory.specs.declared.key.Key.{Key}
use Rattle.paged_memory.specs.Families.{family_by, is_of, managed_by}
use Rattle.paged_memory.specs.Images.{Memory}
use Rattle.paged_memory.specs.Keys.{lower_key, upper_key}
use Rattle.field_tables.specs.declared.field.Field.TheVariants as fields
use Rattle.field_tables.specs.declared.table.sff8636.Sff8636Field.TheVariants as sff8636
use Rattle.field_tables.specs.declared.table.sff8472.Sff8472Field.TheVariants as sff8472
use Rattle.field_tables.specs.declared.sff_fault.SffFault.{SffFault}
use Rattle.field_tables.specs.Halves.{is_absent}
use Rattle.field_tables.specs.Readings.{bit}
use Rattle.field_tables.specs.Reasons.{judged}
use Rattle.field_tables.proofs.SameRefusals.{AgreeInTurn, same_refusal}
use Rattle.field_tables.proofs.SameValues.{Agree}
use Rattle.sff8472_map.specs.Refusals as sfp_refusals
use Rattle.sff8636_map.specs.Refusals as qsfp_refusals
use Rattle.applications.specs.declared.fault.AdvertFault.{AdvertFault}
use Rattle.applications.specs.Advertised.{advertised_by}
use Rattle.applications.specs.Refusals.{advert_fault, is_read_revision, module_reasons, page_reasons}
use Rattle.module_decoding.specs.declared.module_family.ModuleFault.{ModuleFault}
use Rattle.module_decoding.specs.declared.report.DecodeFault.{DecodeFault}
use Rattle.module_decoding.specs.declared.report.DecodeFault.TheVariants.{Module, Sff}
use Rattle.module_decoding.specs.declared.report.Report.{Report}
use Rattle.module_decoding.specs.declared.report.Report.TheVariants.{Inventory, Monitors, Flags}
use Rattle.module_decoding.specs.CmisPages.{absent_page, is_flat}
use Rattle.module_decoding.specs.ModuleFamilies as families
use Rattle.module_decoding.specs.ModuleFamilies.{family_of, identifier}
use Rattle.module_decoding.specs.Reports.{fault_in, fault_of, lacked, of_sff, pages_of, sff8472_fault, sff8636_fault}
use Rattle.module_reading.specs.Regions.{decides, has_diagnostics}
use Rattle.module_reading.proofs.RegionLaws.{same_decides}
use Rattle.module_details.specs.AppDetails as app_details
use Rattle.module_details.specs.CmisDetails as cmis
use Rattle.module_details.specs.QsfpDetails as qsfp
use Rattle.module_details.specs.SfpDetails as sfp
use Rattle.module_details.specs.Families.{cmis_entries, qsfp_entries, sfp_entries, tables_entries}
use Rattle.report_entries.specs.Banks.{further_banks}
use Rattle.report_entries.specs.FlagRows.{flags_entry, rows_flags}
use Rattle.report_entries.specs.Flags.{raised}
use Rattle.report_entries.specs.Rows.{rows_entries}
use Rattle.reports.specs.declared.fault.ReportFault.TheVariants.{Absent, Advert}
use Rattle.reports.specs.Apps.{apps_entries, apps_fault}
use Rattle.reports.specs.Details as details
use Rattle.reports.specs.Families as refusals
use Rattle.reports.specs.FlagRows as flags
use Rattle.reports.specs.InventoryRows.{inventory_rows}
use Rattle.reports.specs.MonitorRows as monitors
use Rattle.reports.specs.Reports.{all_lanes_entries, all_lanes_flag_states, banks_in, entries_in, entries_of, flag_rows_of, flags_fault, is_flat_in, report_fault, rows_of, family_entries, family_flags}
use Rattle.reports.specs.SameReports.{IsSame}
use Rattle.reports.proofs.SameApps.{advertised_same, details_of, details_same}
use Rattle.reports.proofs.SameDetailRows.{tables_same}
use Rattle.reports.proofs.SameBanks.{BanksAgree, Further, bank_keys, flat_banks_same, further_agree, no_further, numbered, numbers, paged_banks_same, up_to_1, up_to_2, with_more}
use Rattle.reports.proofs.SameFamilies.{AllAgree, FamilyAgrees, LanesAgree, by_told, family_agrees, found_cmis, is_managed, keys_by, low_agrees, none_applies, none_mapped, same_found, same_renamed}
use Rattle.reports.proofs.SameIf.{KeysAgree, SameIf, absent_read, and_if, by, each_agree, first, is_among}
use Rattle.reports.proofs.SameRows.{flag_rows_same, rows_same}

-- ---- the halves that rows read

-- diagnostics are read for them
abbrev is_diagnosed : Report → Bool
is_diagnosed Inventory = false
is_diagnosed Monitors = true
is_diagnosed Flags = true

-- what decides which halves they read of a module of this family, whose memory is flat or not
abbrev decided : Family → Report → Bool → Bool
decided Sff8472 report flat = is_diagnosed report
decided family report flat = flat

abbrev keys_of : Family → Report → Bool → List Key
keys_of family report flat = keys_by family (decided family report flat)

module _ {a b : Memory} where
  -- with these further banks
  cmis_lines_in : (report : Report) (flat : Bool) (further : Further) (agree : KeysAgree a b (keys_by Cmis flat ++ bank_keys (numbers further))) → (rows_same agree (numbers further) flat (rows_of report Cmis)).test ≡ true
  unfolding rows_same inventory_rows monitors.cmis_rows flags.state_rows
  cmis_lines_in Inventory true no_further agree = refl
  cmis_lines_in Inventory true up_to_1 agree = refl
  cmis_lines_in Inventory true up_to_2 agree = refl
  cmis_lines_in Inventory false no_further agree = refl
  cmis_lines_in Inventory false up_to_1 agree = refl
  cmis_lines_in Inventory false up_to_2 agree = refl
  cmis_lines_in Monitors true no_further agree = refl
  cmis_lines_in Monitors true up_to_1 agree = refl
  cmis_lines_in Monitors true up_to_2 agree = refl
  cmis_lines_in Monitors false no_further agree = refl
  cmis_lines_in Monitors false up_to_1 agree = refl
  cmis_lines_in Monitors false up_to_2 agree = refl
  cmis_lines_in Flags true no_further agree = refl
  cmis_lines_in Flags true up_to_1 agree = refl
  cmis_lines_in Flags true up_to_2 agree = refl
  cmis_lines_in Flags false no_further agree = refl
  cmis_lines_in Flags false up_to_1 agree = refl
  cmis_lines_in Flags false up_to_2 agree = refl
  cmis_lines_in _ _ _ agree = refl

  lines_in : (report : Report) (family : Family) (flat : Bool) (agree : KeysAgree a b (keys_of family report flat)) → family ≢ Cmis → (rows_same agree [] flat (rows_of report family)).test ≡ true
  unfolding rows_same inventory_rows monitors.qsfp_rows monitors.sfp_rows
  lines_in report Cmis flat agree other = absurd (other refl)
  lines_in Inventory Sff8636 true agree other = refl
  lines_in Monitors Sff8636 true agree other = refl
  lines_in Inventory _ _ agree other = refl
  lines_in Monitors _ _ agree other = refl
  lines_in Flags _ _ agree other = refl

  cmis_flags_in : (flat : Bool) (further : Further) (agree : KeysAgree a b (keys_by Cmis flat ++ bank_keys (numbers further))) → (flag_rows_same agree (numbers further) flat (flag_rows_of Cmis)).test ≡ true
  unfolding flag_rows_same flags.cmis_rows
  cmis_flags_in true no_further agree = refl
  cmis_flags_in true up_to_1 agree = refl
  cmis_flags_in true up_to_2 agree = refl
  cmis_flags_in false no_further agree = refl
  cmis_flags_in false up_to_1 agree = refl
  cmis_flags_in false up_to_2 agree = refl
  cmis_flags_in _ _ agree = refl

  flags_in : (family : Family) (flat : Bool) (agree : KeysAgree a b (keys_of family Flags flat)) → family ≢ Cmis → (flag_rows_same agree [] flat (flag_rows_of family)).test ≡ true
  unfolding flag_rows_same flags.qsfp_rows flags.sfp_rows
  flags_in Cmis flat agree other = absurd (other refl)
  flags_in Sff8636 true agree other = refl
  flags_in _ _ agree other = refl

  -- pages that a CMIS module needs
  abbrev pages_same : {keys : List Key} → KeysAgree a b keys → (pages : List ℕ) → SameIf (absent_page pages a) (absent_page pages b)
  unfolding absent_page
  pages_same agree pages = first (is_absent a) (is_absent b) (absent_read agree) (map (λ (page : ℕ). upper_key A0 0 page) pages)

  pages_in : (report : Report) (flat : Bool) (agree : KeysAgree a b (keys_by Cmis flat)) → (pages_same agree (pages_of report flat)).test ≡ true
  unfolding pages_same
  pages_in Inventory true agree = refl
  pages_in Monitors true agree = refl
  pages_in Flags true agree = refl
  pages_in _ _ agree = refl

-- ---- what reports say

module _ (a b : Memory) (low : Agree a b (lower_key A0)) where
  flat_same : (family : Family) → is_flat_in family a ≡ is_flat_in family b
  flat_same Cmis = same_decides a b low Cmis
  flat_same Sff8636 = same_decides a b low Sff8636
  flat_same _ = refl

  -- the halves that a report reads of a module of this family, with the lanes of all banks or of bank 0
  abbrev ReportAgrees : Bool → Report → Family → Type 0
  ReportAgrees all_lanes report family = KeysAgree a b (keys_of family report (is_flat_in family a) ++ bank_keys (banks_in all_lanes family a))

  abbrev SameBanks : Bool → Family → Type 0
  SameBanks all_lanes family = banks_in all_lanes family a ≡ banks_in all_lanes family b

  no_more : {keys : List Key} → KeysAgree a b (keys ++ []) → KeysAgree a b keys
  no_more {keys} agree = subst (λ (ks : List Key). KeysAgree a b ks) (append-nil keys) agree

  lines_same : (all_lanes : Bool) (report : Report) (family : Family) → SameBanks all_lanes family → ReportAgrees all_lanes report family → family_entries all_lanes report family a ≡ family_entries all_lanes report family b
  lines_same all_lanes report Cmis banks agree =
      let flat = is_flat a in
      let found = numbered all_lanes flat a in
      let further = found.0 in
      let agrees : KeysAgree a b (keys_by Cmis flat ++ bank_keys (numbers further)) = subst (λ (numbers : List ℕ). KeysAgree a b (keys_by Cmis flat ++ bank_keys numbers)) (sym found.1) agree in
      ap (λ (numbers : List ℕ). rows_entries a numbers flat (rows_of report Cmis)) (sym found.1)
      ∙ (rows_same agrees (numbers further) flat (rows_of report Cmis)).same (cmis_lines_in report flat further agrees)
      ∙ ap (λ (numbers : List ℕ). rows_entries b numbers flat (rows_of report Cmis)) (found.1 ∙ banks)
      ∙ ap (λ (flat : Bool). rows_entries b (banks_in all_lanes Cmis b) flat (rows_of report Cmis)) (flat_same Cmis)
  lines_same all_lanes report other banks agree =
      let flat = is_flat_in other a in
      (rows_same (no_more agree) [] flat (rows_of report other)).same (lines_in report other flat (no_more agree) (λ same. cc)) ∙ ap (λ (flat : Bool). rows_entries b [] flat (rows_of report other)) (flat_same other)

  flags_same : (all_lanes : Bool) (family : Family) → SameBanks all_lanes family → ReportAgrees all_lanes Flags family → family_flags all_lanes family a ≡ family_flags all_lanes family b
  flags_same all_lanes Cmis banks agree =
      let flat = is_flat a in
      let found = numbered all_lanes flat a in
      let further = found.0 in
      let agrees : KeysAgree a b (keys_by Cmis flat ++ bank_keys (numbers further)) = subst (λ (numbers : List ℕ). KeysAgree a b (keys_by Cmis flat ++ bank_keys numbers)) (sym found.1) agree in
      ap (λ (numbers : List ℕ). rows_flags a numbers flat (flag_rows_of Cmis)) (sym found.1)
      ∙ (flag_rows_same agrees (numbers further) flat (flag_rows_of Cmis)).same (cmis_flags_in flat further agrees)
      ∙ ap (λ (numbers : List ℕ). rows_flags b numbers flat (flag_rows_of Cmis)) (found.1 ∙ banks)
      ∙ ap (λ (flat : Bool). rows_flags b (banks_in all_lanes Cmis b) flat (flag_rows_of Cmis)) (flat_same Cmis)
  flags_same all_lanes other banks agree =
      let flat = is_flat_in other a in
      (flag_rows_same (no_more agree) [] flat (flag_rows_of other)).same (flags_in other flat (no_more agree) (λ same. cc)) ∙ ap (λ (flat : Bool). rows_flags b [] flat (flag_rows_of other)) (flat_same other)

  contents_same : (all_lanes : Bool) (report : Report) (family : Family) → SameBanks all_lanes family → ReportAgrees all_lanes report family → entries_in all_lanes report family a ≡ entries_in all_lanes report family b
  contents_same all_lanes Inventory family banks agree = lines_same all_lanes Inventory family banks agree
  contents_same all_lanes Monitors family banks agree = lines_same all_lanes Monitors family banks agree
  contents_same all_lanes Flags family banks agree =
      let lines = lines_same all_lanes Flags family banks agree in let states = flags_same all_lanes family banks agree in λ i. lines i ++ flags_entry (raised (states i)) ∷ []

  -- ---- why there is none

  same_qsfp_faults : FamilyAgrees a b Sff8636 → (report : Report) → sff8636_fault report a ≡ sff8636_fault report b
  unfolding qsfp_refusals.identity_fault qsfp_refusals.module_fault qsfp_refusals.threshold_fault qsfp_refusals.measured_fault
  same_qsfp_faults agree Inventory =
      let zeroth = (agree (bit a (fields.Sff8636 sff8636.FlatMemory)) refl).half (upper_key A0 0 0x00) (has_zeroth (bit a (fields.Sff8636 sff8636.FlatMemory))) in
      same_refusal a b qsfp_refusals.identity_reasons refl (low, λ here. (low, λ of. (zeroth, λ there. tt))) where
        has_zeroth : (flat : Bool) → is_among (keys_by Sff8636 flat) (upper_key A0 0 0x00) ≡ true
        has_zeroth true = refl
        has_zeroth false = refl
  same_qsfp_faults agree Flags = same_refusal a b qsfp_refusals.module_reasons refl (low, λ here. (low, λ of. tt))
  same_qsfp_faults agree Monitors =
      let limits = same_refusal a b qsfp_refusals.threshold_reasons refl (low, λ here. (low, λ of. (low, λ paged. ((agree false paged).half (upper_key A0 0 0x03) refl, λ there. tt)))) in
      let module_fault = same_refusal a b qsfp_refusals.module_reasons refl (low, λ here. (low, λ of. tt)) in
      λ i. option_or (module_fault i) (if same_decides a b low Sff8636 i then None else limits i)

  -- diagnostics are there, and can be read without an address change
  are_diagnosed : not (bit a (fields.Sff8472 sff8472.DiagPresent)) ≡ false → bit a (fields.Sff8472 sff8472.AddressChange) ≡ false → has_diagnostics a ≡ true
  are_diagnosed present unchanged = and_from (bit a (fields.Sff8472 sff8472.DiagPresent)) (not (bit a (fields.Sff8472 sff8472.AddressChange))) (not-false (bit a (fields.Sff8472 sff8472.DiagPresent)) present) (ap not unchanged)

  module _ (agree : FamilyAgrees a b Sff8472) where
    diagnostics : not (bit a (fields.Sff8472 sff8472.DiagPresent)) ≡ false → bit a (fields.Sff8472 sff8472.AddressChange) ≡ false → Agree a b (lower_key A2)
    diagnostics present unchanged = (agree true (are_diagnosed present unchanged)).half (lower_key A2) refl

    same_sfp_faults : (report : Report) → sff8472_fault report a ≡ sff8472_fault report b
    unfolding sfp_refusals.module_fault sfp_refusals.measured_fault sfp_refusals.flags_fault
    same_sfp_faults Inventory = same_refusal a b sfp_refusals.module_reasons refl (low, λ here. (low, λ of. tt))
    same_sfp_faults Monitors =
        same_refusal a b sfp_refusals.measured_reasons refl
        (low, λ here. (low, λ of. (low, λ present. (low, λ unchanged. (low, λ internal. (diagnostics present unchanged, λ there. tt))))))
    same_sfp_faults Flags =
        same_refusal a b sfp_refusals.flags_reasons refl (low, λ here. (low, λ of. (low, λ present. (low, λ unchanged. (diagnostics present unchanged, λ there. tt)))))

    sfp_agrees : (report : Report) → sff8472_fault report a ≡ None → KeysAgree a b (keys_of Sff8472 report false)
    unfolding sfp_refusals.measured_fault sfp_refusals.flags_fault
    sfp_agrees Inventory none = each_agree a b (lower_key A0 ∷ []) (low, tt)
    sfp_agrees Monitors none = let applies = none_applies (map (judged a) sfp_refusals.measured_reasons) none in agree true (are_diagnosed applies.1.1.0 applies.1.1.1.0)
    sfp_agrees Flags none = let applies = none_applies (map (judged a) sfp_refusals.flags_reasons) none in agree true (are_diagnosed applies.1.1.0 applies.1.1.1.0)

  -- ---- by family

  faults_same : (report : Report) (family : Family) → FamilyAgrees a b family → fault_in report family a ≡ fault_in report family b
  faults_same report Cmis agree =
      ap lacked (by_told a b low Cmis (λ flat m. absent_page (pages_of report flat) m) agree (λ flat agree. pages_same agree (pages_of report flat)) (pages_in report true) (pages_in report false))
  faults_same report Sff8636 agree = ap of_sff (same_qsfp_faults agree report)
  faults_same report Sff8472 agree = ap of_sff (same_sfp_faults agree report)

  and_none : {keys : List Key} → KeysAgree a b keys → KeysAgree a b (keys ++ [])
  and_none {keys} agree = subst (λ (ks : List Key). KeysAgree a b ks) (sym (append-nil keys)) agree

  report_agrees : (all_lanes : Bool) → BanksAgree a b → (report : Report) (family : Family) → FamilyAgrees a b family → fault_in report family a ≡ None → ReportAgrees all_lanes report family
  report_agrees all_lanes banks report Cmis agree none = with_more a b (keys_by Cmis (is_flat a)) (bank_keys (banks_in all_lanes Cmis a)) (agree (is_flat a) refl) (further_agree a b banks all_lanes (is_flat a))
  report_agrees all_lanes banks report Sff8472 agree none = and_none (sfp_agrees agree report (none_mapped (λ (f : SffFault). Sff f) (sff8472_fault report a) none))
  report_agrees all_lanes banks report other agree none = and_none (agree (decides other a) refl)

  same_banks : (all_lanes : Bool) → BanksAgree a b → (family : Family) → FamilyAgrees a b family → SameBanks all_lanes family
  same_banks all_lanes banks Cmis agree = by (is_flat a) refl ∙ ap (λ (flat : Bool). if all_lanes then further_banks flat b else []) (flat_same Cmis) where
    by : (flat : Bool) → is_flat a ≡ flat → (if all_lanes then further_banks flat a else []) ≡ (if all_lanes then further_banks flat b else [])
    by true is = flat_banks_same a b all_lanes
    by false is = paged_banks_same a b low ((agree false is).half (upper_key A0 0 0x01) refl) banks all_lanes
  same_banks all_lanes banks _ agree = refl

-- what is the same of each family, if its halves agree, is the same of any
by_family : {A : Type 0} (all_lanes : Bool) (report : Report) (content : Family → Memory → A) (a b : Memory) → LanesAgree a b
    → ((low : Agree a b (lower_key A0)) (family : Family) → SameBanks a b low all_lanes family → ReportAgrees a b low all_lanes report family → content family a ≡ content family b)
    → IsSame (report_fault report) (λ m. content (family_of m) m) a b
unfolding report_fault fault_of families.module_fault family_of
by_family all_lanes report content a b lanes each =
    let low = low_agrees a b lanes.all in
    same_renamed (λ (fault : DecodeFault). refusals.reported fault) (fault_of report) (λ m. content (family_of m) m) a b
    (same_found family_by is_read_revision (λ (fault : ModuleFault). Module fault) (fault_in report) content a b lanes.all is_managed
    (λ family agree. record {
      fault = faults_same a b low report family agree;
      content = λ none. each low family (same_banks a b low all_lanes lanes.banks family agree) (report_agrees a b low all_lanes lanes.banks report family agree none);
    }))

pub same_report : (report : Report) (a b : Memory) → LanesAgree a b → IsSame (report_fault report) (entries_of report) a b
unfolding entries_of
same_report report a b all = by_family false report (entries_in false report) a b all (λ low family banks agree. contents_same a b low false report family banks agree)

pub same_all_lanes : (report : Report) (a b : Memory) → LanesAgree a b → IsSame (report_fault report) (all_lanes_entries report) a b
unfolding all_lanes_entries
same_all_lanes report a b all = by_family true report (entries_in true report) a b all (λ low family banks agree. contents_same a b low true report family banks agree)

pub same_flag_states : (a b : Memory) → LanesAgree a b → IsSame flags_fault all_lanes_flag_states a b
unfolding all_lanes_flag_states
same_flag_states a b all = by_family true Flags (family_flags true) a b all (λ low family banks agree. flags_same a b low true family banks agree)

-- ---- what a module advertises

-- no fault is left only of a paged CMIS module
pub same_apps : (a b : Memory) → AllAgree a b → IsSame apps_fault (λ (m : Memory). apps_entries (advertised_by m)) a b
unfolding advert_fault advertised_same
same_apps a b all =
    let low = low_agrees a b all in
    same_renamed (λ (fault : AdvertFault). Advert fault) advert_fault (λ (m : Memory). apps_entries (advertised_by m)) a b (record {
      fault = same_refusal a b (module_reasons ++ page_reasons) refl (low, λ here. (low, λ of. (low, λ read. (low, λ lanes. (low, λ paged. pages_agree (paged_agree of paged))))));
      content = λ none.
          let applies = none_applies (map (judged a) (module_reasons ++ page_reasons)) none in
          ap apps_entries ((advertised_same (paged_agree applies.1.0 applies.1.1.1.1.0)).same refl);
    }) where
      paged_agree : not (is_of Cmis (identifier a)) ≡ false → is_flat a ≡ false → KeysAgree a b (keys_by Cmis false)
      paged_agree of paged =
          let cmis = found_cmis (family_by (identifier a)) (not-false (is_of Cmis (identifier a)) of) in
          family_agrees a b Cmis (is_managed (identifier a) Cmis cmis) all false paged

      pages_agree : KeysAgree a b (keys_by Cmis false) → AgreeInTurn a b page_reasons
      pages_agree agree =
          let zeroth = agree.half (upper_key A0 0 0x00) refl in
          let first = agree.half (upper_key A0 0 0x01) refl in
          (zeroth, λ there. (first, λ both. (zeroth, λ right. (first, λ rights. tt))))

-- ---- details

module _ {a b : Memory} where
  details_in : (flat : Bool) (further : Further) (agree : KeysAgree a b (keys_by Cmis flat ++ bank_keys (numbers further))) → (tables_same agree (numbers further) flat cmis.tables_of_rows).test ≡ true
  unfolding tables_same cmis.identity_rows cmis.characteristics_rows cmis.controls_rows cmis.status_rows cmis.lanes_rows
  details_in true no_further agree = refl
  details_in true up_to_1 agree = refl
  details_in true up_to_2 agree = refl
  details_in false no_further agree = refl
  details_in false up_to_1 agree = refl
  details_in false up_to_2 agree = refl
  details_in _ _ agree = refl

module _ (a b : Memory) (low : Agree a b (lower_key A0)) (banks : BanksAgree a b) where
  cmis_rows_same : FamilyAgrees a b Cmis → tables_entries a (further_banks (is_flat a) a) (is_flat a) cmis.tables_of_rows ≡ tables_entries b (further_banks (is_flat b) b) (is_flat b) cmis.tables_of_rows
  cmis_rows_same agree =
      let flat = is_flat a in
      let found = numbered true flat a in
      let further = found.0 in
      let more = with_more a b (keys_by Cmis flat) (bank_keys (further_banks flat a)) (agree flat refl) (further_agree a b banks true flat) in
      let agrees : KeysAgree a b (keys_by Cmis flat ++ bank_keys (numbers further)) = subst (λ (numbers : List ℕ). KeysAgree a b (keys_by Cmis flat ++ bank_keys numbers)) (sym found.1) more in
      ap (λ (numbers : List ℕ). tables_entries a numbers flat cmis.tables_of_rows) (sym found.1)
      ∙ (tables_same agrees (numbers further) flat cmis.tables_of_rows).same (details_in flat further agrees)
      ∙ ap (λ (numbers : List ℕ). tables_entries b numbers flat cmis.tables_of_rows) (found.1 ∙ same_banks a b low true banks Cmis agree)
      ∙ ap (λ (flat : Bool). tables_entries b (further_banks (is_flat b) b) flat cmis.tables_of_rows) (flat_same a b low Cmis)

  detail_entries_same : (family : Family) → FamilyAgrees a b family → details.entries_in family a ≡ details.entries_in family b
  unfolding app_details.apps_entries details_same cmis_entries qsfp_entries sfp_entries tables_same qsfp.identity_rows qsfp.compliance_rows qsfp.options_rows qsfp.status_rows sfp.identity_rows sfp.compliance_rows sfp.options_rows sfp.status_rows sfp.calibrated_rows
  detail_entries_same Cmis agree =
      let rows = cmis_rows_same agree in
      let apps = by_told a b low Cmis (λ flat m. details_of m flat) agree (λ flat agree. details_same agree flat) (λ agree. refl) (λ agree. refl) in
      λ i. rows i ++ apps i
  detail_entries_same Sff8636 agree =
      by_told a b low Sff8636 (λ flat m. tables_entries m [] false qsfp.tables_of_rows) agree (λ flat agree. tables_same agree [] false qsfp.tables_of_rows) (λ agree. refl) (λ agree. refl)
  detail_entries_same Sff8472 agree =
      by_told a b low Sff8472 (λ diagnosed m. tables_entries m [] (not diagnosed) sfp.tables_of_rows) agree (λ diagnosed agree. tables_same agree [] (not diagnosed) sfp.tables_of_rows) (λ agree. refl) (λ agree. refl)

  details_fault_same : (family : Family) → FamilyAgrees a b family → details.fault_in family a ≡ details.fault_in family b
  unfolding pages_same
  details_fault_same Cmis agree =
      let pages : Bool → List ℕ = λ flat. if flat then 0x00 ∷ [] else 0x00 ∷ 0x01 ∷ 0x11 ∷ [] in
      ap refusals.lacks (by_told a b low Cmis (λ flat m. absent_page (pages flat) m) agree (λ flat agree. pages_same agree (pages flat)) (λ agree. refl) (λ agree. refl))
  details_fault_same Sff8636 agree = ap refusals.of_sff (same_qsfp_faults a b low agree Inventory)
  details_fault_same Sff8472 agree =
      let absent = by_told a b low Sff8472 (λ diagnosed m. if not (not diagnosed) && is_absent m (lower_key A2) then Some (Absent (lower_key A2)) else None) agree
      (λ diagnosed agree. by (λ lacking. if lacking then Some (Absent (lower_key A2)) else None) (and_if (not (not diagnosed)) (absent_read agree (lower_key A2)))) (λ agree. refl) (λ agree. refl) in
      λ i. option_or (refusals.of_sff (same_sfp_faults a b low agree Inventory i)) (absent i)

pub same_details : (a b : Memory) → LanesAgree a b → IsSame details.details_fault details.details_entries a b
unfolding details.details_fault details.details_entries refusals.detail_fault families.detail_fault families.detail_family_of
same_details a b lanes =
    let low = low_agrees a b lanes.all in
    same_found managed_by families.is_detail_revision (λ (fault : ModuleFault). refusals.unread fault) details.fault_in details.entries_in a b lanes.all (λ id family is. is)
    (λ family agree. record { fault = details_fault_same a b low lanes.banks family agree; content = λ none. detail_entries_same a b low lanes.banks family agree })
