-- The metrics of each image are well formed, of whatever family its module is.
use Rattle.std.proofs.Common.{◌≡◌, inl, inr, ℕ, ◌+◌, ◌≤◌, Bool, true, false, nat_lt, List, [], ◌∷◌, ◌++◌, length, map, Option, None, Some, option_map, refl, sym, ap, ◌∙◌, subst, if◌then◌else◌, arith}
use Rattle.std.proofs.lemmas.Bool.{and_parts, ltb-true}
use Rattle.std.proofs.lemmas.Grind.{flat_map-append}
use Rattle.std.specs.List.{AllByRecursion, flat_map, list_all}
use Rattle.paged_memory.specs.declared.family.Family.{Family}
use Rattle.paged_memory.specs.declared.family.Family.TheVariants.{Cmis}
use Rattle.paged_memory.specs.Images.{Memory}
use Rattle.module_decoding.specs.declared.report.Report.{Report}
use Rattle.module_decoding.specs.declared.report.Report.TheVariants.{Flags, Inventory, Monitors}
use Rattle.module_decoding.specs.CmisPages.{is_flat}
use Rattle.module_decoding.specs.ModuleFamilies.{family_of}
use Rattle.report_entries.specs.declared.flag.Flag.{Flag}
use Rattle.report_entries.specs.Entries.{entry}
use Rattle.report_entries.specs.FlagNames.{condition_name, flag_name, limit_name}
use Rattle.report_entries.specs.FlagRows.{flags_entry, row_flags, rows_flags}
use Rattle.report_entries.specs.Flags.{raised}
use Rattle.report_entries.specs.Quantities.{name_of}
use Rattle.report_entries.specs.Rows.{row_fits}
use Rattle.reports.specs.declared.fault.ReportFault.{ReportFault}
use Rattle.reports.specs.FlagRows as warnings
use Rattle.reports.specs.InventoryRows.{inventory_rows}
use Rattle.reports.specs.MonitorRows as measures
use Rattle.reports.specs.Reports.{all_lanes_entries, all_lanes_flag_states, banks_in, entries_in, entries_of, family_entries, family_flags, flags_fault, inventory_fault, is_flat_in, monitors_fault, rows_of}
use Rattle.reports.proofs.LaneDigits.{digits_of, written}
use Rattle.reports.proofs.SameBanks.{Further, no_further, numbered, numbers, up_to_1, up_to_2, up_to_3}
use Rattle.module_metrics.specs.AddedLabels.{AreAdded}
use Rattle.module_metrics.specs.Answers.{code_of, first_fault, metrics_of, requested_flags}
use Rattle.module_metrics.specs.Unless.{unless}
use Rattle.module_metrics.specs.BaseUnits.{base_name}
use Rattle.module_metrics.specs.CommonLabels.{is_taken, row_keys}
use Rattle.module_metrics.specs.Exposition.{Label, Metric, label, metric, sample}
use Rattle.module_metrics.specs.FlagMetrics.{count_metric, count_name, each_raised, flag_sample, flags_metric, flags_name}
use Rattle.module_metrics.specs.Laws.{EveryModulesMetricsAreRight}
use Rattle.module_metrics.specs.MetricNames.{amount_name, scope_name}
use Rattle.module_metrics.specs.ModuleMetrics.{content_metrics, fault_name, info_labels, info_name, module_metrics, sums_name}
use Rattle.module_metrics.specs.StateMetrics.{paths_name, state_name, statuses_name}
use Rattle.module_metrics.specs.VdmMetrics.{vdm_metrics, vdm_seen}
use Rattle.module_metrics.specs.WellFormed.{AreApart, AreMetrics, IsMetric}
use Rattle.module_metrics.proofs.ModuleRight.{AreRight, AreReported, module_right}
use Rattle.module_metrics.proofs.RowMetrics.{EntryIsPlain, both, entry_names, is_sure, keys_sub, names_of, names_sub, plain_rows, row_names, row_sums, sum_labels, sums_sub}
use Rattle.module_metrics.proofs.ContentMetrics.{flag_labels}
use Rattle.module_metrics.proofs.SeenInstances.{seen_numbered}
use Rattle.module_metrics.proofs.Sublists.{Sub, apart_by, apart_sub, sub_all, sub_append, sub_none}
use Rattle.module_metrics.proofs.Tested.{are_new, tested}
use Rattle.module_metrics.proofs.VdmRight.{vdm_named_once, vdm_names, vdm_right}

-- ---- flags

-- the values of a sample's labels, each after a zero, the last label's first: lanes differ sooner than names
abbrev values : List Label → List ℕ
values [] = []
values (l ∷ labels) = values labels ++ 0 ∷ l.value

abbrev small_lane : Option ℕ → Bool
small_lane None = true
small_lane (Some lane) = nat_lt lane 100

abbrev has_small_lane : Flag × Bool → Bool
has_small_lane f = small_lane f.0.lane

-- the same of a flag whose lane has one digit or two
abbrev lane_value : Option ℕ → List ℕ
lane_value None = []
lane_value (Some lane) = 0 ∷ digits_of lane

abbrev flag_value : Flag × Bool → List ℕ
flag_value f = lane_value f.0.lane ++ 0 ∷ flag_name f.0.name

same_value_in : (f : Flag × Bool) (lane : Option ℕ) → f.0.lane ≡ lane → small_lane lane ≡ true → values (flag_labels f) ≡ flag_value f
unfolding flag_sample sample label
same_value_in f None e small = rw e refl
same_value_in f (Some lane) e small = rw e (ap (λ (digits : List ℕ). (0 ∷ digits) ++ 0 ∷ flag_name f.0.name) (written lane (ltb-true lane 100 small)))

same_values : (each_flag : List (Flag × Bool)) → list_all has_small_lane each_flag ≡ true → map values (map flag_labels each_flag) ≡ map flag_value each_flag
same_values [] small = refl
same_values (f ∷ each_flag) small =
    let parts = and_parts (has_small_lane f) (list_all has_small_lane each_flag) small in
    ap (λ v. v ∷ map values (map flag_labels each_flag)) (same_value_in f f.0.lane refl parts.0) ∙ ap (λ vs. flag_value f ∷ vs) (same_values each_flag parts.1)

-- flags differ if their names and lanes do
flags_apart : (each_flag : List (Flag × Bool)) → list_all has_small_lane each_flag ≡ true → are_new (map flag_value each_flag) ≡ true → AreApart (map flag_labels each_flag)
flags_apart each_flag small new =
    apart_by values (map flag_labels each_flag) (subst (λ vs. AreApart vs) (sym (same_values each_flag small)) (tested (map flag_value each_flag) new))

abbrev CmisFlagsApart : List ℕ → Type 0
CmisFlagsApart banks = (memory : Memory) (flat : Bool) → AreApart (map flag_labels (rows_flags memory banks flat warnings.cmis_rows))

apart_without : CmisFlagsApart []
unfolding row_flags warnings.cmis_rows flag_name limit_name condition_name name_of
apart_without memory true = flags_apart (rows_flags memory [] true warnings.cmis_rows) refl refl
apart_without memory false = flags_apart (rows_flags memory [] false warnings.cmis_rows) refl refl

apart_to_1 : CmisFlagsApart (numbers up_to_1)
unfolding row_flags warnings.cmis_rows flag_name limit_name condition_name name_of
apart_to_1 memory true = flags_apart (rows_flags memory (numbers up_to_1) true warnings.cmis_rows) refl refl
apart_to_1 memory false = flags_apart (rows_flags memory (numbers up_to_1) false warnings.cmis_rows) refl refl

apart_to_2 : CmisFlagsApart (numbers up_to_2)
unfolding row_flags warnings.cmis_rows flag_name limit_name condition_name name_of
apart_to_2 memory true = flags_apart (rows_flags memory (numbers up_to_2) true warnings.cmis_rows) refl refl
apart_to_2 memory false = flags_apart (rows_flags memory (numbers up_to_2) false warnings.cmis_rows) refl refl

apart_to_3 : CmisFlagsApart (numbers up_to_3)
unfolding row_flags warnings.cmis_rows flag_name limit_name condition_name name_of
apart_to_3 memory true = flags_apart (rows_flags memory (numbers up_to_3) true warnings.cmis_rows) refl refl
apart_to_3 memory false = flags_apart (rows_flags memory (numbers up_to_3) false warnings.cmis_rows) refl refl

cmis_flags_apart : (further : Further) → CmisFlagsApart (numbers further)
cmis_flags_apart no_further = apart_without
cmis_flags_apart up_to_1 = apart_to_1
cmis_flags_apart up_to_2 = apart_to_2
cmis_flags_apart up_to_3 = apart_to_3

family_flags_apart : (family : Family) (memory : Memory) → AreApart (map flag_labels (family_flags true family memory))
unfolding row_flags warnings.qsfp_rows warnings.sfp_rows flag_name limit_name condition_name name_of
family_flags_apart Cmis memory =
    let found = numbered true (is_flat memory) memory in
    subst (λ (banks : List ℕ). AreApart (map flag_labels (rows_flags memory banks (is_flat memory) warnings.cmis_rows))) found.1 (cmis_flags_apart found.0 memory (is_flat memory))
family_flags_apart family memory = flags_apart (family_flags true family memory) refl refl

raised_sub : (each_flag : List (Flag × Bool)) → Sub (map flag_labels (each_raised (raised each_flag))) (map flag_labels each_flag)
unfolding flag_sample sample
raised_sub [] = refl
raised_sub ((f, true) ∷ each_flag) = inr (map flag_labels (each_raised (raised each_flag)), refl, raised_sub each_flag)
raised_sub ((f, false) ∷ each_flag) = inl (raised_sub each_flag)

abbrev flag_names : List (List ℕ)
flag_names = count_name false ∷ flags_name false ∷ count_name true ∷ flags_name true ∷ []

flags_named : (all : Bool) (each_flag : List (Flag × Bool)) (raised : List Flag) → entry_names all each_flag (flags_entry raised) ≡ flag_names
unfolding entry content_metrics count_metric flags_metric metric
flags_named all each_flag raised = refl

flags_plain : (each_flag : List (Flag × Bool)) → AreApart (map flag_labels each_flag) → EntryIsPlain (flags_entry (raised each_flag))
unfolding entry
flags_plain each_flag apart = apart_sub (map flag_labels (each_raised (raised each_flag))) (map flag_labels each_flag) (raised_sub each_flag) apart

-- ---- what reports say if they have no fault

unless_sub : {A B : Type 0} (f : A → List B) (fault : Option ReportFault) (xs : List A) (ys : List B) → Sub (flat_map f xs) ys → Sub (flat_map f (unless fault xs)) ys
unless_sub f None xs ys sub = sub
unless_sub f (Some fault) xs ys sub = sub_none ys

unless_all : {A : Type 0} (P : A → Type 0) (fault : Option ReportFault) (xs : List A) → AllByRecursion P xs → AllByRecursion P (unless fault xs)
unless_all P None xs all = all
unless_all P (Some fault) xs all = tt

-- the flags that are told if that is asked for
abbrev asked : Bool → Option ReportFault → List (Flag × Bool) → List (Flag × Bool)
asked all fault each_flag = if all then unless fault each_flag else []

asked_apart : (all : Bool) (fault : Option ReportFault) (each_flag : List (Flag × Bool)) → AreApart (map flag_labels each_flag) → AreApart (map flag_labels (asked all fault each_flag))
asked_apart false fault each_flag apart = tt
asked_apart true None each_flag apart = apart
asked_apart true (Some fault) each_flag apart = tt

-- ---- the rows of each family

abbrev warned_names : Family → List (List ℕ)
warned_names family = flat_map row_names (rows_of Flags family) ++ flag_names

rows_right : (family : Family) → AreRight (rows_of Inventory family) (rows_of Monitors family) (warned_names family)
unfolding is_taken inventory_rows measures.cmis_rows measures.qsfp_rows measures.sfp_rows warnings.state_rows info_name sums_name fault_name amount_name scope_name base_name state_name paths_name statuses_name count_name flags_name label
rows_right Cmis = record { keys_own = refl; keys_new = refl; sums_new = refl; names_new = refl; names_other = refl }
rows_right _ = record { keys_own = refl; keys_new = refl; sums_new = refl; names_new = refl; names_other = refl }

identity_sure : (family : Family) → list_all is_sure (rows_of Inventory family) ≡ true
unfolding inventory_rows
identity_sure Cmis = refl
identity_sure _ = refl

rows_fit : (report : Report) (family : Family) → list_all row_fits (rows_of report family) ≡ true
unfolding inventory_rows measures.cmis_rows measures.qsfp_rows measures.sfp_rows warnings.state_rows
rows_fit Inventory Cmis = refl
rows_fit Inventory _ = refl
rows_fit Monitors Cmis = refl
rows_fit Monitors _ = refl
rows_fit Flags Cmis = refl
rows_fit Flags _ = refl

few_numbers : (further : Further) → length (numbers further) ≤ 3
few_numbers no_further = omega arith
few_numbers up_to_1 = omega arith
few_numbers up_to_2 = omega arith
few_numbers up_to_3 = omega arith

few_banks : (all_lanes : Bool) (family : Family) (memory : Memory) → length (banks_in all_lanes family memory) ≤ 3
few_banks all_lanes Cmis memory = let found = numbered all_lanes (is_flat memory) memory in subst (λ (banks : List ℕ). length banks ≤ 3) found.1 (few_numbers found.0)
few_banks all_lanes _ memory = omega arith

-- ---- what reports say of a module of a family

module _ (all : Bool) (each_flag : List (Flag × Bool)) (family : Family) (memory : Memory) where
  entries_keys : (fault : Option ReportFault) → Sub (map (λ (l : Label). l.key) (info_labels (unless fault (entries_in false Inventory family memory)))) (flat_map row_keys (rows_of Inventory family))
  entries_keys None = keys_sub memory (banks_in false family memory) (is_flat_in family memory) (rows_of Inventory family) (identity_sure family)
  entries_keys (Some fault) = sub_none (flat_map row_keys (rows_of Inventory family))

  entries_named : (all_lanes : Bool) (report : Report) → Sub (flat_map (entry_names all each_flag) (family_entries all_lanes report family memory)) (flat_map row_names (rows_of report family))
  entries_named all_lanes report = names_sub all each_flag memory (banks_in all_lanes family memory) (is_flat_in family memory) (rows_of report family)

  entries_sums : (all_lanes : Bool) (report : Report) → Sub (flat_map sum_labels (family_entries all_lanes report family memory)) (flat_map row_sums (rows_of report family))
  entries_sums all_lanes report = sums_sub memory (banks_in all_lanes family memory) (is_flat_in family memory) (rows_of report family)

  entries_plain : (all_lanes : Bool) (report : Report) → AllByRecursion EntryIsPlain (family_entries all_lanes report family memory)
  entries_plain all_lanes report = plain_rows memory (banks_in all_lanes family memory) (is_flat_in family memory) (rows_of report family) (few_banks all_lanes family memory) (rows_fit report family)

  -- of its states and flags
  warned_named : Sub (flat_map (entry_names all each_flag) (entries_in true Flags family memory)) (warned_names family)
  warned_named =
      let f = entry_names all each_flag in
      let states = family_entries true Flags family memory in
      let last = flags_entry (raised (family_flags true family memory)) in
      subst (λ zs. Sub zs (warned_names family)) (sym (flat_map-append f states (last ∷ [])))
      (sub_append (flat_map f states) (flat_map row_names (rows_of Flags family)) (f last ++ []) flag_names (entries_named true Flags)
      (subst (λ zs. Sub (zs ++ []) flag_names) (sym (flags_named all each_flag (raised (family_flags true family memory)))) (sub_all flag_names)))

  warned_plain : AllByRecursion EntryIsPlain (entries_in true Flags family memory)
  warned_plain =
      both EntryIsPlain (family_entries true Flags family memory) (flags_entry (raised (family_flags true family memory)) ∷ []) (entries_plain true Flags)
      (flags_plain (family_flags true family memory) (family_flags_apart family memory), tt)

  reported : (first second third : Option ReportFault) → AreReported (unless first (entries_in false Inventory family memory)) (unless second (entries_in true Monitors family memory))
      (unless third (entries_in true Flags family memory)) (rows_of Inventory family) (rows_of Monitors family) (warned_names family) all each_flag
  reported first second third =
      let names = entry_names all each_flag in
      let identity = entries_in false Inventory family memory in
      let measured = entries_in true Monitors family memory in
      let warned = entries_in true Flags family memory in
      record {
        identity_keys = entries_keys first;
        identity_named = unless_sub names first identity (flat_map row_names (rows_of Inventory family)) (entries_named false Inventory);
        measured_named = unless_sub names second measured (flat_map row_names (rows_of Monitors family)) (entries_named true Monitors);
        warned_named = unless_sub names third warned (warned_names family) warned_named;
        identity_sums = unless_sub sum_labels first identity (flat_map row_sums (rows_of Inventory family)) (entries_sums false Inventory);
        measured_sums = unless_sub sum_labels second measured (flat_map row_sums (rows_of Monitors family)) (entries_sums true Monitors);
        identity_plain = unless_all EntryIsPlain first identity (entries_plain false Inventory);
        measured_plain = unless_all EntryIsPlain second measured (entries_plain true Monitors);
        warned_plain = unless_all EntryIsPlain third warned warned_plain;
      }

of_family : (common : List Label) → AreAdded common → (all : Bool) (memory : Memory) (first second third : Option ReportFault) (fault : Option (List ℕ))
    → (more : List Metric) → AllByRecursion (IsMetric common) more → Sub (names_of more) vdm_names → (family : Family)
    → AreMetrics common (module_metrics all (asked all third (family_flags true family memory)) (unless first (entries_in false Inventory family memory)) (unless second (entries_in true Monitors family memory))
    (unless third (entries_in true Flags family memory)) fault ++ more)
of_family common added all memory first second third fault more right named family =
    let flags = family_flags true family memory in
    let each_flag = asked all third flags in
    module_right common added (unless first (entries_in false Inventory family memory)) (unless second (entries_in true Monitors family memory)) (unless third (entries_in true Flags family memory))
    (rows_of Inventory family) (rows_of Monitors family) (warned_names family) all each_flag (reported all each_flag family memory first second third)
    (rows_right family) (asked_apart all third flags (family_flags_apart family memory)) fault more right named

pub every_module_right : EveryModulesMetricsAreRight
unfolding metrics_of requested_flags entries_of all_lanes_entries all_lanes_flag_states
every_module_right common all memory added =
    of_family common added all memory (inventory_fault memory) (monitors_fault memory) (flags_fault memory) (option_map code_of (first_fault memory))
    (vdm_metrics (vdm_seen memory)) (vdm_right common added (vdm_seen memory) (seen_numbered memory)) (vdm_named_once (vdm_seen memory)) (family_of memory)
