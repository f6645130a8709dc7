-- The metrics of a module are well formed, whatever is in its memory.
use Rattle.std.proofs.Common.{◌≡◌, inr, ℕ, ◌&&◌, Bool, true, List, [], ◌∷◌, ◌++◌, map, codes, Option, None, Some, refl, sym, ap, ◌∙◌, subst}
use Rattle.std.proofs.lemmas.Bool.{and_parts}
use Rattle.std.proofs.lemmas.Grind.{flat_map-append}
use Rattle.std.proofs.lemmas.List.{map-append}
use Rattle.std.specs.List.{AllByRecursion, flat_map, list_all}
use Rattle.report_entries.specs.declared.flag.Flag.{Flag}
use Rattle.report_entries.specs.Entries.{Entry}
use Rattle.report_entries.specs.Rows.{Row}
use Rattle.module_metrics.specs.AddedLabels.{AreAdded}
use Rattle.module_metrics.specs.CommonLabels.{is_taken, row_keys}
use Rattle.module_metrics.specs.Exposition.{Label, Metric, label, metric, sample}
use Rattle.module_metrics.specs.ModuleMetrics.{entry_metrics, entry_sums, fault_help, fault_metric, fault_metrics, fault_name, info_help, info_labels, info_metric, info_name, module_metrics, sums_help, sums_metric, sums_name}
use Rattle.module_metrics.specs.WellFormed.{AreApart, AreLabels, AreMetrics, IsMetric, keys}
use Rattle.module_metrics.proofs.RightMetrics.{all_then, is_own, labels_right}
use Rattle.module_metrics.proofs.RowMetrics.{EntryIsPlain, IsSum, both, entry_names, made_flat, names_of, row_names, row_sums, sum_labels, sums_are}
use Rattle.module_metrics.proofs.ContentMetrics.{content_right, flag_labels, labels_of}
use Rattle.module_metrics.proofs.Sublists.{Sub, all_sub, apart_by, apart_sub, sub_all, sub_append, sub_none}
use Rattle.module_metrics.proofs.Tested.{are_new, tested}
use Rattle.module_metrics.proofs.SeenInstances.{apart_append}
use Rattle.module_metrics.proofs.VdmApart.{is_other, unlike_vdm, vdm_names_apart}
use Rattle.module_metrics.proofs.VdmRight.{vdm_names}

-- ---- what is known of what three reports say, by the rows that they say it of

pub record AreReported (identity measured warned : List Entry) (identity_rows measured_rows : List Row) (warned_names : List (List ℕ)) (all : Bool) (each_flag : List (Flag × Bool)) : Type 0 where
  pub identity_keys : Sub (keys (info_labels identity)) (flat_map row_keys identity_rows)
  pub identity_named : Sub (flat_map (entry_names all each_flag) identity) (flat_map row_names identity_rows)
  pub measured_named : Sub (flat_map (entry_names all each_flag) measured) (flat_map row_names measured_rows)
  pub warned_named : Sub (flat_map (entry_names all each_flag) warned) warned_names
  pub identity_sums : Sub (flat_map sum_labels identity) (flat_map row_sums identity_rows)
  pub measured_sums : Sub (flat_map sum_labels measured) (flat_map row_sums measured_rows)
  pub identity_plain : AllByRecursion EntryIsPlain identity
  pub measured_plain : AllByRecursion EntryIsPlain measured
  pub warned_plain : AllByRecursion EntryIsPlain warned

-- what is told under a name by itself
abbrev pub first_value : List Label → List ℕ
first_value [] = []
first_value (l ∷ ls) = l.value

abbrev pub all_names : List Row → List Row → List (List ℕ) → List (List ℕ)
all_names identity_rows measured_rows warned_names =
    info_name ∷ sums_name ∷ ((flat_map row_names identity_rows ++ (flat_map row_names measured_rows ++ warned_names)) ++ fault_name ∷ [])

-- a test of the rows
pub record AreRight (identity_rows measured_rows : List Row) (warned_names : List (List ℕ)) : Type 0 where
  pub keys_own : list_all is_own (flat_map row_keys identity_rows) ≡ true
  pub keys_new : are_new (flat_map row_keys identity_rows) ≡ true
  pub sums_new : are_new (map first_value (flat_map row_sums identity_rows ++ flat_map row_sums measured_rows)) ≡ true
  pub names_new : are_new (all_names identity_rows measured_rows warned_names) ≡ true
  pub names_other : list_all is_other (all_names identity_rows measured_rows warned_names) ≡ true

-- ---- tests of lists that lack some

all_true : {A : Type 0} (test : A → Bool) (xs : List A) → list_all test xs ≡ true → AllByRecursion (λ x. test x ≡ true) xs
all_true test [] all = tt
all_true test (x ∷ xs) all =
    let parts = and_parts (test x) (list_all test xs) all in (parts.0, all_true test xs parts.1)

true_all : {A : Type 0} (test : A → Bool) (xs : List A) → AllByRecursion (λ x. test x ≡ true) xs → list_all test xs ≡ true
true_all test [] all = refl
true_all test (x ∷ xs) all = ap (λ b. b && list_all test xs) all.0 ∙ true_all test xs all.1

-- ---- the metrics of no single entry

info_right : (common : List Label) → AreAdded common → (entries : List Entry) (rows : List Row) → Sub (keys (info_labels entries)) (flat_map row_keys rows)
    → list_all is_own (flat_map row_keys rows) ≡ true → are_new (flat_map row_keys rows) ≡ true → IsMetric common (info_metric entries)
unfolding info_metric metric info_name info_help sample
info_right common added [] rows sub own new = record { named = refl; helped = refl; labelled = tt; apart = tt }
info_right common added (e ∷ es) rows sub own new =
    let labels = info_labels (e ∷ es) in
    let owned = true_all is_own (keys labels) (all_sub (λ k. is_own k ≡ true) (keys labels) (flat_map row_keys rows) sub (all_true is_own (flat_map row_keys rows) own)) in
    record {
      named = refl;
      helped = refl;
      labelled = (labels_right common labels added owned (apart_sub (keys labels) (flat_map row_keys rows) sub (tested (flat_map row_keys rows) new)), tt);
      apart = (tt, tt);
    }

sum_own : list_all is_own (codes "sum" ∷ []) ≡ true
unfolding is_taken
sum_own = refl

sum_right : (common : List Label) → AreAdded common → (labels : List Label) → IsSum labels → AreLabels (common ++ labels)
sum_right common added labels is =
    labels_right common labels added (ap (list_all is_own) is ∙ sum_own) (subst (λ ks. AreApart ks) (sym is) (tt, tt))

module _ (common : List Label) (added : AreAdded common) (identity measured warned : List Entry) (identity_rows measured_rows : List Row) (warned_names : List (List ℕ)) (all : Bool)
    (each_flag : List (Flag × Bool)) (content : AreReported identity measured warned identity_rows measured_rows warned_names all each_flag) (right : AreRight identity_rows measured_rows warned_names)
    (listed_apart : AreApart (map flag_labels each_flag)) where
  sums_of_rows : Sub (map labels_of (flat_map entry_sums (identity ++ measured))) (flat_map row_sums identity_rows ++ flat_map row_sums measured_rows)
  sums_of_rows =
      subst (λ zs. Sub zs (flat_map row_sums identity_rows ++ flat_map row_sums measured_rows))
      (sym (made_flat labels_of entry_sums (identity ++ measured) ∙ flat_map-append sum_labels identity measured))
      (sub_append (flat_map sum_labels identity) (flat_map row_sums identity_rows) (flat_map sum_labels measured) (flat_map row_sums measured_rows) content.identity_sums content.measured_sums)

  sums_right : IsMetric common (sums_metric (identity ++ measured))
  unfolding sums_metric metric sums_name sums_help
  sums_right = record {
    named = refl;
    helped = refl;
    labelled = all_then IsSum (λ (labels : List Label). AreLabels (common ++ labels)) (sum_right common added) (map labels_of (flat_map entry_sums (identity ++ measured)))
        (all_sub IsSum (map labels_of (flat_map entry_sums (identity ++ measured))) (flat_map row_sums identity_rows ++ flat_map row_sums measured_rows) sums_of_rows
        (both IsSum (flat_map row_sums identity_rows) (flat_map row_sums measured_rows) (sums_are identity_rows) (sums_are measured_rows)));
    apart = apart_sub (map labels_of (flat_map entry_sums (identity ++ measured))) (flat_map row_sums identity_rows ++ flat_map row_sums measured_rows) sums_of_rows
        (apart_by first_value (flat_map row_sums identity_rows ++ flat_map row_sums measured_rows) (tested (map first_value (flat_map row_sums identity_rows ++ flat_map row_sums measured_rows)) right.sums_new));
  }

  entries_right : (entries : List Entry) → AllByRecursion EntryIsPlain entries → AllByRecursion (IsMetric common) (flat_map (entry_metrics all each_flag) entries)
  entries_right [] plain = tt
  entries_right (e ∷ es) plain =
      both (IsMetric common) (entry_metrics all each_flag e) (flat_map (entry_metrics all each_flag) es) (content_right common added all each_flag listed_apart e.name e.content plain.0) (entries_right es plain.1)

  code_own : list_all is_own (codes "code" ∷ []) ≡ true
  unfolding is_taken
  code_own = refl

  fault_right : (fault : Option (List ℕ)) → AllByRecursion (IsMetric common) (fault_metrics fault)
  unfolding fault_metric metric fault_name fault_help sample label
  fault_right None = tt
  fault_right (Some fault_code) = (record { named = refl; helped = refl; labelled = (labels_right common _ added code_own (tt, tt), tt); apart = (tt, tt) }, tt)

  fault_names : (fault : Option (List ℕ)) → Sub (names_of (fault_metrics fault)) (fault_name ∷ [])
  unfolding fault_metric metric
  fault_names None = sub_none (fault_name ∷ [])
  fault_names (Some fault_code) = sub_all (fault_name ∷ [])

  entries_names : Sub (names_of (flat_map (entry_metrics all each_flag) (identity ++ (measured ++ warned)))) (flat_map row_names identity_rows ++ (flat_map row_names measured_rows ++ warned_names))
  entries_names =
      let f = entry_names all each_flag in
      subst (λ zs. Sub zs (flat_map row_names identity_rows ++ (flat_map row_names measured_rows ++ warned_names)))
      (sym (made_flat (λ (m : Metric). m.name) (entry_metrics all each_flag) (identity ++ (measured ++ warned)) ∙ flat_map-append f identity (measured ++ warned)
      ∙ ap (λ zs. flat_map f identity ++ zs) (flat_map-append f measured warned)))
      (sub_append (flat_map f identity) (flat_map row_names identity_rows) (flat_map f measured ++ flat_map f warned) (flat_map row_names measured_rows ++ warned_names) content.identity_named
      (sub_append (flat_map f measured) (flat_map row_names measured_rows) (flat_map f warned) warned_names content.measured_named content.warned_named))

  last_names : (fault : Option (List ℕ)) → Sub (names_of (flat_map (entry_metrics all each_flag) (identity ++ (measured ++ warned)) ++ fault_metrics fault))
      ((flat_map row_names identity_rows ++ (flat_map row_names measured_rows ++ warned_names)) ++ fault_name ∷ [])
  last_names fault =
      let entries = flat_map (entry_metrics all each_flag) (identity ++ (measured ++ warned)) in
      let rows = flat_map row_names identity_rows ++ (flat_map row_names measured_rows ++ warned_names) in
      subst (λ zs. Sub zs (rows ++ fault_name ∷ [])) (sym (map-append (λ (m : Metric). m.name) entries (fault_metrics fault)))
      (sub_append (names_of entries) rows (names_of (fault_metrics fault)) (fault_name ∷ []) entries_names (fault_names fault))

  -- with metrics of VDM after them
  more_names : (fault : Option (List ℕ)) (more : List Metric) → Sub (names_of more) vdm_names
      → Sub (names_of ((flat_map (entry_metrics all each_flag) (identity ++ (measured ++ warned)) ++ fault_metrics fault) ++ more))
      (((flat_map row_names identity_rows ++ (flat_map row_names measured_rows ++ warned_names)) ++ fault_name ∷ []) ++ vdm_names)
  more_names fault more named =
      let first = flat_map (entry_metrics all each_flag) (identity ++ (measured ++ warned)) ++ fault_metrics fault in
      let rows = (flat_map row_names identity_rows ++ (flat_map row_names measured_rows ++ warned_names)) ++ fault_name ∷ [] in
      subst (λ zs. Sub zs (rows ++ vdm_names)) (sym (map-append (λ (m : Metric). m.name) first more))
      (sub_append (names_of first) rows (names_of more) vdm_names (last_names fault) named)

  pub module_right : (fault : Option (List ℕ)) (more : List Metric) → AllByRecursion (IsMetric common) more → Sub (names_of more) vdm_names
      → AreMetrics common (module_metrics all each_flag identity measured warned fault ++ more)
  unfolding module_metrics info_metric sums_metric metric
  module_right fault more more_right named =
      let entries = flat_map (entry_metrics all each_flag) (identity ++ (measured ++ warned)) in
      let last = names_of ((entries ++ fault_metrics fault) ++ more) in
      let rows = ((flat_map row_names identity_rows ++ (flat_map row_names measured_rows ++ warned_names)) ++ fault_name ∷ []) ++ vdm_names in
      let names = all_names identity_rows measured_rows warned_names in
      let sub : Sub (info_name ∷ sums_name ∷ last) (info_name ∷ sums_name ∷ rows) = inr (sums_name ∷ last, refl, inr (last, refl, more_names fault more named)) in
      record {
        each = (
          info_right common added identity identity_rows content.identity_keys right.keys_own right.keys_new,
          (
            sums_right,
            both (IsMetric common) (entries ++ fault_metrics fault) more
                (both (IsMetric common) entries (fault_metrics fault)
                (entries_right (identity ++ (measured ++ warned)) (both EntryIsPlain identity (measured ++ warned) content.identity_plain (both EntryIsPlain measured warned content.measured_plain content.warned_plain)))
                (fault_right fault))
                more_right,
          ),
        );
        apart = apart_sub (info_name ∷ sums_name ∷ last) (info_name ∷ sums_name ∷ rows) sub
            (apart_append names vdm_names (tested names right.names_new) vdm_names_apart (unlike_vdm names right.names_other));
      }
