-- The metrics of VDM are well formed.
use Rattle.std.proofs.Common.{◌≡◌, ◌≢◌, ◌∙◌, ℕ, ◌<◌, Bool, true, false, if◌then◌else◌, Option, None, Some, List, [], ◌∷◌, ◌++◌, map, codes, decimal, refl, sym, ap, subst, arith}
use Rattle.std.proofs.lemmas.Fmt.{decimal_injective}
use Rattle.std.proofs.lemmas.List.{map-append}
use Rattle.std.specs.List.{AllByRecursion, flat_map, list_all}
use Rattle.observables.specs.Names.{lane_of, scope_name}
use Rattle.report_entries.specs.declared.flag.LimitKind.{LimitKind}
use Rattle.report_entries.specs.declared.flag.LimitKind.TheVariants.{HighAlarm, LowAlarm, HighWarning, LowWarning}
use Rattle.report_entries.specs.FlagNames.{limit_name}
use Rattle.module_metrics.specs.AddedLabels.{AreAdded}
use Rattle.module_metrics.specs.CommonLabels.{is_taken}
use Rattle.module_metrics.specs.Exposition.{Label, Metric, Sample, label, metric}
use Rattle.module_metrics.specs.FlagMetrics.{lane_labels}
use Rattle.module_metrics.specs.Numbers.{Number}
use Rattle.module_metrics.specs.VdmMetrics.{is_of, limit_sample, limit_samples, limits_metrics, measure_metrics, number_labels, number_samples, number_seen, place_labels, some_metrics, value_sample, values_metrics, vdm_metrics}
use Rattle.module_metrics.specs.VdmNames.{measures, vdm_name}
use Rattle.module_metrics.specs.WellFormed.{AreApart, AreLabels, IsMetric}
use Rattle.observable_reports.specs.declared.listed_instances.Seen.{Seen}
use Rattle.module_metrics.specs.declared.vdm_name.Measure.{Measure}
use Rattle.observable_reports.proofs.ListedInstances.{all_append}
use Rattle.module_metrics.proofs.RightMetrics.{all_then, is_own, labels_right}
use Rattle.module_metrics.proofs.RowMetrics.{made_flat, names_of}
use Rattle.module_metrics.proofs.ContentMetrics.{labels_of}
use Rattle.module_metrics.proofs.SeenInstances.{AreNumbered, apart_append, numbers}
use Rattle.module_metrics.proofs.Sublists.{Sub, apart_by, apart_sub, sub_all, sub_append, sub_flat, sub_none}
use Rattle.module_metrics.proofs.Tested.{tested}
use Rattle.module_metrics.proofs.VdmWords.{vdm_helped, vdm_named}

-- ---- keys of samples

place_own : list_all is_own (codes "vdm_instance" ∷ codes "scope" ∷ []) ≡ true
unfolding is_taken
place_own = refl

lane_own : list_all is_own (codes "vdm_instance" ∷ codes "lane" ∷ codes "scope" ∷ []) ≡ true
unfolding is_taken
lane_own = refl

limit_own : list_all is_own (codes "vdm_instance" ∷ codes "limit" ∷ codes "scope" ∷ []) ≡ true
unfolding is_taken
limit_own = refl

lane_limit_own : list_all is_own (codes "vdm_instance" ∷ codes "limit" ∷ codes "lane" ∷ codes "scope" ∷ []) ≡ true
unfolding is_taken
lane_limit_own = refl

abbrev value_labels : Seen → List Label
value_labels seen = number_labels seen.number ++ place_labels seen.observation

abbrev limit_labels : Seen → LimitKind → List Label
limit_labels seen limit = (number_labels seen.number ++ label (codes "limit") (limit_name limit) ∷ []) ++ place_labels seen.observation

value_right_in : (common : List Label) → AreAdded common → (n : ℕ) (scope : List ℕ) (lane : Option ℕ)
    → AreLabels (common ++ (number_labels n ++ (lane_labels lane ++ label (codes "scope") scope ∷ [])))
unfolding label
value_right_in common added n scope None = labels_right common _ added place_own (tested (codes "vdm_instance" ∷ codes "scope" ∷ []) refl)
value_right_in common added n scope (Some lane) =
    labels_right common _ added lane_own (tested (codes "vdm_instance" ∷ codes "lane" ∷ codes "scope" ∷ []) refl)

limit_right_in : (common : List Label) → AreAdded common → (n : ℕ) (limit scope : List ℕ) (lane : Option ℕ)
    → AreLabels (common ++ ((number_labels n ++ label (codes "limit") limit ∷ []) ++ (lane_labels lane ++ label (codes "scope") scope ∷ [])))
unfolding label
limit_right_in common added n limit scope None = labels_right common _ added limit_own (tested (codes "vdm_instance" ∷ codes "limit" ∷ codes "scope" ∷ []) refl)
limit_right_in common added n limit scope (Some lane) =
    labels_right common _ added lane_limit_own (tested (codes "vdm_instance" ∷ codes "limit" ∷ codes "lane" ∷ codes "scope" ∷ []) refl)

value_right : (common : List Label) → AreAdded common → (seen : Seen) → AreLabels (common ++ value_labels seen)
value_right common added seen =
    value_right_in common added seen.number (scope_name seen.observation.subject seen.observation.observable.side) (lane_of seen.observation.subject)

limit_right : (common : List Label) → AreAdded common → (seen : Seen) (limit : LimitKind) → AreLabels (common ++ limit_labels seen limit)
limit_right common added seen limit =
    limit_right_in common added seen.number (limit_name limit) (scope_name seen.observation.subject seen.observation.observable.side) (lane_of seen.observation.subject)

-- ---- what holds of the labels of each sample

module _ (P : List Label → Type 0) where
  of_number : (labels : List Label) (number : Option Number) → P labels → AllByRecursion P (map labels_of (number_samples labels number))
  of_number labels None holds = tt
  of_number labels (Some number) holds = (holds, tt)

  of_some : (is : Bool) (samples : List Sample) → AllByRecursion P (map labels_of samples) → AllByRecursion P (map labels_of (if is then samples else []))
  of_some true samples all = all
  of_some false samples all = tt

  of_both : (xs ys : List Sample) → AllByRecursion P (map labels_of xs) → AllByRecursion P (map labels_of ys) → AllByRecursion P (map labels_of (xs ++ ys))
  of_both xs ys all more =
      subst (λ ls. AllByRecursion P ls) (sym (map-append labels_of xs ys)) (all_append P (map labels_of xs) (map labels_of ys) all more)

  pub of_value : (of : Measure) (seen : Seen) → P (value_labels seen) → AllByRecursion P (map labels_of (value_sample of seen))
  unfolding value_sample
  of_value of seen holds =
      of_some (is_of of seen.observation.observable) _ (of_number (value_labels seen) (number_seen seen.observation seen.observation.amount) holds)

  of_limit : (seen : Seen) → ((limit : LimitKind) → P (limit_labels seen limit)) → (limit : LimitKind) (level : _) → AllByRecursion P (map labels_of (limit_sample seen limit level))
  unfolding limit_sample
  of_limit seen each limit level = of_number (limit_labels seen limit) (number_seen seen.observation level) (each limit)

  pub of_limits : (of : Measure) (seen : Seen) → ((limit : LimitKind) → P (limit_labels seen limit)) → AllByRecursion P (map labels_of (limit_samples of seen))
  unfolding limit_samples
  of_limits of seen each =
      let levels = seen.observation.limits in
      of_some (is_of of seen.observation.observable) _ (of_both _ _ (of_limit seen each HighAlarm levels.high_alarm) (of_both _ _ (of_limit seen each LowAlarm levels.low_alarm)
      (of_both _ _ (of_limit seen each HighWarning levels.high_warning) (of_limit seen each LowWarning levels.low_warning))))

  pub of_all : (f : Seen → List Sample) → ((seen : Seen) → AllByRecursion P (map labels_of (f seen))) → (all : List Seen) → AllByRecursion P (map labels_of (flat_map f all))
  of_all f each [] = tt
  of_all f each (seen ∷ all) = of_both (f seen) (flat_map f all) (each seen) (of_all f each all)

-- ---- no two samples have the same labels

abbrev first_value : List Label → List ℕ
first_value [] = []
first_value (l ∷ ls) = l.value

abbrev second_value : List Label → List ℕ
second_value [] = []
second_value (l ∷ ls) = first_value ls

abbrev IsOf : Seen → List Label → Type 0
IsOf seen labels = first_value labels ≡ decimal seen.number

module _ (f : Seen → List Sample) (first : (seen : Seen) → AllByRecursion (IsOf seen) (map labels_of (f seen))) (within : (seen : Seen) → AreApart (map labels_of (f seen))) where
  unlike_others : (seen : Seen) (labels : List Label) → IsOf seen labels → seen.number < 1025 → (all : List Seen) → AllByRecursion (λ (k : ℕ). k < 1025) (numbers all)
      → AllByRecursion (λ (k : ℕ). seen.number ≢ k) (numbers all) → AllByRecursion (λ other. labels ≢ other) (map labels_of (flat_map f all))
  unlike_others seen labels is fits [] below apart = tt
  unlike_others seen labels is fits (another ∷ all) below apart =
      subst (λ ls. AllByRecursion (λ other. labels ≢ other) ls) (sym (map-append labels_of (f another) (flat_map f all)))
      (all_append (λ other. labels ≢ other) (map labels_of (f another)) (map labels_of (flat_map f all))
      (all_then (IsOf another) (λ other. labels ≢ other)
      (λ other of same. apart.0 (decimal_injective seen.number another.number (omega (arith, fits)) (omega (arith, below.0)) (sym is ∙ ap first_value same ∙ of)))
      (map labels_of (f another)) (first another))
      (unlike_others seen labels is fits all below.1 apart.1))

  pub flat_apart : (all : List Seen) → AllByRecursion (λ (k : ℕ). k < 1025) (numbers all) → AreApart (numbers all) → AreApart (map labels_of (flat_map f all))
  flat_apart [] below apart = tt
  flat_apart (seen ∷ all) below apart =
      subst (λ ls. AreApart ls) (sym (map-append labels_of (f seen) (flat_map f all)))
      (apart_append (map labels_of (f seen)) (map labels_of (flat_map f all)) (within seen) (flat_apart all below.1 apart.1)
      (all_then (IsOf seen) (λ labels. AllByRecursion (λ other. labels ≢ other) (map labels_of (flat_map f all)))
      (λ labels is. unlike_others seen labels is below.0 all below.1 apart.0) (map labels_of (f seen)) (first seen)))

-- ---- of one instance

value_first : (of : Measure) (seen : Seen) → AllByRecursion (IsOf seen) (map labels_of (value_sample of seen))
unfolding label
value_first of seen = of_value (IsOf seen) of seen refl

limits_first : (of : Measure) (seen : Seen) → AllByRecursion (IsOf seen) (map labels_of (limit_samples of seen))
unfolding label
limits_first of seen = of_limits (IsOf seen) of seen (λ limit. refl)

some_apart : (is : Bool) (samples : List Sample) → AreApart (map labels_of samples) → AreApart (map labels_of (if is then samples else []))
some_apart true samples apart = apart
some_apart false samples apart = tt

number_sub : (labels : List Label) (number : Option Number) → Sub (map labels_of (number_samples labels number)) (labels ∷ [])
number_sub labels None = sub_none (labels ∷ [])
number_sub labels (Some number) = sub_all (labels ∷ [])

value_within : (of : Measure) (seen : Seen) → AreApart (map labels_of (value_sample of seen))
unfolding value_sample
value_within of seen =
    let number = number_seen seen.observation seen.observation.amount in
    some_apart (is_of of seen.observation.observable) (number_samples (value_labels seen) number)
    (apart_sub (map labels_of (number_samples (value_labels seen) number)) (value_labels seen ∷ []) (number_sub (value_labels seen) number) (tt, tt))

limit_sub : (seen : Seen) (limit : LimitKind) (level : _) → Sub (map labels_of (limit_sample seen limit level)) (limit_labels seen limit ∷ [])
unfolding limit_sample
limit_sub seen limit level = number_sub (limit_labels seen limit) (number_seen seen.observation level)

both_sub : (xs ys : List Sample) (us vs : List (List Label)) → Sub (map labels_of xs) us → Sub (map labels_of ys) vs → Sub (map labels_of (xs ++ ys)) (us ++ vs)
both_sub xs ys us vs sub more =
    subst (λ ls. Sub ls (us ++ vs)) (sym (map-append labels_of xs ys)) (sub_append (map labels_of xs) us (map labels_of ys) vs sub more)

four_apart : (seen : Seen) → AreApart (limit_labels seen HighAlarm ∷ limit_labels seen LowAlarm ∷ limit_labels seen HighWarning ∷ limit_labels seen LowWarning ∷ [])
unfolding label limit_name
four_apart seen =
    apart_by second_value (limit_labels seen HighAlarm ∷ limit_labels seen LowAlarm ∷ limit_labels seen HighWarning ∷ limit_labels seen LowWarning ∷ [])
    (tested (codes "high-alarm" ∷ codes "low-alarm" ∷ codes "high-warning" ∷ codes "low-warning" ∷ []) refl)

limits_within : (of : Measure) (seen : Seen) → AreApart (map labels_of (limit_samples of seen))
unfolding limit_samples
limits_within of seen =
    let levels = seen.observation.limits in
    let a = limit_sample seen HighAlarm levels.high_alarm in
    let b = limit_sample seen LowAlarm levels.low_alarm in
    let c = limit_sample seen HighWarning levels.high_warning in
    let d = limit_sample seen LowWarning levels.low_warning in
    let la = limit_labels seen HighAlarm in
    let lb = limit_labels seen LowAlarm in
    let lc = limit_labels seen HighWarning in
    let ld = limit_labels seen LowWarning in
    some_apart (is_of of seen.observation.observable) (a ++ (b ++ (c ++ d)))
    (apart_sub (map labels_of (a ++ (b ++ (c ++ d)))) (la ∷ lb ∷ lc ∷ ld ∷ [])
    (both_sub a (b ++ (c ++ d)) (la ∷ []) (lb ∷ lc ∷ ld ∷ []) (limit_sub seen HighAlarm levels.high_alarm)
    (both_sub b (c ++ d) (lb ∷ []) (lc ∷ ld ∷ []) (limit_sub seen LowAlarm levels.low_alarm)
    (both_sub c d (lc ∷ []) (ld ∷ []) (limit_sub seen HighWarning levels.high_warning) (limit_sub seen LowWarning levels.low_warning))))
    (four_apart seen))

-- ---- metrics

some_right : (common : List Label) (limits : Bool) (of : Measure) (samples : List Sample) → AllByRecursion (λ (labels : List Label). AreLabels (common ++ labels)) (map labels_of samples)
    → AreApart (map labels_of samples) → AllByRecursion (IsMetric common) (some_metrics limits of samples)
unfolding metric
some_right common limits of [] labelled apart = tt
some_right common limits of (s ∷ samples) labelled apart =
    (record { named = vdm_named limits of; helped = vdm_helped limits of; labelled = labelled; apart = apart }, tt)

module _ (common : List Label) (added : AreAdded common) (seen : List Seen) (numbered : AreNumbered 1025 seen) where
  measure_right : (of : Measure) → AllByRecursion (IsMetric common) (measure_metrics seen of)
  measure_right of =
      let right = λ (labels : List Label). AreLabels (common ++ labels) in
      all_append (IsMetric common) (values_metrics seen of) (limits_metrics seen of)
      (some_right common false of (flat_map (value_sample of) seen) (of_all right (value_sample of) (λ one. of_value right of one (value_right common added one)) seen)
      (flat_apart (value_sample of) (value_first of) (value_within of) seen numbered.below numbered.apart))
      (some_right common true of (flat_map (limit_samples of) seen) (of_all right (limit_samples of) (λ one. of_limits right of one (limit_right common added one)) seen)
      (flat_apart (limit_samples of) (limits_first of) (limits_within of) seen numbered.below numbered.apart))

  measures_right : (of : List Measure) → AllByRecursion (IsMetric common) (flat_map (measure_metrics seen) of)
  measures_right [] = tt
  measures_right (one ∷ of) = all_append (IsMetric common) (measure_metrics seen one) (flat_map (measure_metrics seen) of) (measure_right one) (measures_right of)

  pub vdm_right : AllByRecursion (IsMetric common) (vdm_metrics seen)
  unfolding vdm_metrics
  vdm_right = measures_right measures

-- ---- names

abbrev pub measure_names : Measure → List (List ℕ)
measure_names of = vdm_name false of ∷ vdm_name true of ∷ []

abbrev pub vdm_names : List (List ℕ)
vdm_names = flat_map measure_names measures

some_names : (limits : Bool) (of : Measure) (samples : List Sample) → Sub (names_of (some_metrics limits of samples)) (vdm_name limits of ∷ [])
unfolding metric
some_names limits of [] = sub_none (vdm_name limits of ∷ [])
some_names limits of (s ∷ samples) = sub_all (vdm_name limits of ∷ [])

names_of_measure : (seen : List Seen) (of : Measure) → Sub (names_of (measure_metrics seen of)) (measure_names of)
names_of_measure seen of =
    subst (λ zs. Sub zs (measure_names of)) (sym (map-append (λ (m : Metric). m.name) (values_metrics seen of) (limits_metrics seen of)))
    (sub_append (names_of (values_metrics seen of)) (vdm_name false of ∷ []) (names_of (limits_metrics seen of)) (vdm_name true of ∷ [])
    (some_names false of (flat_map (value_sample of) seen)) (some_names true of (flat_map (limit_samples of) seen)))

pub vdm_named_once : (seen : List Seen) → Sub (names_of (vdm_metrics seen)) vdm_names
unfolding vdm_metrics
vdm_named_once seen =
    subst (λ zs. Sub zs vdm_names) (sym (made_flat (λ (m : Metric). m.name) (measure_metrics seen) measures))
    (sub_flat (λ of. names_of (measure_metrics seen of)) measure_names (names_of_measure seen) measures)
