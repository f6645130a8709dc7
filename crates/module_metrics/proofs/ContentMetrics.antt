-- The metrics of what an entry says are well formed.
use Rattle.std.proofs.Common.{◌≡◌, ℕ, ℤ, ◌+◌, ◌≤◌, Bool, true, false, List, [], ◌∷◌, ◌++◌, length, map, codes, decimal, Option, None, Some, refl, ap, subst, arith}
use Rattle.std.specs.Prelude.{⊤}
use Rattle.std.specs.List.{AllByRecursion, enumerate_from, list_all}
use Rattle.field_tables.specs.declared.readings.PerLimit.{PerLimit}
use Rattle.report_entries.specs.declared.entry.LaneState.{LaneState}
use Rattle.report_entries.specs.declared.flag.Flag.{Flag}
use Rattle.report_entries.specs.declared.printed_unit.PrintedUnit.{PrintedUnit}
use Rattle.report_entries.specs.Entries.{Content, word, right, number, code, revision, text, oui, amount, lanes, limits, state, lane_states, flags, apps, lane_set, fact}
use Rattle.report_entries.specs.FlagNames.{limit_name}
use Rattle.module_metrics.specs.AddedLabels.{AreAdded}
use Rattle.module_metrics.specs.Amounts.{lane_sample, lane_samples, lanes_metric, limit_sample, limit_samples, limits_metric, module_metric}
use Rattle.module_metrics.specs.CommonLabels.{is_taken}
use Rattle.module_metrics.specs.declared.name.Scope.TheVariants.{Module, Lane, Limit}
use Rattle.module_metrics.specs.Exposition.{Label, Sample, label, metric, sample}
use Rattle.module_metrics.specs.FlagMetrics.{count_help, count_metric, count_name, each_raised, flag_metrics, flag_sample, flags_help, flags_in, flags_metric, flags_name, is_in}
use Rattle.module_metrics.specs.Grammar.{is_help, is_name}
use Rattle.module_metrics.specs.MetricNames.{snake, words}
use Rattle.module_metrics.specs.ModuleMetrics.{content_metrics, shown_flags}
use Rattle.module_metrics.specs.StateMetrics.{path_sample, paths_help, paths_metric, paths_name, state_help, state_metric, state_name, state_sample, status_sample, statuses_help, statuses_metric, statuses_name}
use Rattle.module_metrics.specs.WellFormed.{AreApart, AreLabels, IsMetric, keys}
use Rattle.module_metrics.proofs.RightMetrics.{is_own, labels_right, numbered_apart}
use Rattle.module_metrics.proofs.Sublists.{apart_by, apart_sub, sub_filter, sub_map}
use Rattle.module_metrics.proofs.Tested.{tested}
use Rattle.module_metrics.proofs.Words.{amount_helped, amount_named, is_plain, name_append, all_append, snake_all, words_plain}

-- ---- lists of samples

pub all_made : {A B : Type 0} (P : B → Type 0) (f : A → B) → ((x : A) → P (f x)) → (xs : List A) → AllByRecursion P (map f xs)
all_made P f each [] = tt
all_made P f each (x ∷ xs) = (each x, all_made P f each xs)

fused : {A B C : Type 0} (f : A → B) (g : B → C) (xs : List A) → map (λ x. g (f x)) xs ≡ map g (map f xs)
fused f g [] = refl
fused f g (x ∷ xs) = ap (λ ys. g (f x) ∷ ys) (fused f g xs)

abbrev pub labels_of : Sample → List Label
labels_of s = s.labels

-- samples that are made of elements whose labels are right
pub made_right : {A : Type 0} (common : List Label) (f : A → Sample) → ((x : A) → AreLabels (common ++ labels_of (f x))) → (xs : List A)
    → AllByRecursion (λ (labels : List Label). AreLabels (common ++ labels)) (map labels_of (map f xs))
made_right common f each xs =
    subst (λ ls. AllByRecursion (λ (labels : List Label). AreLabels (common ++ labels)) ls) (fused f labels_of xs) (all_made (λ (labels : List Label). AreLabels (common ++ labels)) (λ x. labels_of (f x)) each xs)

-- ---- keys of samples

no_own : list_all is_own (keys []) ≡ true
no_own = refl

lane_own : list_all is_own (codes "lane" ∷ []) ≡ true
unfolding is_taken
lane_own = refl

limit_own : list_all is_own (codes "limit" ∷ []) ≡ true
unfolding is_taken
limit_own = refl

state_own : list_all is_own (codes "state" ∷ []) ≡ true
unfolding is_taken
state_own = refl

path_own : list_all is_own (codes "lane" ∷ codes "state" ∷ []) ≡ true
unfolding is_taken
path_own = refl

status_own : list_all is_own (codes "lane" ∷ codes "status" ∷ []) ≡ true
unfolding is_taken
status_own = refl

flag_own : list_all is_own (codes "flag" ∷ []) ≡ true
unfolding is_taken
flag_own = refl

lane_flag_own : list_all is_own (codes "flag" ∷ codes "lane" ∷ []) ≡ true
unfolding is_taken
lane_flag_own = refl

-- ---- amounts

pub amount_right : (common : List Label) → AreAdded common → (name : List ℕ) (unit : PrintedUnit) (millis : ℤ) → IsMetric common (module_metric name unit millis)
unfolding module_metric metric sample
amount_right common added name unit millis = record {
  named = amount_named Module name unit;
  helped = amount_helped Module name unit;
  labelled = (labels_right common [] added no_own tt, tt);
  apart = (tt, tt);
}

lane_right : (common : List Label) → AreAdded common → (unit : PrintedUnit) (l : ℕ × ℤ) → AreLabels (common ++ labels_of (lane_sample unit l))
unfolding lane_sample sample label
lane_right common added unit l = labels_right common (label (codes "lane") (decimal l.0) ∷ []) added lane_own (tt, tt)

lanes_apart : (unit : PrintedUnit) (values : List ℤ) → length values ≤ 32 → AreApart (map labels_of (lane_samples unit values))
unfolding lane_sample sample label
lanes_apart unit values few =
    subst (λ ls. AreApart ls) (fused (lane_sample unit) labels_of (enumerate_from 1 values))
    (numbered_apart (λ (l : ℕ × ℤ). label (codes "lane") (decimal l.0) ∷ []) (λ l. refl) 1 values (omega (arith, few)))

pub lanes_right : (common : List Label) → AreAdded common → (name : List ℕ) (unit : PrintedUnit) (values : List ℤ) → length values ≤ 32 → IsMetric common (lanes_metric name unit values)
unfolding lanes_metric metric
lanes_right common added name unit values few = record {
  named = amount_named Lane name unit;
  helped = amount_helped Lane name unit;
  labelled = made_right common (lane_sample unit) (lane_right common added unit) (enumerate_from 1 values);
  apart = lanes_apart unit values few;
}

abbrev first_value : List Label → List ℕ
first_value [] = []
first_value (l ∷ ls) = l.value

limits_apart : (unit : PrintedUnit) (levels : PerLimit ℤ) → AreApart (map labels_of (limit_samples unit levels))
unfolding limit_sample sample label limit_name
limits_apart unit levels =
    apart_by first_value (map labels_of (limit_samples unit levels)) (tested (codes "high-alarm" ∷ codes "low-alarm" ∷ codes "high-warning" ∷ codes "low-warning" ∷ []) refl)

limits_labelled : (common : List Label) → AreAdded common → (unit : PrintedUnit) (levels : PerLimit ℤ)
    → AllByRecursion (λ (labels : List Label). AreLabels (common ++ labels)) (map labels_of (limit_samples unit levels))
unfolding limit_sample sample label
limits_labelled common added unit levels =
    (labels_right common _ added limit_own (tt, tt), (labels_right common _ added limit_own (tt, tt), (labels_right common _ added limit_own (tt, tt), (labels_right common _ added limit_own (tt, tt), tt))))

pub limits_right : (common : List Label) → AreAdded common → (name : List ℕ) (unit : PrintedUnit) (levels : PerLimit ℤ) → IsMetric common (limits_metric name unit levels)
unfolding limits_metric metric
limits_right common added name unit levels = record {
  named = amount_named Limit name unit;
  helped = amount_helped Limit name unit;
  labelled = limits_labelled common added unit levels;
  apart = limits_apart unit levels;
}

-- ---- states

state_named : (name : List ℕ) → is_name (state_name name) ≡ true
unfolding state_name
state_named name = name_append (codes "dovecounter_module_") (snake name) refl (snake_all name)

state_helped : (name : List ℕ) → is_help (state_help name) ≡ true
unfolding state_help
state_helped name = all_append is_plain (words 32 name) (codes " of the module, by its code") (words_plain name) refl

pub state_right : (common : List Label) → AreAdded common → (name : List ℕ) (n : ℕ) → IsMetric common (state_metric name n)
unfolding state_metric metric state_sample sample label
state_right common added name n = record {
  named = state_named name;
  helped = state_helped name;
  labelled = (labels_right common _ added state_own (tt, tt), tt);
  apart = (tt, tt);
}

path_right : (common : List Label) → AreAdded common → (l : ℕ × LaneState) → AreLabels (common ++ labels_of (path_sample l))
unfolding path_sample sample label
path_right common added l = labels_right common _ added path_own (tested (codes "lane" ∷ codes "state" ∷ []) refl)

paths_apart : (states : List LaneState) → length states ≤ 32 → AreApart (map labels_of (map path_sample (enumerate_from 1 states)))
unfolding path_sample sample label
paths_apart states few =
    subst (λ ls. AreApart ls) (fused path_sample labels_of (enumerate_from 1 states))
    (numbered_apart (λ (l : ℕ × LaneState). labels_of (path_sample l)) (λ l. refl) 1 states (omega (arith, few)))

pub paths_right : (common : List Label) → AreAdded common → (states : List LaneState) → length states ≤ 32 → IsMetric common (paths_metric states)
unfolding paths_metric metric paths_name paths_help
paths_right common added states few = record {
  named = refl;
  helped = refl;
  labelled = made_right common path_sample (path_right common added) (enumerate_from 1 states);
  apart = paths_apart states few;
}

status_right : (common : List Label) → AreAdded common → (l : ℕ × LaneState) → AreLabels (common ++ labels_of (status_sample l))
unfolding status_sample sample label
status_right common added l = labels_right common _ added status_own (tested (codes "lane" ∷ codes "status" ∷ []) refl)

statuses_apart : (states : List LaneState) → length states ≤ 32 → AreApart (map labels_of (map status_sample (enumerate_from 1 states)))
unfolding status_sample sample label
statuses_apart states few =
    subst (λ ls. AreApart ls) (fused status_sample labels_of (enumerate_from 1 states))
    (numbered_apart (λ (l : ℕ × LaneState). labels_of (status_sample l)) (λ l. refl) 1 states (omega (arith, few)))

pub statuses_right : (common : List Label) → AreAdded common → (states : List LaneState) → length states ≤ 32 → IsMetric common (statuses_metric states)
unfolding statuses_metric metric statuses_name statuses_help
statuses_right common added states few = record {
  named = refl;
  helped = refl;
  labelled = made_right common status_sample (status_right common added) (enumerate_from 1 states);
  apart = statuses_apart states few;
}

-- ---- flags

abbrev pub flag_labels : Flag × Bool → List Label
flag_labels f = labels_of (flag_sample f)

flag_right_in : (common : List Label) → AreAdded common → (f : Flag × Bool) (lane : Option ℕ) → f.0.lane ≡ lane → AreLabels (common ++ flag_labels f)
unfolding flag_sample sample label
flag_right_in common added f None e = rw e (labels_right common _ added flag_own (tt, tt))
flag_right_in common added f (Some lane) e = rw e (labels_right common _ added lane_flag_own (tested (codes "flag" ∷ codes "lane" ∷ []) refl))

flag_right : (common : List Label) → AreAdded common → (f : Flag × Bool) → AreLabels (common ++ flag_labels f)
flag_right common added f = flag_right_in common added f f.0.lane refl

count_right : (common : List Label) → AreAdded common → (lanes : Bool) (shown : List (Flag × Bool)) → IsMetric common (count_metric lanes shown)
unfolding count_metric metric sample count_name count_help
count_right common added true shown = record {
  named = refl;
  helped = refl;
  labelled = (labels_right common [] added no_own tt, tt);
  apart = (tt, tt);
}
count_right common added false shown = record {
  named = refl;
  helped = refl;
  labelled = (labels_right common [] added no_own tt, tt);
  apart = (tt, tt);
}

flags_named : (lanes : Bool) → is_name (flags_name lanes) ≡ true
unfolding flags_name
flags_named true = refl
flags_named false = refl

flags_helped : (lanes : Bool) → is_help (flags_help lanes) ≡ true
unfolding flags_help
flags_helped true = refl
flags_helped false = refl

flags_apart : (which : Bool) (shown : List (Flag × Bool)) → AreApart (map flag_labels shown) → AreApart (map labels_of (map flag_sample (flags_in which shown)))
flags_apart which shown apart =
    subst (λ ls. AreApart ls) (fused flag_sample labels_of (flags_in which shown))
    (apart_sub (map flag_labels (flags_in which shown)) (map flag_labels shown) (sub_map flag_labels (flags_in which shown) shown (sub_filter (is_in which) shown)) apart)

flags_right : (common : List Label) → AreAdded common → (which : Bool) (shown : List (Flag × Bool)) → AreApart (map flag_labels shown) → IsMetric common (flags_metric which shown)
unfolding flags_metric metric
flags_right common added which shown apart = record {
  named = flags_named which;
  helped = flags_helped which;
  labelled = made_right common flag_sample (flag_right common added) (flags_in which shown);
  apart = flags_apart which shown apart;
}

pub all_flags_right : (common : List Label) → AreAdded common → (shown : List (Flag × Bool)) → AreApart (map flag_labels shown) → AllByRecursion (IsMetric common) (flag_metrics shown)
all_flags_right common added shown apart =
    (count_right common added false shown, (flags_right common added false shown apart, (count_right common added true shown, (flags_right common added true shown apart, tt))))

-- ---- what an entry says

-- no more lanes than four banks have, and no flag twice
abbrev pub IsPlain : Content → Type 0
IsPlain (lanes values unit) = length values ≤ 32
IsPlain (lane_states states) = length states ≤ 32
IsPlain (flags raised) = AreApart (map flag_labels (each_raised raised))
IsPlain (word w) = ⊤
IsPlain (right is_right) = ⊤
IsPlain (number n) = ⊤
IsPlain (code byte) = ⊤
IsPlain (revision byte) = ⊤
IsPlain (text bytes) = ⊤
IsPlain (oui bytes) = ⊤
IsPlain (amount millis unit) = ⊤
IsPlain (limits levels unit) = ⊤
IsPlain (state n) = ⊤
IsPlain (apps listed) = ⊤
IsPlain (lane_set set) = ⊤
IsPlain (fact place f) = ⊤

shown_apart : (all : Bool) (each_flag : List (Flag × Bool)) (raised : List Flag) → AreApart (map flag_labels each_flag) → AreApart (map flag_labels (each_raised raised))
    → AreApart (map flag_labels (shown_flags all each_flag raised))
shown_apart true each_flag raised apart other = apart
shown_apart false each_flag raised apart other = other

pub content_right : (common : List Label) → AreAdded common → (all : Bool) (each_flag : List (Flag × Bool)) → AreApart (map flag_labels each_flag) → (name : List ℕ) (content : Content) → IsPlain content
    → AllByRecursion (IsMetric common) (content_metrics all each_flag name content)
unfolding content_metrics
content_right common added all each_flag apart name (amount millis unit) plain = (amount_right common added name unit millis, tt)
content_right common added all each_flag apart name (lanes values unit) plain = (lanes_right common added name unit values plain, tt)
content_right common added all each_flag apart name (limits levels unit) plain = (limits_right common added name unit levels, tt)
content_right common added all each_flag apart name (state n) plain = (state_right common added name n, tt)
content_right common added all each_flag apart name (lane_states states) plain = (paths_right common added states plain, (statuses_right common added states plain, tt))
content_right common added all each_flag apart name (flags raised) plain = all_flags_right common added (shown_flags all each_flag raised) (shown_apart all each_flag raised apart plain)
content_right common added all each_flag apart name (word w) plain = tt
content_right common added all each_flag apart name (right is_right) plain = tt
content_right common added all each_flag apart name (number n) plain = tt
content_right common added all each_flag apart name (code byte) plain = tt
content_right common added all each_flag apart name (revision byte) plain = tt
content_right common added all each_flag apart name (text bytes) plain = tt
content_right common added all each_flag apart name (oui bytes) plain = tt
content_right common added all each_flag apart name (apps listed) plain = tt
content_right common added all each_flag apart name (lane_set set) plain = tt
content_right common added all each_flag apart name (fact place f) plain = tt
