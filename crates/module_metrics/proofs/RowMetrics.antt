-- What the rows of a report come to as metrics: some of what each row has, whatever is in memory.
use Rattle.std.proofs.Common.{◌≡◌, ℕ, ◌*◌, ◌≤◌, ◌&&◌, if◌then◌else◌, nat_le, Bool, true, false, List, [], ◌∷◌, ◌++◌, length, map, codes, Option, None, Some, refl, sym, ap, ◌∙◌, subst, append-nil, length-append, arith}
use Rattle.std.proofs.lemmas.Bool.{and_parts, false≢true}
use Rattle.std.proofs.lemmas.Bool.Decides.{nat_tests}
use Rattle.std.proofs.lemmas.Grind.{flat_map-append}
use Rattle.std.proofs.lemmas.List.{map-append}
use Rattle.std.proofs.lemmas.List.FromFn.{length-map-range_with_len}
use Rattle.std.specs.Prelude.{is_some}
use Rattle.std.specs.List.{AllByRecursion, flat_map, list_all, range_with_len}
use Rattle.field_tables.specs.FieldRows.{row_of}
use Rattle.field_tables.specs.FieldValues.{of_each}
use Rattle.module_decoding.specs.Amounts.{amount_at, power_fits}
use Rattle.paged_memory.specs.Images.{Memory}
use Rattle.report_entries.specs.declared.flag.Flag.{Flag}
use Rattle.report_entries.specs.declared.printed_unit.PrintedUnit.TheVariants.{Metre}
use Rattle.observables.specs.Banks.{lanes_of_bank}
use Rattle.report_entries.specs.Banks.{over_banks}
use Rattle.report_entries.specs.Entries.{Entry, entry}
use Rattle.report_entries.specs.Rows.{Row, Source, Instead, Word, Either, Code, Revision, Next, Text, Oui, Right, Amount, Length, Lanes, Limits, State, LaneStates, Nothing, Wording, decided_entries, deciding, instead_fits, lane_state_at, printed_unit, row_entries, row_fits, rows_entries, source_fits, source_content}
use Rattle.module_metrics.specs.Amounts.{lanes_metric, limits_metric, module_metric}
use Rattle.module_metrics.specs.CommonLabels.{is_label, row_keys}
use Rattle.module_metrics.specs.declared.name.Scope.TheVariants.{Module, Lane, Limit}
use Rattle.module_metrics.specs.Exposition.{Label, Metric, label, metric, sample}
use Rattle.module_metrics.specs.MetricNames.{amount_name, snake}
use Rattle.module_metrics.specs.ModuleMetrics.{content_labels, content_metrics, content_sums, entry_labels, entry_metrics, entry_sums, info_labels}
use Rattle.module_metrics.specs.StateMetrics.{paths_metric, paths_name, state_metric, state_name, statuses_metric, statuses_name}
use Rattle.module_metrics.specs.WellFormed.{keys}
use Rattle.module_metrics.proofs.ContentMetrics.{IsPlain, labels_of}
use Rattle.module_metrics.proofs.Sublists.{Sub, sub_all, sub_append, sub_none}

-- ---- of each entry some of what its row has

module _ {B : Type 0} (of_entry : Entry → List B) (of_row : Row → List B) (memory : Memory) (banks : List ℕ) (flat : Bool) (fits : Row → Bool)
    (decided : (row : Row) → fits row ≡ true → Sub (flat_map of_entry (decided_entries memory banks row (deciding memory row.instead))) (of_row row)) where
  kept_sub : (row : Row) (hidden : Bool) → fits row ≡ true → Sub (flat_map of_entry (if hidden then [] else decided_entries memory banks row (deciding memory row.instead))) (of_row row)
  kept_sub row true fit = sub_none (of_row row)
  kept_sub row false fit = decided row fit

  row_sub : (row : Row) → fits row ≡ true → Sub (flat_map of_entry (row_entries memory banks flat row)) (of_row row)
  unfolding row_entries
  row_sub row fit = kept_sub row (row.paged && flat) fit

  pub rows_sub : (rows : List Row) → list_all fits rows ≡ true → Sub (flat_map of_entry (rows_entries memory banks flat rows)) (flat_map of_row rows)
  rows_sub [] all = refl
  rows_sub (row ∷ rows) all =
      let parts = and_parts (fits row) (list_all fits rows) all in
      subst (λ zs. Sub zs (of_row row ++ flat_map of_row rows)) (sym (flat_map-append of_entry (row_entries memory banks flat row) (rows_entries memory banks flat rows)))
      (sub_append (flat_map of_entry (row_entries memory banks flat row)) (of_row row) (flat_map of_entry (rows_entries memory banks flat rows)) (flat_map of_row rows) (row_sub row parts.0) (rows_sub rows parts.1))

-- ---- of what is made of all entries

pub made_flat : {A B C : Type 0} (g : B → C) (f : A → List B) (xs : List A) → map g (flat_map f xs) ≡ flat_map (λ x. map g (f x)) xs
made_flat g f [] = refl
made_flat g f (x ∷ xs) = map-append g (f x) (flat_map f xs) ∙ ap (λ ys. map g (f x) ++ ys) (made_flat g f xs)

abbrev any_row : Row → Bool
any_row row = true

all_any : (rows : List Row) → list_all any_row rows ≡ true
all_any [] = refl
all_any (row ∷ rows) = all_any rows

-- ---- names

abbrev pub names_of : List Metric → List (List ℕ)
names_of metrics = map (λ (m : Metric). m.name) metrics

abbrev pub entry_names : Bool → List (Flag × Bool) → Entry → List (List ℕ)
entry_names all each_flag e = names_of (entry_metrics all each_flag e)

abbrev source_names : List ℕ → Source → List (List ℕ)
source_names name (Word w) = []
source_names name (Either field one other) = []
source_names name (Code field) = []
source_names name (Revision field) = []
source_names name (Next field) = []
source_names name (Text field) = []
source_names name (Oui field) = []
source_names name (Right sum) = []
source_names name (Amount field) = amount_name Module name (printed_unit field) ∷ []
source_names name (Length base power) = amount_name Module name Metre ∷ []
source_names name (Lanes field power) = amount_name Lane name (printed_unit field) ∷ []
source_names name (Limits field power) = amount_name Limit name (printed_unit field) ∷ []
source_names name (State field) = state_name name ∷ []
source_names name (LaneStates paths statuses) = paths_name ∷ statuses_name ∷ []

abbrev pub row_names : Row → List (List ℕ)
row_names row = source_names row.name row.source

same_names : (all : Bool) (each_flag : List (Flag × Bool)) (memory : Memory) (banks : List ℕ) (name : List ℕ) (s : Source) → names_of (content_metrics all each_flag name (source_content memory banks s)) ≡ source_names name s
unfolding content_metrics source_content module_metric lanes_metric limits_metric state_metric paths_metric statuses_metric metric
same_names all each_flag memory banks name (Word w) = refl
same_names all each_flag memory banks name (Either field one other) = refl
same_names all each_flag memory banks name (Code field) = refl
same_names all each_flag memory banks name (Revision field) = refl
same_names all each_flag memory banks name (Next field) = refl
same_names all each_flag memory banks name (Text field) = refl
same_names all each_flag memory banks name (Oui field) = refl
same_names all each_flag memory banks name (Right sum) = refl
same_names all each_flag memory banks name (Amount field) = refl
same_names all each_flag memory banks name (Length base power) = refl
same_names all each_flag memory banks name (Lanes field power) = refl
same_names all each_flag memory banks name (Limits field power) = refl
same_names all each_flag memory banks name (State field) = refl
same_names all each_flag memory banks name (LaneStates paths statuses) = refl

names_decided : (all : Bool) (each_flag : List (Flag × Bool)) (memory : Memory) (banks : List ℕ) (row : Row) (o : Option Instead) → Sub (flat_map (entry_names all each_flag) (decided_entries memory banks row o)) (row_names row)
unfolding entry content_metrics
names_decided all each_flag memory banks row None =
    subst (λ zs. Sub zs (row_names row)) (sym (append-nil (names_of (content_metrics all each_flag row.name (source_content memory banks row.source))) ∙ same_names all each_flag memory banks row.name row.source)) (sub_all (row_names row))
names_decided all each_flag memory banks row (Some (Nothing field n)) = sub_none (row_names row)
names_decided all each_flag memory banks row (Some (Wording field n w)) = sub_none (row_names row)

pub names_sub : (all : Bool) (each_flag : List (Flag × Bool)) (memory : Memory) (banks : List ℕ) (flat : Bool) (rows : List Row) → Sub (flat_map (entry_names all each_flag) (rows_entries memory banks flat rows)) (flat_map row_names rows)
names_sub all each_flag memory banks flat rows =
    rows_sub (entry_names all each_flag) row_names memory banks flat any_row (λ row fit. names_decided all each_flag memory banks row (deciding memory row.instead)) rows (all_any rows)

-- ---- sums

abbrev pub sum_labels : Entry → List (List Label)
sum_labels e = map labels_of (entry_sums e)

abbrev source_sums : List ℕ → Source → List (List Label)
source_sums name (Word w) = []
source_sums name (Either field one other) = []
source_sums name (Code field) = []
source_sums name (Revision field) = []
source_sums name (Next field) = []
source_sums name (Text field) = []
source_sums name (Oui field) = []
source_sums name (Right sum) = (label (codes "sum") name ∷ []) ∷ []
source_sums name (Amount field) = []
source_sums name (Length base power) = []
source_sums name (Lanes field power) = []
source_sums name (Limits field power) = []
source_sums name (State field) = []
source_sums name (LaneStates paths statuses) = []

abbrev pub row_sums : Row → List (List Label)
row_sums row = source_sums row.name row.source

same_sums : (memory : Memory) (banks : List ℕ) (name : List ℕ) (s : Source) → map labels_of (content_sums name (source_content memory banks s)) ≡ source_sums name s
unfolding content_sums source_content sample
same_sums memory banks name (Word w) = refl
same_sums memory banks name (Either field one other) = refl
same_sums memory banks name (Code field) = refl
same_sums memory banks name (Revision field) = refl
same_sums memory banks name (Next field) = refl
same_sums memory banks name (Text field) = refl
same_sums memory banks name (Oui field) = refl
same_sums memory banks name (Right sum) = refl
same_sums memory banks name (Amount field) = refl
same_sums memory banks name (Length base power) = refl
same_sums memory banks name (Lanes field power) = refl
same_sums memory banks name (Limits field power) = refl
same_sums memory banks name (State field) = refl
same_sums memory banks name (LaneStates paths statuses) = refl

sums_decided : (memory : Memory) (banks : List ℕ) (row : Row) (o : Option Instead) → Sub (flat_map sum_labels (decided_entries memory banks row o)) (row_sums row)
unfolding entry content_sums
sums_decided memory banks row None =
    subst (λ zs. Sub zs (row_sums row)) (sym (append-nil (map labels_of (content_sums row.name (source_content memory banks row.source))) ∙ same_sums memory banks row.name row.source)) (sub_all (row_sums row))
sums_decided memory banks row (Some (Nothing field n)) = sub_none (row_sums row)
sums_decided memory banks row (Some (Wording field n w)) = sub_none (row_sums row)

pub sums_sub : (memory : Memory) (banks : List ℕ) (flat : Bool) (rows : List Row) → Sub (flat_map sum_labels (rows_entries memory banks flat rows)) (flat_map row_sums rows)
sums_sub memory banks flat rows =
    rows_sub sum_labels row_sums memory banks flat any_row (λ row fit. sums_decided memory banks row (deciding memory row.instead)) rows (all_any rows)

-- ---- labels of what the module is

abbrev pub entry_keys : Entry → List (List ℕ)
entry_keys e = keys (entry_labels e)

same_keys : (memory : Memory) (banks : List ℕ) (name : List ℕ) (s : Source) → keys (content_labels name (source_content memory banks s)) ≡ (if is_label s then snake name ∷ [] else [])
unfolding content_labels source_content label
same_keys memory banks name (Word w) = refl
same_keys memory banks name (Either field one other) = refl
same_keys memory banks name (Code field) = refl
same_keys memory banks name (Revision field) = refl
same_keys memory banks name (Next field) = refl
same_keys memory banks name (Text field) = refl
same_keys memory banks name (Oui field) = refl
same_keys memory banks name (Right sum) = refl
same_keys memory banks name (Amount field) = refl
same_keys memory banks name (Length base power) = refl
same_keys memory banks name (Lanes field power) = refl
same_keys memory banks name (Limits field power) = refl
same_keys memory banks name (State field) = refl
same_keys memory banks name (LaneStates paths statuses) = refl

-- nothing replaces what it shows
abbrev no_instead : List Instead → Bool
no_instead [] = true
no_instead (case ∷ cases) = false

abbrev pub is_sure : Row → Bool
is_sure row = no_instead row.instead

none_decides : (memory : Memory) (cases : List Instead) → no_instead cases ≡ true → deciding memory cases ≡ None
none_decides memory [] sure = refl
none_decides memory (case ∷ cases) sure = absurd (false≢true sure)

keys_decided : (memory : Memory) (banks : List ℕ) (row : Row) → is_sure row ≡ true → Sub (flat_map entry_keys (decided_entries memory banks row (deciding memory row.instead))) (row_keys row)
unfolding entry
keys_decided memory banks row sure =
    subst (λ o. Sub (flat_map entry_keys (decided_entries memory banks row o)) (row_keys row)) (sym (none_decides memory row.instead sure))
    (subst (λ zs. Sub zs (row_keys row)) (sym (append-nil (keys (content_labels row.name (source_content memory banks row.source))) ∙ same_keys memory banks row.name row.source)) (sub_all (row_keys row)))

pub keys_sub : (memory : Memory) (banks : List ℕ) (flat : Bool) (rows : List Row) → list_all is_sure rows ≡ true → Sub (keys (info_labels (rows_entries memory banks flat rows))) (flat_map row_keys rows)
keys_sub memory banks flat rows sure =
    subst (λ zs. Sub zs (flat_map row_keys rows)) (sym (made_flat (λ (l : Label). l.key) entry_labels (rows_entries memory banks flat rows)))
    (rows_sub entry_keys row_keys memory banks flat is_sure (keys_decided memory banks) rows sure)

-- ---- as many lanes as a module has

few_of : {A : Type 0} (memory : Memory) (of : ℕ → Memory → List A) → ((bank : ℕ) (lanes : Memory) → length (of bank lanes) ≤ 8) → (banks : List ℕ)
    → length (flat_map (λ (bank : ℕ). of bank (lanes_of_bank memory bank)) banks) ≤ 8 * length banks
few_of memory of each [] = omega arith
few_of memory of each (bank ∷ banks) =
    let later = few_of memory of each banks in
    omega (arith, each bank (lanes_of_bank memory bank), later, length-append (of bank (lanes_of_bank memory bank)) (flat_map (λ (bank : ℕ). of bank (lanes_of_bank memory bank)) banks))

few_lanes : {A : Type 0} (memory : Memory) (banks : List ℕ) (of : ℕ → Memory → List A) → ((bank : ℕ) (lanes : Memory) → length (of bank lanes) ≤ 8) → length banks ≤ 3 → length (over_banks memory banks of) ≤ 32
few_lanes memory banks of each few =
    let later = few_of memory of each banks in
    omega (arith, few, each 0 memory, later, length-append (of 0 memory) (flat_map (λ (bank : ℕ). of bank (lanes_of_bank memory bank)) banks))

module _ (memory : Memory) (banks : List ℕ) (few_banks : length banks ≤ 3) where
  source_plain : (s : Source) → source_fits s ≡ true → IsPlain (source_content memory banks s)
  unfolding source_content
  source_plain (Word w) fits = tt
  source_plain (Either field one other) fits = tt
  source_plain (Code field) fits = tt
  source_plain (Revision field) fits = tt
  source_plain (Next field) fits = tt
  source_plain (Text field) fits = tt
  source_plain (Oui field) fits = tt
  source_plain (Right sum) fits = tt
  source_plain (Amount field) fits = tt
  source_plain (Length base power) fits = tt
  source_plain (Lanes field power) fits =
      let both_fit = and_parts (nat_le (row_of field).count 8 && power_fits power) (is_some (row_of field).unit) fits in
      let count = and_parts (nat_le (row_of field).count 8) (power_fits power) both_fit.0 in
      let few : (row_of field).count ≤ 8 = grind (arith, nat_tests) in
      few_lanes memory banks (λ bank lanes. of_each field (amount_at lanes field power)) (λ bank lanes. omega (arith, few, length-map-range_with_len (amount_at lanes field power) 1 (row_of field).count)) few_banks
  source_plain (Limits field power) fits = tt
  source_plain (State field) fits = tt
  source_plain (LaneStates paths statuses) fits = few_lanes memory banks (λ bank lanes. map (lane_state_at lanes paths statuses) (range_with_len 1 8)) (λ bank lanes. omega arith) few_banks

abbrev pub EntryIsPlain : Entry → Type 0
EntryIsPlain e = IsPlain e.content

module _ (memory : Memory) (banks : List ℕ) (few_banks : length banks ≤ 3) where
  plain_decided : (row : Row) → row_fits row ≡ true → (o : Option Instead) → AllByRecursion EntryIsPlain (decided_entries memory banks row o)
  unfolding entry
  plain_decided row fits None = (source_plain memory banks few_banks row.source ((and_parts (list_all instead_fits row.instead) (source_fits row.source) fits).1), tt)
  plain_decided row fits (Some (Nothing field n)) = tt
  plain_decided row fits (Some (Wording field n w)) = (tt, tt)

  plain_kept : (row : Row) → row_fits row ≡ true → (hidden : Bool) → AllByRecursion EntryIsPlain (if hidden then [] else decided_entries memory banks row (deciding memory row.instead))
  plain_kept row fits true = tt
  plain_kept row fits false = plain_decided row fits (deciding memory row.instead)

  plain_row : (flat : Bool) (row : Row) → row_fits row ≡ true → AllByRecursion EntryIsPlain (row_entries memory banks flat row)
  unfolding row_entries
  plain_row flat row fits = plain_kept row fits (row.paged && flat)

pub both : {A : Type 0} (P : A → Type 0) (xs ys : List A) → AllByRecursion P xs → AllByRecursion P ys → AllByRecursion P (xs ++ ys)
both P [] ys all more = more
both P (x ∷ xs) ys all more = (all.0, both P xs ys all.1 more)

pub plain_rows : (memory : Memory) (banks : List ℕ) (flat : Bool) (rows : List Row) → length banks ≤ 3 → list_all row_fits rows ≡ true → AllByRecursion EntryIsPlain (rows_entries memory banks flat rows)
plain_rows memory banks flat [] few fits = tt
plain_rows memory banks flat (row ∷ rows) few fits =
    let parts = and_parts (row_fits row) (list_all row_fits rows) fits in
    both EntryIsPlain (row_entries memory banks flat row) (rows_entries memory banks flat rows) (plain_row memory banks few flat row parts.0) (plain_rows memory banks flat rows few parts.1)

-- ---- sums have their name as their only label

abbrev pub IsSum : List Label → Type 0
IsSum labels = keys labels ≡ codes "sum" ∷ []

source_is_sum : (name : List ℕ) (s : Source) → AllByRecursion IsSum (source_sums name s)
unfolding label
source_is_sum name (Right sum) = (refl, tt)
source_is_sum name _ = tt

pub sums_are : (rows : List Row) → AllByRecursion IsSum (flat_map row_sums rows)
sums_are [] = tt
sums_are (row ∷ rows) = both IsSum (row_sums row) (flat_map row_sums rows) (source_is_sum row.name row.source) (sums_are rows)
