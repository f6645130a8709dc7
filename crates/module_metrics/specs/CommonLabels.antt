-- Labels that a user adds to all samples: words KEY=VALUE. Why a word is none, and which labels there are then. (docs/formats.md,
-- "Metrics"; Prometheus' data model, "Metric names and labels"; this project's own)
use Rattle.std.specs.Prelude.{◌≡◌, ℕ, ◌==◌, ◌&&◌, ◌||◌, Bool, true, false, not, if◌then◌else◌, length, List, [], ◌∷◌, ◌++◌, codes, MatchOption, Option, Some, None, Result, Ok, Err}
use Rattle.std.specs.List.{after_first, before_first, flat_map, list_any, position_or_len}
use Rattle.std.specs.Str.{bytes_eq}
use Rattle.paged_memory.specs.declared.family.Family.TheVariants.{Cmis, Sff8636}
use Rattle.report_entries.specs.Rows.{Row, Source, Word, Either, Code, Revision, Next, Text, Oui, Right, Amount, Length, Lanes, Limits, State, LaneStates}
use Rattle.reports.specs.InventoryRows.{inventory_rows}
use Rattle.module_metrics.specs.Exposition.{Label, label}
use Rattle.module_metrics.specs.Grammar.{is_name, is_reserved}
use Rattle.module_metrics.specs.MetricNames.{snake}
use Rattle.module_metrics.specs.declared.label_fault.LabelFault.{LabelFault}
use Rattle.module_metrics.specs.declared.label_fault.LabelFault.TheVariants.{Memory, NoValue, BadKey, Taken, Twice}

-- ---- keys that samples have by themselves

-- whether a line of what a module is has a text or a number, which is a label
abbrev pub is_label : Source → Bool
is_label (Word w) = true
is_label (Either field one other) = true
is_label (Code field) = true
is_label (Revision field) = true
is_label (Next field) = true
is_label (Text field) = true
is_label (Oui field) = true
is_label (Right sum) = false
is_label (Amount field) = false
is_label (Length base power) = false
is_label (Lanes field power) = false
is_label (Limits field power) = false
is_label (State field) = false
is_label (LaneStates paths statuses) = false

abbrev pub row_keys : Row → List (List ℕ)
row_keys row = if is_label row.source then snake row.name ∷ [] else []

-- those of all other metrics
abbrev pub sample_keys : List (List ℕ)
sample_keys =
    codes "lane" ∷ codes "flag" ∷ codes "limit" ∷ codes "state" ∷ codes "status" ∷ codes "sum" ∷ codes "code" ∷ codes "scope" ∷ codes "vdm_instance" ∷ []

abbrev pub is_row_key : List Row → List ℕ → Bool
is_row_key rows key = list_any (bytes_eq key) (flat_map row_keys rows)

-- those and the labels of what a module is: of CMIS, and of SFF, whose families all have the same
unfoldable pub is_taken : List ℕ → Bool
is_taken key =
    list_any (bytes_eq key) sample_keys
    || (is_row_key (inventory_rows Cmis) key || is_row_key (inventory_rows Sff8636) key)

-- ---- words

-- before and after the first equals sign
abbrev pub key_of : List ℕ → List ℕ
key_of word = before_first (λ b. b == 61) word

abbrev pub value_of : List ℕ → List ℕ
value_of word = after_first (λ b. b == 61) word

abbrev pub has_value : List ℕ → Bool
has_value word = not (position_or_len (λ b. b == 61) word == length word)

abbrev pub has_key : List Label → List ℕ → Bool
has_key labels key = list_any (λ (l : Label). bytes_eq key l.key) labels

-- what is wrong with a key, in this order
abbrev pub key_fault : List Label → List ℕ → Option LabelFault
key_fault labels key =
    if not (is_name key && not (is_reserved key)) then Some BadKey else
    if is_taken key then Some Taken else
    if has_key labels key then Some Twice else None

abbrev pub label_fault : List Label → List ℕ → Option LabelFault
label_fault labels word = if has_value word then key_fault labels (key_of word) else Some NoValue

-- the label is the last one then; without memory nothing changes
abbrev pub IsAdded : {T : Type 0} → List Label → List Label → List ℕ → Result T LabelFault → Type 0
IsAdded old new word (Ok done) = new ≡ old ++ label (key_of word) (value_of word) ∷ []
IsAdded old new word (Err fault) = (fault ≡ Memory) × (new ≡ old)

-- a word that is none changes nothing
abbrev pub Adds : {T : Type 0} → List Label → List Label → List ℕ → Result T LabelFault → Type 0
Adds old new word result =
    MatchOption (label_fault old word) (IsAdded old new word result) (λ fault. (result ≡ Err fault) × (new ≡ old))
