-- Metrics, and their text: of each metric a line of help, one of its type, and a line for each sample.
-- (Prometheus' text-based format, version 0.0.4; docs/formats.md, "Metrics"; this project's own)
use Rattle.std.specs.Prelude.{ℕ, ◌==◌, if◌then◌else◌, Bool, true, false, length, ℤ, List, [], ◌∷◌, ◌++◌, map, codes}
use Rattle.std.specs.List.{flat_map}
use Rattle.text_lines.specs.Lines.{text_of}
use Rattle.module_metrics.specs.Numbers.{Number, number_text, parts}

pub record Label : Type 0 where
  pub key : List ℕ
  pub value : List ℕ

unfoldable pub label : List ℕ → List ℕ → Label
label key value = record { key = key; value = value }

-- a number under labels
pub record Sample : Type 0 where
  pub labels : List Label
  pub number : Number

-- so many parts, of which 10 ^ places are one
unfoldable pub sample : List Label → ℤ → ℕ → Sample
sample labels z places = record { labels = labels; number = parts z places }

-- what stands under a name
pub record Metric : Type 0 where
  pub name : List ℕ
  pub help : List ℕ
  pub samples : List Sample

unfoldable pub metric : List ℕ → List ℕ → List Sample → Metric
metric name help samples = record { name = name; help = help; samples = samples }

-- ---- labels

-- a backslash before a backslash and before a quote; a line feed is a backslash and n
abbrev pub escape : ℕ → List ℕ
escape byte =
    if byte == 92 then 92 ∷ 92 ∷ [] else
    if byte == 34 then 92 ∷ 34 ∷ [] else
    if byte == 10 then 92 ∷ 110 ∷ [] else byte ∷ []

unfoldable pub escaped : List ℕ → List ℕ
escaped value = flat_map escape value

-- a key, and its value between quotes
unfoldable pub label_text : Label → List ℕ
label_text l = l.key ++ (61 ∷ 34 ∷ (escaped l.value ++ 34 ∷ []))

-- before the first label stands a bracket, before each other a comma
abbrev pub mark : Bool → ℕ
mark is_first = if is_first then 123 else 44

abbrev pub marked : Bool → List Label → List ℕ
marked is_first [] = []
marked is_first (l ∷ ls) = (mark is_first ∷ label_text l) ++ marked false ls

-- after the last label stands a bracket
abbrev pub closing : Bool → List ℕ
closing is_none = if is_none then [] else 125 ∷ []

unfoldable pub bracketed : List Label → List ℕ
bracketed labels = marked true labels ++ closing (length labels == 0)

-- ---- lines

-- the labels that all samples have come first
unfoldable pub sample_line : List ℕ → List Label → Sample → List ℕ
sample_line name common s = name ++ (bracketed (common ++ s.labels) ++ 32 ∷ number_text s.number)

unfoldable pub help_line : List ℕ → List ℕ → List ℕ
help_line name help = codes "# HELP " ++ (name ++ 32 ∷ help)

-- all are gauges: numbers that go up and down
unfoldable pub type_line : List ℕ → List ℕ
type_line name = codes "# TYPE " ++ (name ++ codes " gauge")

abbrev pub metric_lines : List Label → Metric → List (List ℕ)
metric_lines common m = help_line m.name m.help ∷ type_line m.name ∷ map (sample_line m.name common) m.samples

abbrev pub metrics_lines : List Label → List Metric → List (List ℕ)
metrics_lines common metrics = flat_map (metric_lines common) metrics

abbrev pub exposition : List Label → List Metric → List ℕ
exposition common metrics = text_of (metrics_lines common metrics)
