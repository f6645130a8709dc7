-- When metrics are well formed: their words are those of the format, and nothing stands twice that has to stand once. (Prometheus'
-- text-based format, version 0.0.4; Prometheus' data model, "Metric names and labels"; this project's own)
use Rattle.std.specs.Prelude.{◌≡◌, ◌≢◌, ℕ, ⊤, true, List, [], ◌∷◌, ◌++◌, map}
use Rattle.std.specs.List.{AllByRecursion, list_all}
use Rattle.module_metrics.specs.Exposition.{Label, Metric, Sample}
use Rattle.module_metrics.specs.Grammar.{is_help, is_name}

-- each differs from all after it
abbrev pub AreApart : {A : Type 0} → List A → Type 0
AreApart [] = ⊤
AreApart (x ∷ xs) = AllByRecursion (λ y. x ≢ y) xs × AreApart xs

-- ---- labels

abbrev pub keys : List Label → List (List ℕ)
keys labels = map (λ (l : Label). l.key) labels

-- each key is a name, and none stands twice
pub record AreLabels (labels : List Label) : Type 0 where
  pub named : list_all is_name (keys labels) ≡ true
  pub apart : AreApart (keys labels)

-- ---- metrics

abbrev pub series : Metric → List (List Label)
series m = map (λ (s : Sample). s.labels) m.samples

-- with the labels that all samples have; no two samples have the same labels
pub record IsMetric (common : List Label) (m : Metric) : Type 0 where
  pub named : is_name m.name ≡ true
  pub helped : is_help m.help ≡ true
  pub labelled : AllByRecursion (λ (labels : List Label). AreLabels (common ++ labels)) (series m)
  pub apart : AreApart (series m)

-- no name stands twice
pub record AreMetrics (common : List Label) (metrics : List Metric) : Type 0 where
  pub each : AllByRecursion (IsMetric common) metrics
  pub apart : AreApart (map (λ (m : Metric). m.name) metrics)
