-- The labels that words have added: names that no sample has by itself, each once. (docs/formats.md, "Metrics"; this project's own)
use Rattle.std.specs.Prelude.{◌≡◌, ℕ, ◌&&◌, Bool, true, not, List}
use Rattle.std.specs.List.{list_all}
use Rattle.module_metrics.specs.CommonLabels.{is_taken}
use Rattle.module_metrics.specs.Exposition.{Label}
use Rattle.module_metrics.specs.Grammar.{is_name, is_reserved}
use Rattle.module_metrics.specs.WellFormed.{AreApart, keys}

abbrev pub is_free : List ℕ → Bool
is_free key = (is_name key && not (is_reserved key)) && not (is_taken key)

pub record AreAdded (labels : List Label) : Type 0 where
  pub free : list_all is_free (keys labels) ≡ true
  pub apart : AreApart (keys labels)
