-- The lines of Prometheus' text format: of help, of a type, and of a sample. (Prometheus' text-based format, version 0.0.4; this
-- project's own)
use Rattle.std.specs.Prelude.{◌≡◌, ◌⊎◌, ℕ, true, List, ◌∷◌, ◌++◌}
use Rattle.module_metrics.specs.Exposition.{Label, bracketed, help_line, type_line}
use Rattle.module_metrics.specs.Grammar.{is_help, is_name}
use Rattle.module_metrics.specs.Numbers.{Number, number_text}
use Rattle.module_metrics.specs.WellFormed.{AreLabels}

-- what a metric is
pub record IsHelp (line : List ℕ) : Type 0 where
  pub name : List ℕ
  pub help : List ℕ
  pub named : is_name name ≡ true
  pub helped : is_help help ≡ true
  pub is_line : line ≡ help_line name help

pub record IsType (line : List ℕ) : Type 0 where
  pub name : List ℕ
  pub named : is_name name ≡ true
  pub is_line : line ≡ type_line name

-- a name, labels between brackets, a space and a number
pub record IsSample (line : List ℕ) : Type 0 where
  pub name : List ℕ
  pub labels : List Label
  pub number : Number
  pub named : is_name name ≡ true
  pub labelled : AreLabels labels
  pub is_line : line ≡ name ++ (bracketed labels ++ 32 ∷ number_text number)

abbrev pub IsLine : List ℕ → Type 0
IsLine line = IsHelp line ⊎ (IsType line ⊎ IsSample line)
