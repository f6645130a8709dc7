-- The text of kept paths, a line for each, and the first fault of lines that are none. (docs/formats.md, "Kept paths"; this
-- project's own)
use Rattle.std.specs.Prelude.{◌≡◌, ◌≢◌, ℕ, ◌+◌, ◌≤◌, List, ◌∷◌, ◌++◌, length, map, Result, Ok, Err}
use Rattle.std.specs.List.{AllByRecursion}
use Rattle.plan_certificate.specs.declared.path.Path.{Path}
use Rattle.plan_certificate.specs.declared.line.Line.TheVariants.{KeepLine}
use Rattle.plan_certificate.specs.declared.fault.KeptFault.{KeptFault}
use Rattle.plan_certificate.specs.declared.fault.KeptFault.TheVariants.{BadLine, TooMany, NotAdmissible}
use Rattle.plan_certificate.specs.CertificateText.{line_text, IsPathInRange}
use Rattle.plan_certificate.specs.Limits.{most_paths}

-- as in a certificate's text
abbrev pub keep_line : Path → List ℕ
keep_line path = line_text (KeepLine path)

abbrev pub IsKeepLine : List ℕ → Path → Type 0
IsKeepLine line path = IsPathInRange path × (line ≡ keep_line path)

abbrev pub keep_lines : List Path → List (List ℕ)
keep_lines kept = map keep_line kept

pub record IsKeptList (kept : List Path) : Type 0 where
  pub each : AllByRecursion IsPathInRange kept
  pub room : length kept ≤ most_paths

-- these lines are the text of these kept paths
pub record IsKeptText (lines : List (List ℕ)) (kept : List Path) : Type 0 where
  pub lines_are : lines ≡ keep_lines kept
  pub kept_is : IsKeptList kept

-- what is wrong with the line that follows those of kept paths: it is no such line, or a ninth
abbrev pub IsKeptLineFault : List Path → List ℕ → KeptFault → Type 0
IsKeptLineFault kept line (BadLine number) = ((path : Path) → IsPathInRange path → line ≢ keep_line path) × (number ≡ length kept + 1)
IsKeptLineFault kept line TooMany = ((path : Path) × IsKeepLine line path) × (length kept ≡ most_paths)
IsKeptLineFault kept line (NotAdmissible number) = ⊥

-- the lines of kept paths, and then one that is wrong
pub record StopsKept (lines : List (List ℕ)) (kept : List Path) (line : List ℕ) (rest : List (List ℕ)) (fault : KeptFault) : Type 0 where
  pub lines_are : lines ≡ keep_lines kept ++ line ∷ rest
  pub kept_is : IsKeptList kept
  pub wrong : IsKeptLineFault kept line fault

abbrev pub IsFirstKeptFault : List (List ℕ) → KeptFault → Type 0
IsFirstKeptFault lines fault = (kept : List Path) × (line : List ℕ) × (rest : List (List ℕ)) × StopsKept lines kept line rest fault

-- what reading these lines answers
abbrev pub IsKeptAnswer : List (List ℕ) → Result (List Path) KeptFault → Type 0
IsKeptAnswer lines (Ok kept) = IsKeptText lines kept
IsKeptAnswer lines (Err fault) = IsFirstKeptFault lines fault
