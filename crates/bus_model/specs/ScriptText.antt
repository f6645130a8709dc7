-- The text of a script: a line for each directive. (docs/formats.md, "Script"; this project's own)
use Rattle.std.specs.Prelude.{◌≡◌, ℕ, ◌<◌, ◌≤◌, Bool, true, false, List, [], ◌∷◌, length, map, codes}
use Rattle.std.specs.List.{AllByRecursion}
use Rattle.std.specs.Fmt.{decimal}
use Rattle.text_lines.specs.Words.{spaced}
use Rattle.bus_model.specs.declared.script.Directive.{Directive}
use Rattle.bus_model.specs.declared.script.Directive.TheVariants.{Pass, Nack, Cut, Tick, LowPower}

abbrev pub switch_text : Bool → List ℕ
switch_text true = codes "1"
switch_text false = codes "0"

unfoldable pub directive_words : Directive → List (List ℕ)
directive_words (Pass count) = codes "ok" ∷ decimal count ∷ []
directive_words (Nack count) = codes "nack" ∷ decimal count ∷ []
directive_words (Cut kept) = codes "cut" ∷ decimal kept ∷ []
directive_words (Tick count) = codes "tick" ∷ decimal count ∷ []
directive_words (LowPower on) = codes "lpmode" ∷ switch_text on ∷ []

abbrev pub directive_line : Directive → List ℕ
directive_line directive = spaced (directive_words directive)

abbrev pub IsCount : ℕ → Type 0
IsCount count = (0 < count) × (count < 65536)

-- the numbers are in their ranges
abbrev pub IsDirective : Directive → Type 0
IsDirective (Pass count) = IsCount count
IsDirective (Nack count) = IsCount count
IsDirective (Cut kept) = kept ≤ 8
IsDirective (Tick count) = IsCount count
IsDirective (LowPower on) = Unit {0}

abbrev pub IsDirectiveLine : List ℕ → Directive → Type 0
IsDirectiveLine line directive = IsDirective directive × (line ≡ directive_line directive)

abbrev pub script_lines : List Directive → List (List ℕ)
script_lines script = map directive_line script

pub record IsScript (script : List Directive) : Type 0 where
  pub each : AllByRecursion IsDirective script
  pub room : length script ≤ 1024

-- these lines are the text of a script
pub record IsTextOf (lines : List (List ℕ)) (script : List Directive) : Type 0 where
  pub lines_are : lines ≡ script_lines script
  pub script_is : IsScript script
