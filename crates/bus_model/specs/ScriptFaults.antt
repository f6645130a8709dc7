-- The first fault of lines that are no script's text. (docs/formats.md, "Script"; this project's own)
use Rattle.std.specs.Prelude.{◌≡◌, ℕ, ◌+◌, List, ◌∷◌, ◌++◌, length, Result, Ok, Err}
use Rattle.bus_model.specs.declared.script.Directive.{Directive}
use Rattle.bus_model.specs.declared.fault.ScriptFault.{ScriptFault}
use Rattle.bus_model.specs.declared.fault.ScriptFault.TheVariants.{BadLine, TooLong}
use Rattle.bus_model.specs.ScriptText.{script_lines, IsDirectiveLine, IsScript, IsTextOf}

-- the line is a directive's
abbrev pub Spells : List ℕ → Type 0
Spells line = (directive : Directive) × IsDirectiveLine line directive

-- what is wrong with the line that follows a script's lines
abbrev pub IsLineFault : List Directive → List ℕ → ScriptFault → Type 0
IsLineFault script line (BadLine number) = ¬ (Spells line) × (number ≡ length script + 1)
IsLineFault script line TooLong = Spells line × (length script ≡ 1024)

-- a script's lines, and then one that is wrong
pub record Stops (lines : List (List ℕ)) (script : List Directive) (line : List ℕ) (rest : List (List ℕ))
    (fault : ScriptFault) : Type 0 where
  pub lines_are : lines ≡ script_lines script ++ line ∷ rest
  pub script_is : IsScript script
  pub wrong : IsLineFault script line fault

abbrev pub IsFirstFault : List (List ℕ) → ScriptFault → Type 0
IsFirstFault lines fault =
    (script : List Directive) × (line : List ℕ) × (rest : List (List ℕ)) × Stops lines script line rest fault

-- what reading these lines answers
abbrev pub IsAnswer : List (List ℕ) → Result (List Directive) ScriptFault → Type 0
IsAnswer lines (Ok script) = IsTextOf lines script
IsAnswer lines (Err fault) = IsFirstFault lines fault
