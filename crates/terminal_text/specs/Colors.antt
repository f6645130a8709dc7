-- A report in colors, by escape sequences: ESC, an opening bracket, a number and an m. (ECMA-48, "SGR": 31 is red, 33 yellow, 0 the
-- default; docs/formats.md, "On a terminal"; the choice of lines is this project's own)
use Rattle.std.specs.Prelude.{ℕ, List, [], ◌∷◌, ◌++◌, map, codes, Option, Some, None}
use Rattle.text_lines.specs.Lines.{lines_of, text_of}
use Rattle.terminal_text.specs.Alerts.{alert_of}
use Rattle.terminal_text.specs.declared.alert.Alert.{Alert}
use Rattle.terminal_text.specs.declared.alert.Alert.TheVariants.{Alarm, Warning}

-- what comes before a line
abbrev pub start_of : Option Alert → List ℕ
start_of (Some Alarm) = 27 ∷ codes "[31m"
start_of (Some Warning) = 27 ∷ codes "[33m"
start_of None = []

-- what comes after it
abbrev pub end_of : Option Alert → List ℕ
end_of (Some alert) = 27 ∷ codes "[0m"
end_of None = []

abbrev pub painted : Option Alert → List ℕ → List ℕ
painted alert line = start_of alert ++ line ++ end_of alert

-- these lines, each in the color of its alert
abbrev pub colored_lines : List (List ℕ) → List (List ℕ) → List (List ℕ)
colored_lines all lines = map (λ line. painted (alert_of all line) line) lines

unfoldable pub colored : List ℕ → List ℕ
colored text = text_of (colored_lines (lines_of text) (lines_of text))
