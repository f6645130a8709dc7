-- A text without its escape sequences. (ECMA-48, "SGR": from ESC to an m; this project's own)
use Rattle.std.specs.Prelude.{ℕ, ◌==◌, not, if◌then◌else◌, Bool, true, false, List, [], ◌∷◌}
use Rattle.std.specs.List.{AllPass}
use Rattle.text_lines.specs.Lines.{HasNoLf}

abbrev pub is_escape : ℕ → Bool
is_escape byte = byte == 27

-- what comes outside of escape sequences, of a text that begins within one or not
abbrev pub outside : Bool → List ℕ → List ℕ
outside within [] = []
outside true (byte ∷ text) = outside (not (byte == 109)) text
outside false (byte ∷ text) = if is_escape byte then outside true text else byte ∷ outside false text

abbrev pub without_escapes : List ℕ → List ℕ
without_escapes text = outside false text

-- a line of a report
abbrev pub IsPlain : List ℕ → Type 0
IsPlain line = HasNoLf line × AllPass (λ byte. not (is_escape byte)) line
