-- The lines of a text: an LF ends a line, the last line may have none, and an empty text has no line. Nothing else ends a
-- line, not even a CR. (docs/formats.md, "Lines"; this project's own)
use Rattle.std.specs.Prelude.{ℕ, Bool, ◌==◌, List, [], ◌∷◌, ◌++◌, map, not, if◌then◌else◌}
use Rattle.std.specs.List.{onto_first, before_first, flat_map, AllPass}

abbrev pub is_lf : ℕ → Bool
is_lf byte = byte == 10

-- each line with the LF that ends it
abbrev pub ended_lines : List ℕ → List (List ℕ)
ended_lines [] = []
ended_lines (byte ∷ text) = if is_lf byte then (byte ∷ []) ∷ ended_lines text else onto_first byte (ended_lines text)

-- each line, without its LF
abbrev pub lines_of : List ℕ → List (List ℕ)
lines_of text = map (before_first is_lf) (ended_lines text)

-- the written text of some lines: an LF ends each
abbrev pub text_of : List (List ℕ) → List ℕ
text_of lines = flat_map (λ line. line ++ 10 ∷ []) lines

abbrev pub HasNoLf : List ℕ → Type 0
HasNoLf line = AllPass (λ byte. not (is_lf byte)) line
