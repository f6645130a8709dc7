-- The parts of the program's input: what stands between lines that are exactly `---`. (docs/formats.md, "Input"; this
-- project's own)
use Rattle.std.specs.Prelude.{ℕ, Bool, ◌||◌, List, [], map, codes}
use Rattle.std.specs.List.{concat, slice_split}
use Rattle.std.specs.Option.{option_map_or}
use Rattle.std.specs.Str.{bytes_eq}
use Rattle.text_lines.specs.Lines.{ended_lines}
use Rattle.command_line.specs.declared.parts.Pieces.{Pieces}

-- the line `---`, with or without an LF
abbrev pub is_separator_line : List ℕ → Bool
is_separator_line line = bytes_eq line (codes "---") || bytes_eq line (codes "---\n")

-- the lines between separators, put together again
unfoldable pub parts_of : List ℕ → List (List ℕ)
parts_of input = map concat (slice_split is_separator_line (ended_lines input))

-- the most parts that a command takes
abbrev pub most_parts : ℕ
most_parts = 4

-- what the iterator over the parts of an input has left
abbrev pub parts_left : Pieces → List (List ℕ)
parts_left parts = option_map_or (λ rest. parts_of rest.now) parts.rest []
