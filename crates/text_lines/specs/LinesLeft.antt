-- What the iterator over the lines of a text has left. (This project's own.)
use Rattle.std.specs.Prelude.{ℕ, List}
use Rattle.text_lines.specs.Lines.{lines_of}
use Rattle.text_lines.specs.declared.lines.Lines.{Lines}

abbrev pub lines_left : Lines → List (List ℕ)
lines_left lines = lines_of lines.rest.now
