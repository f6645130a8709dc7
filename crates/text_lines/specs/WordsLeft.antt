-- What the iterator over the words of a line has left. (This project's own.)
use Rattle.std.specs.Prelude.{ℕ, List, []}
use Rattle.std.specs.Option.{option_map_or}
use Rattle.text_lines.specs.Words.{words_of}
use Rattle.text_lines.specs.declared.words.Words.{Words}

abbrev pub words_left : Words → List (List ℕ)
words_left words = option_map_or (λ line. words_of line.now) words.rest []
