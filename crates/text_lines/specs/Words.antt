-- The words of a line: what stands between single spaces. (docs/formats.md, "Lines"; this project's own)
use Rattle.std.specs.Prelude.{ℕ, Bool, ◌==◌, not, List}
use Rattle.std.specs.List.{slice_split, join_with_byte, AllPass}

abbrev pub is_space : ℕ → Bool
is_space byte = byte == 32

-- two spaces side by side have an empty word between them
abbrev pub words_of : List ℕ → List (List ℕ)
words_of line = slice_split is_space line

-- the line of these words
abbrev pub spaced : List (List ℕ) → List ℕ
spaced words = join_with_byte 32 words

-- a word has no space in it
abbrev pub IsWord : List ℕ → Type 0
IsWord word = AllPass (λ byte. not (is_space byte)) word
