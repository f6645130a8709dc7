-- Texts of a module's memory as C is shown them. (docs/firmware.md, "Decoders"; this project's own)
use Rattle.std.specs.Prelude.{ℕ, map, List, Option, Some, None, slice_get}
use Rattle.std.specs.List.{range_with_len}
use Rattle.module_decoding.specs.PaddedTexts.{shown_byte, trimmed}

-- after the last byte comes NUL
abbrev pub shown_letter : Option ℕ → ℕ
shown_letter (Some byte) = shown_byte byte
shown_letter None = 0

abbrev pub letter_at : List ℕ → ℕ → ℕ
letter_at bytes place = shown_letter (slice_get bytes place)

-- room for 16 bytes and a NUL
unfoldable pub shown_text : List ℕ → List ℕ
shown_text bytes = map (letter_at (trimmed bytes)) (range_with_len 0 17)
