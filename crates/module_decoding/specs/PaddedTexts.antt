-- What is shown of a text's bytes. (docs/fields.md, "Texts"; docs/formats.md, "Values in reports"; this project's own)
use Rattle.std.specs.Prelude.{ℕ, ◌-◌, ◌==◌, ◌||◌, ◌&&◌, Bool, nat_le, if◌then◌else◌, length, take, List}
use Rattle.std.specs.List.{suffix_len}

-- a space or NUL
abbrev pub is_padding : ℕ → Bool
is_padding byte = byte == 32 || byte == 0

-- without the padding at the end
abbrev pub trimmed : List ℕ → List ℕ
trimmed bytes = take (length bytes - suffix_len is_padding bytes) bytes

-- what is no printable ASCII shows as a question mark
abbrev pub shown_byte : ℕ → ℕ
shown_byte byte = if nat_le 32 byte && nat_le byte 126 then byte else 63
