-- A text as a value of JSON: a number if it is one, and else a string. (RFC 8259, section 6; docs/formats.md, "JSON"; this
-- project's own)
use Rattle.std.specs.Prelude.{ℕ, Bool, true, false, if◌then◌else◌, List, [], ◌∷◌, Option, Some, None}
use Rattle.json.specs.Json as json
use Rattle.json.specs.Json.{Json}
use Rattle.json.specs.Word.{after_number}

-- a number has been read, and nothing is left
abbrev pub is_read : Option (List ℕ) → Bool
is_read None = false
is_read (Some []) = true
is_read (Some (byte ∷ rest)) = false

unfoldable pub scalar_json : List ℕ → Json
scalar_json text = if is_read (after_number text) then json.number text else json.string text
