-- What C is told in words: into a buffer that has room for the text. (docs/firmware.md, "Texts"; this project's own)
use Rattle.std.specs.Prelude.{ℕ, nat_lt, if◌then◌else◌, List, ◌++◌, length, drop, Option, Some, None}
use Rattle.firmware_api.specs.declared.status.Refusal.{Refusal}
use Rattle.firmware_api.specs.declared.status.Refusal.TheVariants.{NoText, TooSmall}

-- there is no text, or it is longer than the buffer
abbrev pub text_refusal : Option (List ℕ) → ℕ → Option Refusal
text_refusal None size = Some NoText
text_refusal (Some text) size = if nat_lt size (length text) then Some TooSmall else None

-- the buffer afterwards, whose bytes after the text stay, and the text's length
abbrev pub with_text : List ℕ → List ℕ → List ℕ × ℕ
with_text buffer text = (text ++ drop (length text) buffer, length text)
