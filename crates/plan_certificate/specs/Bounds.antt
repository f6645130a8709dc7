-- A bound for each state that has one, in five bytes: a number, or where in a text it stands. (This project's own.)
use Rattle.std.specs.Prelude.{◌≡◌, ℕ, ◌+◌, ◌-◌, ◌*◌, ◌<◌, ◌==◌, if◌then◌else◌, List, [], Option, Some, None, drop, length, map, slice_index, slice_index_or}
use Rattle.std.specs.List.{range_with_len}
use Rattle.std.specs.Str.Parse.{digits_value}
use Rattle.text_lines.specs.Lines.{lines_of}
use Rattle.text_lines.specs.Words.{words_of}
use Rattle.plan_certificate.specs.declared.certificate.Entry.{Entry}
use Rattle.plan_certificate.specs.declared.line.Line.TheVariants.{StateLine}
use Rattle.plan_certificate.specs.CertificateText.{IsEntryInRange, line_text}
use Rattle.plan_certificate.specs.Limits.{most_states}

-- the text, and the bound of each state, by their places
pub record Bounded : Type 0 where
  pub text : List ℕ
  pub bounds : List (Option ℕ)

abbrev pub line_at : List ℕ → ℕ → List ℕ
line_at text at = slice_index_or (lines_of (drop at text)) 0 []

-- the potential in the line of a state that begins there: its last word
abbrev pub potential_at : List ℕ → ℕ → ℕ
potential_at text at = digits_value 10 (slice_index_or (words_of (line_at text at)) 3 [])

-- the upper byte is 0 for no bound, 1 for one in the text, and else two more than that of the number
abbrev pub bound_of : List ℕ → ℕ → ℕ → Option ℕ
bound_of text low high =
    if high == 0 then None
    else if high == 1 then Some (potential_at text low)
    else Some (low + 4294967296 * (high - 2))

abbrev pub bound_at : List ℕ → List ℕ → List ℕ → ℕ → Option ℕ
bound_at text lows highs place = bound_of text (slice_index lows place) (slice_index highs place)

unfoldable pub bounds_of : List ℕ → List ℕ → List ℕ → List (Option ℕ)
bounds_of text lows highs = map (bound_at text lows highs) (range_with_len 0 most_states)

-- the line of a state begins there
pub record IsStated (text : List ℕ) (at : ℕ) : Type 0 where
  pub entry : Entry
  pub in_range : IsEntryInRange entry
  pub line : line_at text at ≡ line_text (StateLine entry)
  pub within : at < length text

-- there are five bytes for each state, and what is to stand in the text does
pub record AreBounds (text lows highs : List ℕ) : Type 0 where
  pub low : length lows ≡ most_states
  pub high : length highs ≡ most_states
  pub stated : (place : ℕ) → place < most_states → slice_index highs place ≡ 1 → IsStated text (slice_index lows place)
