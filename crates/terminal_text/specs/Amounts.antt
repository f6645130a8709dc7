-- Amounts as reports print them: digits, perhaps a point among them, and perhaps a minus before them. (docs/formats.md, "Values in
-- reports" and "observables"; this project's own)
use Rattle.std.specs.Prelude.{ℕ, ◌==◌, ◌&&◌, ◌||◌, Bool, nat_lt, nat_le, not, if◌then◌else◌, List, length, drop, slice_index, unwrap_or}
use Rattle.std.specs.List.{list_all, position}
use Rattle.std.specs.Cmp.Lexicographic.{slice_cmp}
use Rattle.std.specs.Ordering.{is_gt, nat_cmp}

abbrev pub is_point : ℕ → Bool
is_point byte = byte == 46

-- a digit or a point
abbrev pub is_amount_byte : ℕ → Bool
is_amount_byte byte = (nat_le 48 byte && nat_le byte 57) || is_point byte

abbrev pub is_negative : List ℕ → Bool
is_negative word = slice_index word 0 == 45

-- without its sign
abbrev pub size_of : List ℕ → List ℕ
size_of word = if is_negative word then drop 1 word else word

abbrev pub is_amount : List ℕ → Bool
is_amount word = not (length (size_of word) == 0) && list_all is_amount_byte (size_of word)

-- how many digits come before the point
abbrev pub whole_len : List ℕ → ℕ
whole_len size = unwrap_or (position is_point size) (length size)

-- of two sizes that one with more digits before the point is the larger; of as many, that one whose digits are later in order
abbrev pub is_larger : List ℕ → List ℕ → Bool
is_larger size other =
    if whole_len size == whole_len other then is_gt (slice_cmp nat_cmp size other) else nat_lt (whole_len other) (whole_len size)

abbrev pub is_greater : List ℕ → List ℕ → Bool
is_greater amount other =
    if is_negative amount then is_negative other && is_larger (size_of other) (size_of amount)
    else is_negative other || is_larger (size_of amount) (size_of other)

-- both are amounts, and the first is above the second
abbrev pub is_above : List ℕ → List ℕ → Bool
is_above amount other = is_amount amount && (is_amount other && is_greater amount other)

-- above the high limit or below the low one; limits count if the high one is the higher
unfoldable pub is_beyond : List ℕ → List ℕ → List ℕ → Bool
is_beyond amount high low = is_above high low && (is_above amount high || is_above low amount)
