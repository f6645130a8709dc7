-- The words of Prometheus' text format: names, and what may stand between quotes. (Prometheus' text-based format, version
-- 0.0.4; Prometheus' data model, "Metric names and labels"; this project's own)
use Rattle.std.specs.Prelude.{ℕ, ◌==◌, ◌&&◌, ◌||◌, Bool, true, false, if◌then◌else◌, nat_le, List, [], ◌∷◌, Option, Some, None, option_map}
use Rattle.std.specs.List.{list_all}

-- ---- names of metrics and of labels

-- letters and underscores
abbrev pub is_letter : ℕ → Bool
is_letter byte = (nat_le 97 byte && nat_le byte 122) || ((nat_le 65 byte && nat_le byte 90) || byte == 95)

abbrev pub is_digit : ℕ → Bool
is_digit byte = nat_le 48 byte && nat_le byte 57

abbrev pub is_in_name : ℕ → Bool
is_in_name byte = is_letter byte || is_digit byte

-- no digit is first
abbrev pub is_name : List ℕ → Bool
is_name [] = false
is_name (byte ∷ more) = is_letter byte && list_all is_in_name more

-- names of labels that begin with two underscores are Prometheus' own
abbrev pub is_reserved : List ℕ → Bool
is_reserved [] = false
is_reserved (byte ∷ []) = false
is_reserved (byte ∷ (other ∷ more)) = byte == 95 && other == 95

-- ---- help: one line, without backslashes

abbrev pub is_help : List ℕ → Bool
is_help text = list_all (λ byte. if byte == 92 then false else if byte == 10 then false else true) text

-- ---- what stands between quotes

-- what a byte after a backslash stands for: another backslash, a quote, or a line feed
abbrev pub special : ℕ → Option ℕ
special byte =
    if byte == 92 then Some 92 else
    if byte == 34 then Some 34 else
    if byte == 110 then Some 10 else None

abbrev pub and_then : Option ℕ → Option (List ℕ) → Option (List ℕ)
and_then None value = None
and_then (Some byte) value = option_map (λ more. byte ∷ more) value

-- the value that is read, after a backslash or not; none if the text can't stand between quotes
abbrev pub unquoted_after : Bool → List ℕ → Option (List ℕ)
unquoted_after true [] = None
unquoted_after false [] = Some []
unquoted_after true (byte ∷ more) = and_then (special byte) (unquoted_after false more)
unquoted_after false (byte ∷ more) =
    if byte == 92 then unquoted_after true more else
    if byte == 34 then None else
    if byte == 10 then None else option_map (λ value. byte ∷ value) (unquoted_after false more)

abbrev pub unquoted : List ℕ → Option (List ℕ)
unquoted text = unquoted_after false text
