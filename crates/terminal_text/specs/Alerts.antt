-- Which lines of a report are beyond a limit. (docs/formats.md, "On a terminal"; this project's own)
use Rattle.std.specs.Prelude.{ℕ, ◌+◌, ◌-◌, ◌==◌, ◌&&◌, ◌||◌, nat_eq, nat_lt, not, Bool, if◌then◌else◌, List, [], ◌∷◌, length, take, codes, Option, Some, None}
use Rattle.std.specs.List.{ends_with, slice_index_or}
use Rattle.std.specs.Str.{bytes_eq}
use Rattle.text_lines.specs.Words.{words_of}
use Rattle.terminal_text.specs.Amounts.{is_beyond}
use Rattle.terminal_text.specs.declared.alert.Alert.{Alert}
use Rattle.terminal_text.specs.declared.alert.Alert.TheVariants.{Alarm, Warning}

abbrev pub Word : Type 0
Word = List ℕ

-- the most words that such a line has
abbrev pub most_words : ℕ
most_words = 16

-- the words of a line, none if they are more
abbrev pub line_words : List ℕ → List Word
line_words line = if nat_lt most_words (length (words_of line)) then [] else words_of line

-- the word at a place, from 0 on; an empty one if there is none
abbrev pub word_at : ℕ → List Word → Word
word_at place words = slice_index_or words place []

-- an alarm comes before a warning
abbrev pub alert_by : Bool → Bool → Option Alert
alert_by alarm warning = if alarm then Some Alarm else if warning then Some Warning else None

-- ---- `flags`: `flag NAME`, or `flag NAME LANE`; `flag none` tells of no flag

abbrev pub is_flag : List Word → Bool
is_flag words = bytes_eq (word_at 0 words) (codes "flag") && not (bytes_eq (word_at 1 words) (codes "none"))

abbrev pub flag_alert : Word → Alert
flag_alert name = if ends_with nat_eq name (codes "-alarm") then Alarm else Warning

-- ---- `observables`: an amount, its limits and its flags on one line

abbrev pub is_observable : List Word → Bool
is_observable words = length words == most_words && (bytes_eq (word_at 5 words) (codes "limits") && bytes_eq (word_at 10 words) (codes "flags"))

abbrev pub is_yes : Word → Bool
is_yes word = bytes_eq word (codes "yes")

-- a high and a low limit are at this place and the next, and their flags five words later
abbrev pub is_raised : ℕ → List Word → Bool
is_raised limits words = is_yes (word_at (limits + 5) words) || is_yes (word_at (limits + 6) words)

unfoldable pub is_passed : ℕ → List Word → Bool
is_passed limits words = is_beyond (word_at 3 words) (word_at limits words) (word_at (limits + 1) words) || is_raised limits words

-- the limits of alarms come before those of warnings
abbrev pub observable_alert : List Word → Option Alert
observable_alert words = alert_by (is_passed 6 words) (is_passed 8 words)

-- ---- `monitors`: `NAME AMOUNT UNIT`, or `NAME LANE AMOUNT UNIT`; the limits come later, on a line `NAME-limits`

abbrev pub is_monitor : List Word → Bool
is_monitor words = length words == 3 || length words == 4

abbrev pub is_limits_of : Word → Word → Bool
is_limits_of name word = ends_with nat_eq word (codes "-limits") && bytes_eq (take (length word - 7) word) name

-- the words of the line with the limits of this name; none if there is no such line
abbrev pub limits_of : Word → List (List ℕ) → List Word
limits_of name [] = []
limits_of name (line ∷ lines) = if is_limits_of name (word_at 0 (line_words line)) then line_words line else limits_of name lines

unfoldable pub monitor_alert : List (List ℕ) → List Word → Option Alert
monitor_alert lines words =
    let limits = limits_of (word_at 0 words) lines in
    let amount = word_at (length words - 2) words in
    alert_by (is_beyond amount (word_at 1 limits) (word_at 2 limits)) (is_beyond amount (word_at 3 limits) (word_at 4 limits))

-- ---- the alert of a line among the lines of a report

abbrev pub alert_of : List (List ℕ) → List ℕ → Option Alert
alert_of lines line =
    let words = line_words line in
    if is_flag words then Some (flag_alert (word_at 1 words))
    else if is_observable words then observable_alert words
    else if is_monitor words then monitor_alert lines words
    else None
