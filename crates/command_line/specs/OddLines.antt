-- Which line of weights is none of those that weights usually have: `stay = 50`, once, before all tables; `[host]`, `[media]` and
-- `[app]`, each once, after them lines such as `0Dh = 101`, or `3 = 50` after `[app]`, with each key of a table once; and comments
-- and empty lines anywhere. What lines say stands with the newest first. (docs/formats.md, "Standard error"; this project's own)
use Rattle.std.specs.Prelude.{◌≡◌, ℕ, ◌+◌, ◌<◌, ◌==◌, ◌&&◌, ◌||◌, not, Bool, true, false, List, [], ◌∷◌, codes, length, Option, Some, None, is_none, if◌then◌else◌, slice_get, slice_index_or}
use Rattle.std.specs.Char.{is_ascii_digit}
use Rattle.std.specs.List.{list_all}
use Rattle.std.specs.Option.{option_and_then, option_map_or}
use Rattle.std.specs.Str.{bytes_eq, is_utf8}
use Rattle.text_lines.specs.Lines.{lines_of}
use Rattle.applications.specs.declared.weights.table.WeightTable.{WeightTable}
use Rattle.applications.specs.declared.weights.table.WeightTable.TheVariants.{Host, Media, App}
use Rattle.applications.specs.WeightKeys.{named_by, stay_name}
use Rattle.applications.specs.WeightLines.{content, host_line, key_in, value_in}
use Rattle.command_line.specs.Parts.{parts_of}
use Rattle.command_line.specs.declared.remark.weights_lines.Kind.{Kind}
use Rattle.command_line.specs.declared.remark.weights_lines.Kind.TheVariants.{Nothing, Stay, Header, Weight, Other}
use Rattle.command_line.specs.declared.remark.weights_lines.SoFar.{SoFar}

-- decimal digits, one or more
abbrev pub is_number : List ℕ → Bool
is_number word = not (length word == 0) && list_all is_ascii_digit word

-- the lines above the other tables
unfoldable pub media_line : List ℕ
media_line = codes "[media]"

unfoldable pub app_line : List ℕ
app_line = codes "[app]"

-- the number of which a content says the weight, in this table
abbrev pub weighed : Option WeightTable → List ℕ → Option ℕ
weighed None content = None
weighed (Some table) content = if is_number (value_in content) then named_by table (key_in content) else None

-- a content before all tables that says what staying weighs
abbrev pub is_stay : Option WeightTable → List ℕ → Bool
is_stay table content = is_none table && bytes_eq (key_in content) stay_name && is_number (value_in content)

-- what a line with this content says
abbrev pub kind_in : Option WeightTable → List ℕ → Kind
kind_in table content = if length content == 0 then Nothing
    else if bytes_eq content host_line then Header Host
    else if bytes_eq content media_line then Header Media
    else if bytes_eq content app_line then Header App
    else if is_stay table content then Stay
    else option_map_or Weight (weighed table content) Other

-- what a line says; a usual one is UTF-8
abbrev pub kind_of : Option WeightTable → List ℕ → Kind
kind_of table line = if is_utf8 line then kind_in table (content line) else Other

-- the table that the lines are in
abbrev pub table_after : List Kind → Option WeightTable
table_after [] = None
table_after (Header table ∷ before) = Some table
table_after (kind ∷ before) = table_after before

abbrev pub kind_after : List Kind → List ℕ → Kind
kind_after before line = kind_of (table_after before) line

-- some line begins this table
abbrev pub has_header : WeightTable → List Kind → Bool
has_header table [] = false
has_header Host (Header Host ∷ before) = true
has_header Media (Header Media ∷ before) = true
has_header App (Header App ∷ before) = true
has_header table (kind ∷ before) = has_header table before

-- some line says what staying weighs
abbrev pub has_stay : List Kind → Bool
has_stay [] = false
has_stay (Stay ∷ before) = true
has_stay (kind ∷ before) = has_stay before

-- some line of the table says the weight of this number
abbrev pub is_listed : List Kind → ℕ → Bool
is_listed [] number = false
is_listed (Header table ∷ before) number = false
is_listed (Weight listed ∷ before) number = listed == number || is_listed before number
is_listed (kind ∷ before) number = is_listed before number

-- such a line is odd after those
abbrev pub is_odd : List Kind → Kind → Bool
is_odd before Nothing = false
is_odd before Stay = has_stay before
is_odd before (Header table) = has_header table before
is_odd before (Weight number) = is_listed before number
is_odd before Other = true

-- the number, from 1 on, of the first odd line, if the lines before these say this
abbrev pub odd_line_after : List Kind → List (List ℕ) → Option ℕ
odd_line_after before [] = None
odd_line_after before (line ∷ rest) =
    if is_odd before (kind_after before line) then Some (length before + 1) else odd_line_after (kind_after before line ∷ before) rest

abbrev pub odd_line : List (List ℕ) → Option ℕ
odd_line lines = odd_line_after [] lines

-- the weights are the second part of an input
abbrev pub odd_line_of_weights : List ℕ → Option ℕ
odd_line_of_weights input = option_and_then (λ weights. odd_line (lines_of weights)) (slice_get (parts_of input) 1)

-- what a reader keeps of what was said
pub record Keeps (before : List Kind) (so_far : SoFar) : Type 0 where
  pub table : so_far.table ≡ table_after before
  pub stay : so_far.has_stay ≡ has_stay before
  pub host : so_far.has_host ≡ has_header Host before
  pub media : so_far.has_media ≡ has_header Media before
  pub app : so_far.has_app ≡ has_header App before
  pub listed : (number : ℕ) → number < 256 → slice_index_or so_far.listed number false ≡ is_listed before number
  pub room : length so_far.listed ≡ 256
