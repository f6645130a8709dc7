-- When a report is printed in colors, and how. (docs/formats.md, "On a terminal"; this project's own)
use Rattle.std.specs.Prelude.{ℕ, Bool, true, false, ◌&&◌, not, if◌then◌else◌, List, [], codes, Option, Some, None, Result, Ok, Err, String}
use Rattle.std.specs.Str.{bytes_eq}
use Rattle.std.specs.String.{string_bytes}
use Rattle.std.specs.declared.alloc.Global.{Global}
use Rattle.std.specs.declared.env.VarError.{VarError}
use Rattle.std.specs.declared.env.VarError.TheVariants.{NotPresent}
use Rattle.clap.specs.Words.{Text}
use Rattle.terminal_text.specs.Colors.{colored}
use Rattle.command_line.specs.declared.choice.commands.Request.{Request}
use Rattle.command_line.specs.declared.choice.coloring.Coloring.{Coloring}
use Rattle.command_line.specs.declared.choice.coloring.Coloring.TheVariants.{Auto, Always, Never}
use Rattle.command_line.specs.declared.choice.word_fault.WordFault.{WordFault}
use Rattle.command_line.specs.declared.choice.word_fault.WordFault.TheVariants.{Color}

-- ---- what the word after the flag asks for

abbrev pub coloring_named : Text → Result Coloring WordFault
coloring_named w =
    if bytes_eq w (codes "auto") then Ok Auto
    else if bytes_eq w (codes "always") then Ok Always
    else if bytes_eq w (codes "never") then Ok Never
    else Err Color

-- without the flag it is left to the terminal
abbrev pub coloring_by : Option Text → Result Coloring WordFault
coloring_by (Some w) = coloring_named w
coloring_by None = Ok Auto

-- ---- whether there are colors if no word says so

-- a variable of the environment that has a value, if not an empty one; one that can't be read has some value
abbrev pub is_set : Result (String Global) VarError → Bool
is_set (Ok value) = not (bytes_eq (string_bytes value) [])
is_set (Err NotPresent) = false
is_set (Err error) = true

abbrev pub is_dumb : Result (String Global) VarError → Bool
is_dumb (Ok value) = bytes_eq (string_bytes value) (codes "dumb")
is_dumb (Err error) = false

-- by NO_COLOR (no-color.org) and TERM (terminfo)
abbrev pub allows_colors : Result (String Global) VarError → Result (String Global) VarError → Bool
allows_colors no_color term = not (is_set no_color) && not (is_dumb term)

-- ---- a report on such a terminal, or elsewhere

abbrev pub on_screen : Bool → Coloring → Coloring
on_screen true Auto = Always
on_screen false Auto = Never
on_screen shows Always = Always
on_screen shows Never = Never

abbrev pub request_on_screen : Bool → Request → Request
request_on_screen shows request = record request { options = record (request.options) { coloring = on_screen shows request.options.coloring } }

-- how a report is shown; JSON has no colors
abbrev pub shown_as : Coloring → Bool → List ℕ → List ℕ
shown_as Always true text = text
shown_as Always false text = colored text
shown_as Auto json text = text
shown_as Never json text = text
