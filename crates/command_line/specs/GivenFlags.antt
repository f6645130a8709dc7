-- The flags of the program: how each is given, and what `clap`'s matches say of it. (docs/formats.md, "Command line"; this project's
-- own)
use Rattle.std.specs.Prelude.{Bool, false, List, Some, codes}
use Rattle.std.specs.Option.{option_map_or}
use Rattle.std.specs.Str.{bytes_eq}
use Rattle.clap.specs.Words.{Row, Rule, Text, first_of, new_rule}
use Rattle.clap.specs.declared.builder.action.ArgAction.TheVariants.{Append, Set, SetTrue}
use Rattle.command_line.specs.declared.choice.commands.Flag.{Flag}
use Rattle.command_line.specs.declared.choice.commands.Takes.{Takes}
use Rattle.command_line.specs.declared.choice.commands.Takes.TheVariants.{Nothing, Word, Words}

-- a flag, and what follows it
pub record FlagEntry : Type 0 where
  pub name : Text
  pub takes : Takes

-- one of the table in `src/choice/commands.rt`
abbrev pub flag_of : Flag → FlagEntry
flag_of flag = record { name = flag.name.now; takes = flag.takes }

abbrev pub switch : Text → FlagEntry
switch name = record { name = name; takes = Nothing }

abbrev pub with_word : Text → FlagEntry
with_word name = record { name = name; takes = Word }

abbrev pub with_words : Text → FlagEntry
with_words name = record { name = name; takes = Words }

abbrev pub bus : Text
bus = codes "bus"

abbrev pub json : Text
json = codes "json"

abbrev pub wake : Text
wake = codes "wake"

abbrev pub activate : Text
activate = codes "activate"

abbrev pub keep : Text
keep = codes "keep"

abbrev pub paired : Text
paired = codes "paired"

abbrev pub counts_by_id : Text
counts_by_id = codes "counts-by-id"

abbrev pub now : Text
now = codes "now"

abbrev pub svg : Text
svg = codes "svg"

abbrev pub first : Text
first = codes "first"

abbrev pub label_flag : Text
label_flag = codes "label"

abbrev pub flags_flag : Text
flags_flag = codes "flags"

abbrev pub color_flag : Text
color_flag = codes "color"

-- ---- how it is given

-- alone at most once, or with a word after it, that at most once or any number of times
abbrev pub taking : Takes → Rule → Rule
taking Nothing rule = record rule { action = Some SetTrue }
taking Word rule = record rule { action = Some Set; value_names = 1 }
taking Words rule = record rule { action = Some Append; value_names = 1 }

-- `--name`
abbrev pub flag_rule : FlagEntry → Rule
flag_rule flag = taking flag.takes (record (new_rule flag.name) { long = Some flag.name })

-- ---- what the matches say

-- `clap` gives a flag the value `true` where it stands among the words
abbrev pub is_given : Text → List Row → Bool
is_given flag rows = option_map_or (λ value. bytes_eq value (codes "true")) (first_of flag rows) false
