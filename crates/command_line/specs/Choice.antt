-- The command line `cmisctl COMMAND [FLAGS]`, as `clap` reads it (docs/formats.md; this project's own): one level of
-- subcommands, one of them required, each with its own flags.
use Rattle.std.specs.Prelude.{◌≡◌, Bool, true, List, [], ◌∷◌, fold, Option, Some, Result, Ok}
use Rattle.std.specs.Prelude.{codes, find, map, option_map, option_and_then}
use Rattle.std.specs.List.{list_any}
use Rattle.std.specs.Str.{bytes_eq}
use Rattle.clap.specs.Words.{App, Row, Text, new_app, subcommand_of}
use Rattle.clap.specs.Words.{fault_of, with_rule, with_subcommand, Kinds}
use Rattle.clap.specs.Simple.{on_top}
use Rattle.command_line.specs.declared.choice.commands.CommandEntry.{CommandEntry}
use Rattle.command_line.specs.declared.choice.commands.CommandName.{CommandName}
use Rattle.command_line.specs.declared.choice.commands.CommandName.TheVariants.{Report, Details, Observables, Metrics, Plan, Draw, Check, Provision, Trace}
use Rattle.command_line.specs.declared.choice.commands.ReportName.TheVariants.{Inventory, Apps, Monitors, Flags}
use Rattle.command_line.specs.declared.choice.commands.Request.{Request}
use Rattle.command_line.specs.declared.choice.word_fault.WordFault.{WordFault}
use Rattle.command_line.specs.GivenFlags.{FlagEntry, activate, bus, color_flag, counts_by_id, first, flag_of, flag_rule, flags_flag, json, keep, label_flag, now, paired, svg, switch, wake, with_word, with_words}
use Rattle.command_line.specs.Options.{no_options, options_in, then_with}

-- a command, by its name among the words, and its flags
pub record Entry : Type 0 where
  pub name : Text
  pub command : CommandName
  pub flags : List FlagEntry

-- one of the table in `src/choice/commands.rt`
abbrev pub entry_of : CommandEntry → Entry
entry_of entry = record { name = entry.name.now; command = entry.command; flags = map flag_of entry.flags.now }

unfoldable pub commands : List Entry
commands =
    record { name = codes "inventory"; command = Report Inventory; flags = switch bus ∷ switch json ∷ [] }
    ∷ record { name = codes "apps"; command = Report Apps; flags = switch bus ∷ switch json ∷ [] }
    ∷ record { name = codes "monitors"; command = Report Monitors; flags = switch bus ∷ switch json ∷ with_word color_flag ∷ [] }
    ∷ record { name = codes "flags"; command = Report Flags; flags = switch bus ∷ switch json ∷ with_word color_flag ∷ [] }
    ∷ record { name = codes "details"; command = Details; flags = switch bus ∷ switch json ∷ [] }
    ∷ record { name = codes "observables"; command = Observables; flags = switch bus ∷ switch json ∷ with_word color_flag ∷ [] }
    ∷ record { name = codes "metrics"; command = Metrics; flags = switch bus ∷ with_words label_flag ∷ with_word flags_flag ∷ [] }
    ∷ record { name = codes "plan"; command = Plan; flags = switch keep ∷ switch paired ∷ switch counts_by_id ∷ switch now ∷ switch json ∷ [] }
    ∷ record { name = codes "draw"; command = Draw; flags = switch svg ∷ switch keep ∷ switch paired ∷ switch counts_by_id ∷ switch now ∷ [] }
    ∷ record { name = codes "check"; command = Check; flags = switch first ∷ switch paired ∷ switch counts_by_id ∷ switch now ∷ switch json ∷ [] }
    ∷ record { name = codes "provision"; command = Provision; flags = switch wake ∷ switch activate ∷ switch keep ∷ switch paired ∷ switch counts_by_id ∷ switch now ∷ switch json ∷ [] }
    ∷ record { name = codes "trace"; command = Trace; flags = switch wake ∷ switch activate ∷ switch keep ∷ switch paired ∷ switch counts_by_id ∷ switch now ∷ switch json ∷ [] }
    ∷ []

-- a command and its flags
abbrev pub command_app : Entry → App
command_app entry =
    fold (λ app flag. with_rule app (flag_rule flag)) (new_app entry.name) entry.flags

-- the program before its commands: it has a version, one of them is required, and `help` is none of them
abbrev pub bare_program : App
bare_program = on_top (λ s. record s {
  has_version = true;
  subcommand_required = true;
  disable_help_subcommand = true;
}) (new_app (codes "cmisctl"))

-- the program with these commands
abbrev pub program_of : List Entry → App
program_of entries =
    fold (λ app entry. with_subcommand app (command_app entry).top) bare_program entries

unfoldable pub program : App
unfolding commands
program = program_of commands

-- the command of this name
abbrev pub entry_named : Text → Option Entry
entry_named name = find (λ entry. bytes_eq entry.name name) commands

-- a command, by its matches
abbrev pub request_with : CommandName → List Row → Result Request WordFault
request_with command rows = then_with (λ options. Ok record { command = command; options = options }) (options_in rows)

-- what a subcommand and its matches ask for, if there is one
abbrev pub request_in : Option (Text × List Row) → Option (Result Request WordFault)
request_in = option_and_then (λ found. option_map (λ entry. request_with entry.command found.1) (entry_named found.0))

abbrev pub json_word : Text
json_word = codes "--json"

-- what a command's name asks for, alone or with `--json`
abbrev pub plain_request : Bool → CommandName → Request
plain_request json command = record { command = command; options = record no_options { json = json } }

-- whether a command has that flag
abbrev pub takes_json : Entry → Bool
takes_json entry = list_any (λ flag. bytes_eq flag.name json) entry.flags

-- what the words ask for, or which word of a flag is wrong
abbrev pub request_of : List Text → Option (Result Request WordFault)
request_of words = request_in (subcommand_of program words)

-- the kinds of error that `clap` may answer to the words, none where it takes them
abbrev pub faults_of : List Text → Kinds
faults_of words = fault_of program words

-- `clap` takes the words, and they ask for this
abbrev pub IsRequestOf : List Text → Request → Type 0
IsRequestOf words request = (request_of words ≡ Some (Ok request)) × (faults_of words ≡ [])
