-- What the flags of a command ask for, and why the words of some are wrong. (docs/formats.md, "Command line" and "Metrics"; this
-- project's own)
use Rattle.std.specs.Prelude.{Bool, true, false, if◌then◌else◌, List, [], ◌∷◌, ◌++◌, Option, Some, None, Result, Ok, Err, codes, unwrap_or}
use Rattle.std.specs.Str.{bytes_eq}
use Rattle.clap.specs.Words.{Row, Text, all_of, first_of}
use Rattle.module_metrics.specs.CommonLabels.{key_of, label_fault, value_of}
use Rattle.module_metrics.specs.Exposition.{Label, label}
use Rattle.module_metrics.specs.declared.label_fault.LabelFault.{LabelFault}
use Rattle.command_line.specs.Coloring.{coloring_by}
use Rattle.command_line.specs.GivenFlags.{activate, bus, color_flag, counts_by_id, first, flags_flag, is_given, json, keep, label_flag, now, paired, svg, wake}
use Rattle.command_line.specs.declared.choice.coloring.Coloring.{Coloring}
use Rattle.command_line.specs.declared.choice.coloring.Coloring.TheVariants.{Auto}
use Rattle.command_line.specs.declared.choice.options.Options.{Options}
use Rattle.command_line.specs.declared.choice.word_fault.WordFault.{WordFault}
use Rattle.command_line.specs.declared.choice.word_fault.WordFault.TheVariants as word

-- each flag of the module is asked for by the word `all`
abbrev pub all_by : Option Text → Result Bool WordFault
all_by None = Ok false
all_by (Some w) = if bytes_eq w (codes "all") then Ok true else Err word.Flags

-- one label more, unless it has a fault
abbrev pub more_labels : List Label → Text → Option LabelFault → Result (List Label) WordFault
more_labels labels w None = Ok (labels ++ label (key_of w) (value_of w) ∷ [])
more_labels labels w (Some fault) = Err (word.Label fault)

abbrev pub with_label : List Label → Text → Result (List Label) WordFault
with_label labels w = more_labels labels w (label_fault labels w)

-- what is done with a success
abbrev pub then_with : {A B : Type 0} → (A → Result B WordFault) → Result A WordFault → Result B WordFault
then_with f (Ok x) = f x
then_with f (Err fault) = Err fault

-- labels, and those of words after them; the first fault is that of all
abbrev pub labels_with : List Label → List Text → Result (List Label) WordFault
labels_with labels [] = Ok labels
labels_with labels (w ∷ ws) = then_with (λ more. labels_with more ws) (with_label labels w)

abbrev pub labels_in : List Row → Result (List Label) WordFault
labels_in rows = labels_with [] (unwrap_or (all_of label_flag rows) [])

-- what is given, by what gives flags and how the words of flags are read
abbrev pub options_by : (Text → Bool) → Coloring → List Label → Bool → Options
options_by gives coloring labels all_flags = record {
  json = gives json;
  bus = gives bus;
  coloring = coloring;
  all_flags = all_flags;
  labels = labels;
  svg = gives svg;
  keep = gives keep;
  first = gives first;
  wake = gives wake;
  activate = gives activate;
  conventions = record { paired = gives paired; counts_by_id = gives counts_by_id; now = gives now };
}

abbrev pub options_of : List Row → Coloring → List Label → Bool → Options
options_of rows = options_by (λ flag. is_given flag rows)

-- the labels are judged before the word of `--flags`
abbrev pub options_in : List Row → Result Options WordFault
options_in rows =
    then_with (λ coloring. then_with (λ labels. then_with (λ all_flags. Ok (options_of rows coloring labels all_flags)) (all_by (first_of flags_flag rows))) (labels_in rows))
    (coloring_by (first_of color_flag rows))

-- no flag is given
abbrev pub no_options : Options
no_options = options_of [] Auto [] false
