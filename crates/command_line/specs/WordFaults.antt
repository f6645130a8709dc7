-- What is said of a word that follows a flag and is wrong. (docs/formats.md, "Metrics"; this project's own)
use Rattle.std.specs.Prelude.{ℕ, List, ◌++◌, codes}
use Rattle.module_metrics.specs.declared.label_fault.LabelFault.{LabelFault}
use Rattle.module_metrics.specs.declared.label_fault.LabelFault.TheVariants as label
use Rattle.command_line.specs.declared.choice.word_fault.WordFault.{WordFault}
use Rattle.command_line.specs.declared.choice.word_fault.WordFault.TheVariants.{Label, Flags, Color}

abbrev pub label_sentence : LabelFault → List ℕ
label_sentence label.Memory = codes "out of memory"
label_sentence label.NoValue = codes "the word after '--label' has to be KEY=VALUE"
label_sentence label.BadKey =
    codes "the key of a '--label' has to be a letter or '_', and then letters, digits and '_'; '__' may not begin it"
label_sentence label.Taken = codes "samples have the key of this '--label' by themselves"
label_sentence label.Twice = codes "two '--label' have the same key"

abbrev pub word_sentence : WordFault → List ℕ
word_sentence (Label fault) = label_sentence fault
word_sentence Flags = codes "the word after '--flags' has to be 'all'"
word_sentence Color = codes "the word after '--color' has to be 'auto', 'always' or 'never'"

-- as `clap` says what is wrong
abbrev pub word_text : WordFault → List ℕ
word_text fault = codes "error: " ++ word_sentence fault ++ codes "\n\nFor more information, try '--help'.\n"
