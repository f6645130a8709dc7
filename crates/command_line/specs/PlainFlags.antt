-- Flags that take no word, as the words after a command's name give them. (docs/formats.md, "Command line"; this project's own)
use Rattle.std.specs.Prelude.{Bool, true, false, List, [], ◌∷◌, ◌&&◌, not}
use Rattle.std.specs.List.{list_any}
use Rattle.std.specs.Str.{bytes_eq}
use Rattle.clap.specs.Words.{Text}
use Rattle.command_line.specs.GivenFlags.{FlagEntry}
use Rattle.command_line.specs.declared.choice.commands.Takes.{Takes}
use Rattle.command_line.specs.declared.choice.commands.Takes.TheVariants.{Nothing, Word, Words}

-- two hyphens (45) and the name
abbrev pub flag_word : Text → Text
flag_word name = 45 ∷ 45 ∷ name

abbrev pub has_word : List Text → Text → Bool
has_word words word = list_any (bytes_eq word) words

-- the words give the flag
abbrev pub gives : List Text → Text → Bool
gives words flag = list_any (λ word. bytes_eq word (flag_word flag)) words

abbrev pub takes_nothing : Takes → Bool
takes_nothing Nothing = true
takes_nothing Word = false
takes_nothing Words = false

-- the word is one of these flags, and takes no other
abbrev pub is_switch : List FlagEntry → Text → Bool
is_switch flags word = list_any (λ flag. takes_nothing flag.takes && bytes_eq word (flag_word flag.name)) flags

-- each word is one, and none stands twice
abbrev pub are_switches : List FlagEntry → List Text → Bool
are_switches flags [] = true
are_switches flags (word ∷ more) = (is_switch flags word && not (has_word more word)) && are_switches flags more
