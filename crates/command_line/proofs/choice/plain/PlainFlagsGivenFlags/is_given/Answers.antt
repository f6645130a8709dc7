use Rattle.std.proofs.Common.{◌∙◌, String, Global, rules, string_bytes, tests}
use Rattle.std.specs.Str.{bytes_eq}
use Rattle.clap.specs.Words.{Text}
use Rattle.std.proofs.lemmas.Iterator.{YieldsList-from_slice}
use Rattle.std.proofs.lemmas.Iterator.Search.{any_from_yields_List}
use Rattle.clap.proofs.WalkLemmas.{list_any-map}
use Rattle.command_line.specs.PlainFlags.{flag_word}
use Rattle.command_line.proofs.choice.plain.PlainFlagsGivenFlags.is_given.Goals as goal

pub returns : goal.returns
returns c =
    any_from_yields_List (λ (word : String Global). bytes_eq (string_bytes word) (flag_word c.args.flag.now)) _ _ c.any.result c.any.ensures.ran (YieldsList-from_slice c.args.self.now.words.now cc)
    (λ x b q k. search (rules, tests))
    ∙ list_any-map (λ (word : Text). bytes_eq word (flag_word c.args.flag.now)) string_bytes c.args.self.now.words.now
