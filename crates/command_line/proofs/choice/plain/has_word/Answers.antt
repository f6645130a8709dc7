use Rattle.std.proofs.Common.{◌∙◌, String, Global, rules, string_bytes, tests}
use Rattle.std.specs.Str.{bytes_eq}
use Rattle.std.proofs.lemmas.Iterator.{YieldsList-from_slice}
use Rattle.std.proofs.lemmas.Iterator.Search.{any_from_yields_List}
use Rattle.clap.proofs.WalkLemmas.{list_any-map}
use Rattle.command_line.proofs.choice.plain.has_word.Goals as goal

pub returns : goal.returns
returns c =
    any_from_yields_List (λ (other : String Global). bytes_eq c.args.word.now (string_bytes other)) _ _ c.any.result c.any.ensures.ran (YieldsList-from_slice c.args.words.now cc)
    (λ x b q k. search (rules, tests))
    ∙ list_any-map (bytes_eq c.args.word.now) string_bytes c.args.words.now
