use Rattle.std.proofs.Common.{◌∙◌, rules, tests}
use Rattle.std.specs.Prelude.{◌&&◌}
use Rattle.std.specs.Str.{bytes_eq}
use Rattle.std.proofs.lemmas.Iterator.{YieldsList-from_slice}
use Rattle.std.proofs.lemmas.Iterator.Search.{any_from_yields_List}
use Rattle.clap.proofs.WalkLemmas.{list_any-map}
use Rattle.command_line.specs.GivenFlags.{FlagEntry, flag_of}
use Rattle.command_line.specs.PlainFlags.{flag_word, takes_nothing}
use Rattle.command_line.specs.declared.choice.commands.Flag.{Flag}
use Rattle.command_line.proofs.choice.plain.is_switch.Goals as goal

pub returns : goal.returns
returns c =
    any_from_yields_List (λ (flag : Flag). takes_nothing flag.takes && bytes_eq c.args.word.now (flag_word flag.name.now)) _ _ c.any.result c.any.ensures.ran (YieldsList-from_slice c.args.flags.now cc)
    (λ x b q k. search (rules, tests))
    ∙ list_any-map (λ (flag : FlagEntry). takes_nothing flag.takes && bytes_eq c.args.word.now (flag_word flag.name)) flag_of c.args.flags.now
