use Rattle.std.proofs.Common.{rules, ◌∙◌, ap, tests, find, option_map}
use Rattle.std.specs.Str.{bytes_eq}
use Rattle.std.proofs.lemmas.Iterator.{YieldsList-from_slice}
use Rattle.std.proofs.lemmas.Iterator.Search.{find_from_yields_List}
use Rattle.clap.proofs.WalkLemmas.{find-map}
use Rattle.command_line.specs.declared.choice.commands.CommandEntry.{CommandEntry}
use Rattle.command_line.specs.Choice.{Entry, entry_of}
use Rattle.command_line.proofs.choice.commands.command_named.Goals as goal

pub returns : goal.returns
returns c =
    let entries = c.commands.result.now in
    let found = find_from_yields_List (λ (entry : CommandEntry). bytes_eq entry.name.now c.args.name.now) _ _ c.find.result c.find.ensures.ran (YieldsList-from_slice entries cc)
    (λ x b q k. search (rules, tests)) in
    ap (option_map entry_of) found
    ∙ (find-map (λ (entry : Entry). bytes_eq entry.name c.args.name.now) entry_of entries
    ∙ ap (find (λ (entry : Entry). bytes_eq entry.name c.args.name.now)) c.commands.ensures)
