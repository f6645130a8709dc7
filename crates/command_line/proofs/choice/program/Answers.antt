use Rattle.std.proofs.Common.{rules, ◌∙◌, ap, ap₂, sym, map}
use Rattle.std.proofs.lemmas.List.{take_all}
use Rattle.clap.specs.Words.{App, with_subcommand}
use Rattle.command_line.specs.Choice.{Entry, bare_program, command_app, entry_of, program, program_of}
use Rattle.command_line.proofs.FoldLemmas.{fold_map_more}
use Rattle.command_line.proofs.choice.program.Goals as goal

pub loop-entry-preserved : goal.loop-entry-preserved
loop-entry-preserved c =
    let added = c.in_ok-program.ensures in
    let more = fold_map_more (λ app (entry : Entry). with_subcommand app (command_app entry).top) entry_of bare_program
    c.commands-entry-items.result.now c.loop-entry.entry-index _ c.loop-entry-test.true in (
      added.shape c.in_ok-command.ensures.local
          ∙ (ap₂ (λ (app sub : App). with_subcommand app sub.top) c.loop-entry.invariant.0 c.in_ok-command.ensures.app ∙ sym more),
      search rules,
    )

pub returns-clause-app : goal.returns-clause-app
unfolding program
returns-clause-app c = c.loop-entry.invariant.0
    ∙ ap program_of (ap (map entry_of) (take_all c.loop-entry.entry-index c.commands-entry-items.result.now c.loop-entry-test.false)
    ∙ c.commands-entry-items.ensures)
