use Rattle.std.proofs.Common.{◌≡◌, map, take, false}
use Rattle.clap.specs.Words.{app_of}
use Rattle.clap.specs.declared.builder.command.Command.TheViews.{out-Command as fields_of}
use Rattle.command_line.specs.Choice.{entry_of, program_of}
use Rattle.command_line.proofs.choice.program.Given as goal

abbrev pub invariant-loop-entry : goal.invariant-loop-entry
invariant-loop-entry l = (app_of l.program ≡ program_of (map entry_of (take l.entry-index l.entry-items)))
    × ((fields_of l.program).has_globals ≡ false)
