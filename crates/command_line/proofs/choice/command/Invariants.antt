use Rattle.std.proofs.Common.{◌≡◌, map, take, false}
use Rattle.clap.specs.Words.{app_of}
use Rattle.clap.specs.declared.builder.command.Command.TheViews.{out-Command as fields_of}
use Rattle.command_line.specs.Choice.{command_app, entry_of}
use Rattle.command_line.specs.GivenFlags.{flag_of}
use Rattle.command_line.proofs.choice.command.Given as goal

abbrev pub invariant-loop-given : goal.invariant-loop-given
invariant-loop-given l = (app_of l.command ≡ command_app (record (entry_of l.fn.entry) { flags = map flag_of (take l.given-index l.fn.entry.flags.now) }))
    × ((fields_of l.command).has_globals ≡ false)
