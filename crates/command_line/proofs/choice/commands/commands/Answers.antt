use Rattle.std.proofs.Common.{refl}
use Rattle.command_line.specs.Choice.{commands}
use Rattle.command_line.proofs.choice.commands.commands.Goals as goal

pub returns : goal.returns
unfolding commands
returns c = refl
