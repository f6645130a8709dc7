use Rattle.std.proofs.Common.{refl}
use Rattle.clap.proofs.OnLiterals.{clap_on_literals}
use Rattle.command_line.specs.Choice.{commands, program}
use Rattle.command_line.proofs.choice.names_choose_their_commands.Goals as goal

pub returns : goal.returns
unfolding clap_on_literals program commands
returns c = record {
  taken = λ program_name. refl;
  chosen = λ program_name. refl;
  json = λ program_name. refl;
}
