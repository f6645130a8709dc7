use Rattle.std.proofs.Common.{refl}
use Rattle.clap.proofs.OnLiterals.{clap_on_literals}
use Rattle.command_line.specs.Choice.{commands, program}
use Rattle.command_line.proofs.choice.help_is_a_flag.Goals as goal

pub returns : goal.returns
unfolding clap_on_literals program commands
returns c = record {
  long = λ program_name. refl;
  short = λ program_name. refl;
  word = λ program_name. refl;
  version = λ program_name. refl;
  nothing = λ program_name. refl;
}
