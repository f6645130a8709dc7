use Rattle.std.proofs.Common.{refl}
use Rattle.command_line.proofs.choice.help.of_command.Goals as goal

pub returns-in-Plan : goal.returns-in-Plan
returns-in-Plan c = rw c.in-Plan.is refl

pub returns-in-Draw : goal.returns-in-Draw
returns-in-Draw c = rw c.in-Draw.is refl

pub returns-in-Provision : goal.returns-in-Provision
returns-in-Provision c = rw c.in-Provision.is refl

pub returns-in-Trace : goal.returns-in-Trace
returns-in-Trace c = rw c.in-Trace.is refl
