use Rattle.std.proofs.Common.{sym, subst}
use Rattle.port_manager.specs.declared.job.Job.{Job}
use Rattle.saved_port.specs.Known.{TellsSo}
use Rattle.saved_port.proofs.known.tell_job.Goals as goal

pub returns-in-Provisioning : goal.returns-in-Provisioning
returns-in-Provisioning c = subst (λ (j : Job). TellsSo c.args.reply.now j) (sym c.in-Provisioning.is) c.tell_procedure.ensures

pub returns-in-Activating : goal.returns-in-Activating
returns-in-Activating c = subst (λ (j : Job). TellsSo c.args.reply.now j) (sym c.in-Activating.is) c.tell_procedure-in-Activating.ensures
