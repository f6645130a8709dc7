use Rattle.std.proofs.Common.{sym, ◌∙◌}
use Rattle.saved_provisioning.proofs.TaskStandings.{fault_told, never_waits, no_fault_yet}
use Rattle.saved_provisioning.proofs.tasks.fault_of.Goals as goal

pub returns-in-End : goal.returns-in-End
returns-in-End c = fault_told c.args.list.now c.in-End.fault (sym c.next.ensures.value ∙ c.in-End.is)

pub returns-in-Do : goal.returns-in-Do
returns-in-Do c = no_fault_yet c.args.list.now c.in-Do._op (sym c.next.ensures.value ∙ c.in-Do.is)

pub returns-in-Wait : goal.returns-in-Wait
returns-in-Wait c = absurd (never_waits c.args.list.now c.in-Wait._time (sym c.next.ensures.value ∙ c.in-Wait.is))
