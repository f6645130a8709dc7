use Rattle.std.proofs.Common.{sym, ap, subst, ◌∙◌}
use Rattle.port_manager.specs.declared.job.Job.{Job}
use Rattle.port_manager.specs.declared.port.Stage.TheVariants.{Working}
use Rattle.saved_port.specs.Known.{HasRead, IsKnownJob}
use Rattle.std.specs.Prelude.{Some}
use Rattle.saved_port.proofs.Back.{activating_stage, confirming_stage, provisioning_stage, reading_stage, sleeping_stage, waking_stage, watching_stage}
use Rattle.saved_port.proofs.saving.numbers_of_job.Goals as goal

pub returns-in-Reading-clause-same : goal.returns-in-Reading-clause-same
returns-in-Reading-clause-same c image read known =
    reading_stage c.in-Reading.reading c.in-Reading.woken image c.no_reason.result c.no_goal.result c.work_of_reading.result c.work_of_reading.ensures (subst (HasRead image) c.in-Reading.is read)
    ∙ ap (λ (j : Job). Some (Working j)) (sym c.in-Reading.is)

pub returns-in-Waking-clause-same : goal.returns-in-Waking-clause-same
returns-in-Waking-clause-same c image read known =
    waking_stage c.in-Waking.change image c.no_reason-in-Waking.result c.no_goal-in-Waking.result c.work_of_waking.result c.work_of_waking.ensures ∙ ap (λ (j : Job). Some (Working j)) (sym c.in-Waking.is)

pub returns-in-Sleeping-clause-same : goal.returns-in-Sleeping-clause-same
returns-in-Sleeping-clause-same c image read known =
    sleeping_stage c.in-Sleeping.change image c.no_reason-in-Sleeping.result c.no_goal-in-Sleeping.result c.work_of_waking-in-Sleeping.result c.work_of_waking-in-Sleeping.ensures ∙ ap (λ (j : Job). Some (Working j)) (sym c.in-Sleeping.is)

pub returns-in-Provisioning-clause-same : goal.returns-in-Provisioning-clause-same
returns-in-Provisioning-clause-same c image read known =
    provisioning_stage c.in-Provisioning.procedure c.in-Provisioning.goal image c.no_reason-in-Provisioning.result c.numbers_of_goal.result c.work_of_procedure.result c.numbers_of_goal.ensures
    (c.work_of_procedure.ensures (subst IsKnownJob c.in-Provisioning.is known)) ∙ ap (λ (j : Job). Some (Working j)) (sym c.in-Provisioning.is)

pub returns-in-Activating-clause-same : goal.returns-in-Activating-clause-same
returns-in-Activating-clause-same c image read known =
    activating_stage c.in-Activating.procedure c.in-Activating.goal image c.no_reason-in-Activating.result c.numbers_of_goal-in-Activating.result c.work_of_procedure-in-Activating.result c.numbers_of_goal-in-Activating.ensures
    (c.work_of_procedure-in-Activating.ensures (subst IsKnownJob c.in-Activating.is known)) ∙ ap (λ (j : Job). Some (Working j)) (sym c.in-Activating.is)

pub returns-in-Confirming-clause-same : goal.returns-in-Confirming-clause-same
returns-in-Confirming-clause-same c image read known =
    confirming_stage c.in-Confirming.look image c.no_reason-in-Confirming.result c.numbers_of_goal-in-Confirming.result c.work_of_look.result c.numbers_of_goal-in-Confirming.ensures c.work_of_look.ensures
    ∙ ap (λ (j : Job). Some (Working j)) (sym c.in-Confirming.is)

pub returns-in-Watching-clause-same : goal.returns-in-Watching-clause-same
returns-in-Watching-clause-same c image read known =
    watching_stage c.in-Watching.look image c.no_reason-in-Watching.result c.numbers_of_goal-in-Watching.result c.work_of_look-in-Watching.result c.numbers_of_goal-in-Watching.ensures c.work_of_look-in-Watching.ensures
    ∙ ap (λ (j : Job). Some (Working j)) (sym c.in-Watching.is)
