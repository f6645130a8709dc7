use Rattle.std.proofs.Common.{Some, ap, subst, sym, ◌∙◌}
use Rattle.control_sets.specs.declared.procedures.procedure.TaskList.{TaskList}
use Rattle.explicit_provisioning.specs.ExplicitProcedures.{WatchfulTasks}
use Rattle.saved_provisioning.specs.Standings.{CameFrom, StandsFor, list_of}
use Rattle.saved_provisioning.proofs.AfterReply.{came, usual_after}
use Rattle.saved_provisioning.proofs.Inverses.{kept_stands}
use Rattle.saved_provisioning.proofs.turning.take_saved.Goals as goal

pub numbers_after-tasks-requires-clause-before : goal.numbers_after-tasks-requires-clause-before
numbers_after-tasks-requires-clause-before c =
    let kept = kept_stands c.args.saved.now c.args.it c.requires.same in
    subst (λ (list : TaskList). StandsFor c.args.saved.now.procedure list) (sym c.list_of-before.ensures) kept.1

pub numbers_after-tasks-requires-clause-after : goal.numbers_after-tasks-requires-clause-after
numbers_after-tasks-requires-clause-after c =
    let kept = kept_stands c.args.saved.now c.args.it c.requires.same in
    let since = subst (λ (whole : WatchfulTasks). CameFrom (list_of c.args.it) (list_of whole)) (sym c.take.ensures.after) (came c.args.it c.args.reply.now kept.0.taken) in
    subst (λ (list : TaskList). CameFrom list c.list_of-since.result) (sym c.list_of-before.ensures) (subst (λ (list : TaskList). CameFrom (list_of c.args.it) list) (sym c.list_of-since.ensures) since)

pub save-requires-clause-usual : goal.save-requires-clause-usual
save-requires-clause-usual c =
    let kept = kept_stands c.args.saved.now c.args.it c.requires.same in
    usual_after c.args.it c.take.new.self c.args.reply.now c.take.ensures.after c.take.ensures.topic kept.0 c.requires.reply

pub save-requires-clause-tasks : goal.save-requires-clause-tasks
save-requires-clause-tasks c = subst (λ (list : TaskList). StandsFor c.numbers_after-tasks.result list) c.list_of-since.ensures c.numbers_after-tasks.ensures

pub returns : goal.returns
returns c = c.save.ensures ∙ ap (λ (whole : WatchfulTasks). Some whole) c.take.ensures.after
