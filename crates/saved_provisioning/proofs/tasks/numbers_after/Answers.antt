use Rattle.std.proofs.Common.{sym, subst, ◌∙◌}
use Rattle.std.proofs.lemmas.Bool.{true≢false}
use Rattle.control_sets.specs.declared.procedures.procedure.saved.SavedProcedure.{SavedProcedure}
use Rattle.saved_provisioning.specs.Standings.{StandsFor}
use Rattle.saved_provisioning.proofs.TaskStandings.{came_turned, few_met, stands_failed, stands_met, stands_same}
use Rattle.saved_provisioning.proofs.tasks.numbers_after.Goals as goal

pub returns-in-Some : goal.returns-in-Some
returns-in-Some c =
    subst (λ (saved : SavedProcedure). StandsFor saved c.args.after.now) (sym c.with_fault.ensures)
    (stands_failed c.args.numbers.now c.args.before.now c.args.after.now c.requires.before c.in-Some.fault (sym c.fault_of.ensures ∙ c.in-Some.is) (came_turned c.args.before.now c.args.after.now c.requires.after))

pub returns-in-None : goal.returns-in-None
returns-in-None c =
    stands_same c.args.numbers.now c.args.before.now c.args.after.now c.requires.before (c.is_same.ensures.met c.if-is_same.true) (sym c.fault_of.ensures ∙ c.in-None.is)
    (came_turned c.args.before.now c.args.after.now c.requires.after)

pub with_met-requires : goal.with_met-requires
with_met-requires c =
    few_met c.args.numbers.now c.args.before.now c.args.after.now c.requires.before (sym c.fault_of.ensures ∙ c.in-None-2.is) (λ same. true≢false (sym (c.is_same.ensures.same same) ∙ c.if-is_same.false))
    (came_turned c.args.before.now c.args.after.now c.requires.after)

pub returns-in-None-2 : goal.returns-in-None-2
returns-in-None-2 c =
    subst (λ (saved : SavedProcedure). StandsFor saved c.args.after.now) (sym c.with_met.ensures)
    (stands_met c.args.numbers.now c.args.before.now c.args.after.now c.requires.before (sym c.fault_of.ensures ∙ c.in-None-2.is) (λ same. true≢false (sym (c.is_same.ensures.same same) ∙ c.if-is_same.false))
    (came_turned c.args.before.now c.args.after.now c.requires.after))
