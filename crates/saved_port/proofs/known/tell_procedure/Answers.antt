use Rattle.std.proofs.Common.{◌≡◌, ◌∷◌, sym, ap, subst, ◌∙◌}
use Rattle.conversations.specs.declared.next.Next.TheVariants.{Do}
use Rattle.conversations.specs.Events.{made}
use Rattle.conversations.specs.Wanted as conversations
use Rattle.control_sets.specs.Progress.{PatientProcedure, ToldPatient}
use Rattle.port_manager.specs.Jobs.{paged_tasks, procedure_wants}
use Rattle.port_manager.specs.Patients.{after_on, replied, wants_on}
use Rattle.saved_port.proofs.known.tell_procedure.Goals as goal

pub returns : goal.returns
returns c answers events op is told =
    let reply = c.args.reply.now in
    let same = sym c.copied-copy.ensures in
    let took = c.try_take-taken.ensures.taken.1 (subst (λ (p : PatientProcedure). conversations.IsReplyTo (procedure_wants p) reply) same answers) in
    let done = c.try_take-taken.ensures.told took events op (subst (λ (p : PatientProcedure). procedure_wants p ≡ Do op) same is)
    (subst (λ (p : PatientProcedure). ToldPatient events p) same told) in
    let new = c.try_take-taken.ensures.after took ∙ ap (λ (p : PatientProcedure). replied (wants_on paged_tasks) (after_on paged_tasks) p reply) (sym same) in
    subst (λ (p : PatientProcedure). ToldPatient (made op reply ∷ events) p) new done
