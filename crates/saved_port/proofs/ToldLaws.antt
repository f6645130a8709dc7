-- What a procedure was told, after a reply and the pause after it.
use Rattle.std.proofs.Common.{◌≡◌, ◌∷◌, [], ℕ, false, Option, Some, None, refl, arith}
use Rattle.bus_model.specs.declared.operation.Op.{Op}
use Rattle.bus_model.specs.declared.operation.Reply.{Reply}
use Rattle.conversations.specs.declared.event.Event.TheVariants.{Waited}
use Rattle.conversations.specs.declared.next.Next.{Next}
use Rattle.conversations.specs.declared.next.Next.TheVariants.{Do, Wait, End}
use Rattle.conversations.specs.declared.pausing.Patience.{Patience}
use Rattle.conversations.specs.declared.pausing.Timed.{Timed}
use Rattle.conversations.specs.declared.within.Spent.{Spent}
use Rattle.conversations.specs.Events.{made}
use Rattle.conversations.specs.Selecting.{Knows}
use Rattle.conversations.specs.Wanted.{op_of}
use Rattle.conversations.specs.Wanted as conversations
use Rattle.conversations.proofs.PatientLaws.{told_pause}
use Rattle.paged_memory.specs.declared.page_addressing.KnownPage.TheVariants.{Unknown}
use Rattle.paged_memory.specs.declared.page_addressing.PageAddressing.TheVariants.{BankAndPage}
use Rattle.paged_memory.proofs.KnownPageLaws.{tells_nothing}
use Rattle.control_sets.specs.declared.fault.ProvisionFault.{ProvisionFault}
use Rattle.control_sets.specs.declared.procedures.procedure.Work.{Work}
use Rattle.control_sets.specs.Progress.{PatientProcedure, tasks_told, tasks_want}
use Rattle.port_manager.specs.Jobs.{IsReplyTo, paged_tasks, procedure_after, procedure_for, procedure_wants}
use Rattle.port_manager.specs.Patients.{after_on, pause_in, replied, rested, rested_if, wants_on}
use Rattle.port_manager.proofs.PatientLaws.{paged_never}
use Rattle.port_manager.proofs.TurnCases.{tasks_never}
use Rattle.saved_port.specs.Known.{IsToldSo, ToldNext}

-- ---- a wait is a pause that was due

paused_told : (job : PatientProcedure) (time : ℕ) → procedure_wants job ≡ Wait time → IsToldSo job → IsToldSo (rested job)
paused_told job time waits known = record {
  events = Waited time ∷ known.events;
  told = told_pause tasks_want tasks_told job time (paged_never paged_tasks tasks_never job.conversation.conversation) waits known.events known.told;
  limit = known.limit;
}

rested_told : (job : PatientProcedure) (next : Next (Spent (Timed (Option ProvisionFault)))) → procedure_wants job ≡ next → IsToldSo job → IsToldSo (rested_if (pause_in next) job)
rested_told job (Do op) is known = known
rested_told job (Wait time) is known = paused_told job time is known
rested_told job (End end) is known = known

wants_some : {E : Type 0} (next : Next E) (reply : Reply) → IsReplyTo (op_of next) reply → (op : Op) × (next ≡ Do op) × conversations.IsReplyTo next reply
wants_some (Do op) reply answers = (op, refl, answers)
wants_some (Wait time) reply answers = absurd answers
wants_some (End end) reply answers = absurd answers

-- a procedure that takes a reply was told so
pub procedure_told : (job : PatientProcedure) (reply : Reply) → ToldNext reply job → IsReplyTo (op_of (procedure_wants job)) reply → IsToldSo job → IsToldSo (procedure_after job reply)
procedure_told job reply tells answers known =
    let (op, is, replies) = wants_some (procedure_wants job) reply answers in
    let later = replied (wants_on paged_tasks) (after_on paged_tasks) job reply in
    rested_told later (procedure_wants later) refl (record { events = made op reply ∷ known.events; told = tells replies known.events op is known.told; limit = known.limit })

knows_nothing : Knows false (Some BankAndPage) Unknown None []
knows_nothing = (λ none. refl, (tells_nothing BankAndPage, record { was = λ page e. absurd cc; is = λ may. absurd cc }))

-- one that begins was told nothing
pub begun_told : (work : Work) (patience : Patience) → IsToldSo (procedure_for work patience)
begun_told work patience = record {
  events = [];
  told = (([], (refl, refl, refl), (knows_nothing, ([], refl, record { stands = refl; each = tt }))), refl, omega arith);
  limit = refl;
}
