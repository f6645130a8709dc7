-- What is known of a port that began empty: its procedures were told what they have come by. (docs/bus.md, "Conversations"; this
-- project's own)
use Rattle.std.specs.Prelude.{◌≡◌, ◌⊎◌, ◌∷◌, Bool}
use Rattle.bus_model.specs.declared.operation.Op.{Op}
use Rattle.bus_model.specs.declared.operation.Reply.{Reply}
use Rattle.conversations.specs.declared.next.Next.TheVariants.{Do}
use Rattle.conversations.specs.Events.{Events, made}
use Rattle.conversations.specs.Wanted as conversations
use Rattle.control_sets.specs.OutcomeAnswers.{most_steps}
use Rattle.control_sets.specs.Progress.{PatientProcedure, ToldPatient}
use Rattle.conversations.specs.declared.on_page.OnPage.{OnPage}
use Rattle.paged_memory.specs.Images.{Memory}
use Rattle.module_reading.specs.declared.halves.Halves.{Halves}
use Rattle.port_manager.specs.declared.job.Job.{Job}
use Rattle.port_manager.specs.declared.job.Job.TheVariants.{Reading, Waking, Sleeping, Provisioning, Activating, Confirming, Watching}
use Rattle.port_manager.specs.declared.port.Outstanding.{Outstanding}
use Rattle.port_manager.specs.declared.port.Outstanding.TheVariants.{Nothing, Awaited, Stale, Forsaken}
use Rattle.port_manager.specs.declared.port.Port.{Port}
use Rattle.port_manager.specs.declared.port.Stage.{Stage}
use Rattle.port_manager.specs.declared.port.Stage.TheVariants.{Working}
use Rattle.port_manager.specs.Jobs.{paged_tasks, procedure_wants, reading, reading_after}
use Rattle.port_manager.specs.Patients.{Patient, after_on, replied, wants_on}
use Rattle.port_manager.specs.Ports.{IfWorking}

-- it was told some events
pub record IsToldSo (procedure : PatientProcedure) : Type 0 where
  pub events : Events
  pub told : ToldPatient events procedure
  pub limit : procedure.limit ≡ most_steps

abbrev pub IsKnownJob : Job → Type 0
IsKnownJob (Reading job woken) = Unit {0}
IsKnownJob (Waking job) = Unit {0}
IsKnownJob (Sleeping job) = Unit {0}
IsKnownJob (Provisioning job goal) = IsToldSo job
IsKnownJob (Activating job goal) = IsToldSo job
IsKnownJob (Confirming job) = Unit {0}
IsKnownJob (Watching job) = Unit {0}

abbrev pub IsKnown : Port → Type 0
IsKnown port = IfWorking port.stage IsKnownJob

-- what a reading has read
abbrev pub halves_of : Patient (OnPage Halves) → Halves
halves_of job = job.conversation.conversation.conversation

-- a reading has read this memory
abbrev pub HasRead : Memory → Job → Type 0
HasRead image (Reading job woken) = (halves_of job).image ≡ image
HasRead image (Waking job) = Unit {0}
HasRead image (Sleeping job) = Unit {0}
HasRead image (Provisioning job goal) = Unit {0}
HasRead image (Activating job goal) = Unit {0}
HasRead image (Confirming job) = Unit {0}
HasRead image (Watching job) = Unit {0}

-- a reading begins
abbrev pub Begins : Job → Type 0
Begins (Reading job woken) = Reading job woken ≡ reading woken
Begins (Waking job) = Unit {0}
Begins (Sleeping job) = Unit {0}
Begins (Provisioning job goal) = Unit {0}
Begins (Activating job goal) = Unit {0}
Begins (Confirming job) = Unit {0}
Begins (Watching job) = Unit {0}

-- a reading is the one that was there after the reply, or begins
abbrev pub ReadsOn : Stage → Reply → Job → Type 0
ReadsOn before reply (Reading job woken) =
    ((earlier : Patient (OnPage Halves)) × (was : Bool) × (before ≡ Working (Reading earlier was)) × (job ≡ reading_after earlier reply))
    ⊎ (Reading job woken ≡ reading woken)
ReadsOn before reply (Waking job) = Unit {0}
ReadsOn before reply (Sleeping job) = Unit {0}
ReadsOn before reply (Provisioning job goal) = Unit {0}
ReadsOn before reply (Activating job goal) = Unit {0}
ReadsOn before reply (Confirming job) = Unit {0}
ReadsOn before reply (Watching job) = Unit {0}

-- where the reply was awaited; where it was stale a reading begins, and where it was forsaken all is as it was
abbrev pub IsReadingAfter : Outstanding → Stage → Reply → Job → Type 0
IsReadingAfter Nothing before reply job = ⊥
IsReadingAfter Awaited before reply job = ReadsOn before reply job
IsReadingAfter Stale before reply job = Begins job
IsReadingAfter Forsaken before reply job = before ≡ Working job

-- a procedure that takes the reply was told it
abbrev pub ToldNext : Reply → PatientProcedure → Type 0
ToldNext reply job =
    conversations.IsReplyTo (procedure_wants job) reply → (events : Events) (op : Op) → procedure_wants job ≡ Do op → ToldPatient events job →
    ToldPatient (made op reply ∷ events) (replied (wants_on paged_tasks) (after_on paged_tasks) job reply)

abbrev pub TellsSo : Reply → Job → Type 0
TellsSo reply (Reading job woken) = Unit {0}
TellsSo reply (Waking job) = Unit {0}
TellsSo reply (Sleeping job) = Unit {0}
TellsSo reply (Provisioning job goal) = ToldNext reply job
TellsSo reply (Activating job goal) = ToldNext reply job
TellsSo reply (Confirming job) = Unit {0}
TellsSo reply (Watching job) = Unit {0}
