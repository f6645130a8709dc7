-- At a module that suits what is wanted no job pauses for longer than the module's durations ask for.
use Rattle.std.proofs.Common.{◌≡◌, ℕ, ◌*◌, ◌≤◌, max, nat_lt, Bool, true, false, Option, Some, None, refl, sym, ap, subst, arith}
use Rattle.std.specs.Prelude.{if◌then◌else◌}
use Rattle.std.specs.FinMap as finmap
use Rattle.std.specs.Int.{div_ceil}
use Rattle.bus_model.specs.declared.operation.Op.{Op}
use Rattle.bus_model.specs.declared.operation.Reply.{Reply}
use Rattle.bus_model.specs.Operations.{Answers}
use Rattle.conversations.specs.declared.next.Next.{Next}
use Rattle.conversations.specs.declared.next.Next.TheVariants.{Do, Wait, End}
use Rattle.conversations.specs.declared.on_page.OnPage.{OnPage}
use Rattle.conversations.specs.declared.pausing.Patience.{Patience}
use Rattle.conversations.specs.declared.pausing.Timed.{Timed}
use Rattle.conversations.specs.declared.pausing.Timed.TheVariants.{InTime, Overdue}
use Rattle.conversations.specs.declared.within.Spent.{Spent}
use Rattle.conversations.specs.Budgets.{next_within}
use Rattle.conversations.specs.Pauses.{next_pausing}
use Rattle.paged_memory.specs.Images.{Memory}
use Rattle.control_sets.specs.Durations.{longest_of, patience_for, pause_for, polls, states_in_a_row, states_of}
use Rattle.control_sets.specs.PowerProgress.{change_after, power_wants}
use Rattle.module_reading.specs.declared.halves.Halves.{Halves}
use Rattle.port_manager.specs.declared.deciding.Decision.{Decision}
use Rattle.port_manager.specs.declared.deciding.Decision.TheVariants.{Leave, Wake, Sleep, Hold, Activate, Provision}
use Rattle.port_manager.specs.declared.deciding.Wanted.{Wanted}
use Rattle.port_manager.specs.declared.job.Job.{Job}
use Rattle.port_manager.specs.declared.job.Job.TheVariants as jobs
use Rattle.port_manager.specs.declared.turn.Note.{Note}
use Rattle.port_manager.specs.declared.turn.Note.TheVariants as notes
use Rattle.port_manager.specs.Jobs.{asked, paged_halves, paged_look, paged_tasks, reading_after, reading_wants}
use Rattle.port_manager.specs.Patients.{Patient, advanced, after_on, pause_after, pause_in, replied, rested_if, wants_on}
use Rattle.port_manager.specs.Readings.{IsWhole}
use Rattle.port_manager.specs.Standing.{IsWatching}
use Rattle.port_manager.specs.Turns.{Turn, decided, going}
use Rattle.port_manager.specs.Turns as turns
use Rattle.port_manager.proofs.PatientLaws.{NeverWaits, paged_never}
use Rattle.port_manager.proofs.TurnCases.{Follows, IsAnyTurn, halves_never, later, look_never, pause_of, power_never, tasks_never, turn_all}
use Rattle.sim_module.specs.declared.module.SimModule.{SimModule}
use Rattle.managed_module.specs.Managed.{HasHalves}
use Rattle.managed_module.specs.Succeeds.{AreWhole}
use Rattle.managed_module.proofs.OwnAdverts.{IsPaged}
use Rattle.managed_module.proofs.OwnDecisions.{patience_same}
use Rattle.managed_module.proofs.OwnHalves.{IsOwn}
use Rattle.managed_module.proofs.OwnReading.{IsOwnReading}
use Rattle.managed_module.proofs.OwnReadingEnds.{ends, goes_on, image_kept}
use Rattle.managed_module.proofs.OwnTasks.{reply_of}
use Rattle.managed_module.proofs.OwnTurns.{OwnJob, first_patience}

-- ---- a pause is as long as the patience says

module _ (E : Type 0) (steps limit idle : ℕ) (patience : Patience) where
  abbrev if_late : Bool → Next (Timed E)
  if_late late = if late then End Overdue else Wait patience.pause

  abbrev if_few : Op → Bool → Next (Spent (Timed E))
  if_few op few = if few then Do op else End (record { steps = steps; end = None })

  late_pauses : (late : Bool) (time : ℕ) → pause_in (next_within steps limit (if_late late)) ≡ Some time → patience.pause ≡ time
  late_pauses true time e = absurd cc
  late_pauses false time e = cc

  none_pauses : (op : Op) (few : Bool) (time : ℕ) → pause_in (if_few op few) ≡ Some time → ⊥
  none_pauses op true time e = cc
  none_pauses op false time e = cc

  next_pauses : (due : Bool) (wanted : Next E) (time : ℕ) → ((time : ℕ) → wanted ≡ Wait time → ⊥) → pause_in (next_within steps limit (next_pausing due idle patience wanted)) ≡ Some time → patience.pause ≡ time
  next_pauses true (Do op) time never e = late_pauses (nat_lt patience.limit idle) time e
  next_pauses false (Do op) time never e = absurd (none_pauses op (nat_lt steps limit) time e)
  next_pauses due (Wait other) time never e = absurd (never other refl)
  next_pauses due (End end) time never e = absurd cc

rested_patience : {C : Type 0} (pause : Option ℕ) (patient : Patient C) → (rested_if pause patient).conversation.patience ≡ patient.conversation.patience
rested_patience None patient = refl
rested_patience (Some time) patient = refl

module _ {C E : Type 0} (wants : C → Next E) (after : C → Reply → C) (patient : Patient C) (reply : Reply) where
  pauses_for : (time : ℕ) → NeverWaits wants → pause_after wants after patient reply ≡ Some time → patient.conversation.patience.pause ≡ time
  pauses_for time never e =
      let told = replied wants after patient reply in
      next_pauses E told.steps told.limit told.conversation.idle told.conversation.patience told.conversation.due (wants told.conversation.conversation) time (never told.conversation.conversation) e

  patience_kept : (advanced wants after patient reply).conversation.patience ≡ patient.conversation.patience
  patience_kept = rested_patience (pause_after wants after patient reply) (replied wants after patient reply)

-- ---- a job

abbrev pub patience_of : Job → Patience
patience_of (jobs.Reading job woken) = job.conversation.patience
patience_of (jobs.Waking job) = job.conversation.patience
patience_of (jobs.Sleeping job) = job.conversation.patience
patience_of (jobs.Provisioning job goal) = job.conversation.patience
patience_of (jobs.Activating job goal) = job.conversation.patience
patience_of (jobs.Confirming job) = job.conversation.patience
patience_of (jobs.Watching job) = job.conversation.patience

job_pauses : (job : Job) (reply : Reply) (time : ℕ) → pause_of job reply ≡ Some time → (patience_of job).pause ≡ time
job_pauses (jobs.Reading job woken) reply time e = pauses_for (wants_on paged_halves) (after_on paged_halves) job reply time (paged_never paged_halves halves_never) e
job_pauses (jobs.Waking job) reply time e = pauses_for power_wants change_after job reply time power_never e
job_pauses (jobs.Sleeping job) reply time e = pauses_for power_wants change_after job reply time power_never e
job_pauses (jobs.Provisioning job goal) reply time e = pauses_for (wants_on paged_tasks) (after_on paged_tasks) job reply time (paged_never paged_tasks tasks_never) e
job_pauses (jobs.Activating job goal) reply time e = pauses_for (wants_on paged_tasks) (after_on paged_tasks) job reply time (paged_never paged_tasks tasks_never) e
job_pauses (jobs.Confirming job) reply time e = pauses_for (wants_on paged_look) (after_on paged_look) job reply time (paged_never paged_look look_never) e
job_pauses (jobs.Watching job) reply time e = pauses_for (wants_on paged_look) (after_on paged_look) job reply time (paged_never paged_look look_never) e

later_patience : (job : Job) (reply : Reply) → patience_of (later job reply) ≡ patience_of job
later_patience (jobs.Reading job woken) reply = patience_kept (wants_on paged_halves) (after_on paged_halves) job reply
later_patience (jobs.Waking job) reply = patience_kept power_wants change_after job reply
later_patience (jobs.Sleeping job) reply = patience_kept power_wants change_after job reply
later_patience (jobs.Provisioning job goal) reply = patience_kept (wants_on paged_tasks) (after_on paged_tasks) job reply
later_patience (jobs.Activating job goal) reply = patience_kept (wants_on paged_tasks) (after_on paged_tasks) job reply
later_patience (jobs.Confirming job) reply = patience_kept (wants_on paged_look) (after_on paged_look) job reply
later_patience (jobs.Watching job) reply = patience_kept (wants_on paged_look) (after_on paged_look) job reply

abbrev pub IsBriefJob : ℕ → Job → Type 0
IsBriefJob longest job = (patience_of job).pause ≤ longest

later_brief : (longest : ℕ) (job : Job) (reply : Reply) → IsBriefJob longest job → IsBriefJob longest (later job reply)
later_brief longest job reply brief = subst (λ (patience : Patience). patience.pause ≤ longest) (sym (later_patience job reply)) brief

-- ---- a turn

-- a look at a module that was up already is followed by another
abbrev pub AsWatching : Note → Job → Type 0
AsWatching notes.Quiet job = Unit {0}
AsWatching notes.Identified job = Unit {0}
AsWatching notes.Woken job = Unit {0}
AsWatching notes.Provisioned job = Unit {0}
AsWatching notes.CameUp job = Unit {0}
AsWatching notes.Held job = IsWatching job

-- no pause is longer than this
abbrev pub IsBrief : ℕ → Turn → Type 0
IsBrief longest (turns.On job note) = IsBriefJob longest job × AsWatching note job
IsBrief longest (turns.Paused job time) = IsBriefJob longest job × (time ≤ longest)
IsBrief longest (turns.Failed why) = Unit {0}
IsBrief longest (turns.Left reason) = Unit {0}

going_brief : (longest : ℕ) (pause : Option ℕ) (job : Job) → IsBriefJob longest job → ((time : ℕ) → pause ≡ Some time → time ≤ longest) → IsBrief longest (going pause job)
going_brief longest None job brief few = (brief, tt)
going_brief longest (Some time) job brief few = (brief, few time refl)

decided_brief : (longest : ℕ) (woken requested : Bool) (patience : Patience) (decision : Decision) → patience.pause ≤ longest → IsBrief longest (decided woken requested patience decision)
decided_brief longest woken requested patience (Leave reason) few = tt
decided_brief longest true requested patience Wake few = tt
decided_brief longest false requested patience Wake few = (few, tt)
decided_brief longest woken requested patience Sleep few = (few, tt)
decided_brief longest woken requested patience (Hold goal) few = (few, tt)
decided_brief longest woken requested patience (Activate goal) few = (few, tt)
decided_brief longest woken requested patience (Provision goal) few = (few, tt)

-- what a reading that ends has read asks for no longer pause
abbrev pub ReadsBrief : ℕ → Job → Reply → Type 0
ReadsBrief longest (jobs.Reading job woken) reply = IsWhole (reading_wants (reading_after job reply)) → pause_for (reading_after job reply).conversation.conversation.conversation.image ≤ longest
ReadsBrief longest (jobs.Waking job) reply = Unit {0}
ReadsBrief longest (jobs.Sleeping job) reply = Unit {0}
ReadsBrief longest (jobs.Provisioning job goal) reply = Unit {0}
ReadsBrief longest (jobs.Activating job goal) reply = Unit {0}
ReadsBrief longest (jobs.Confirming job) reply = Unit {0}
ReadsBrief longest (jobs.Watching job) reply = Unit {0}

follows_brief : (longest : ℕ) (wanted : Wanted) (job : Job) (reply : Reply) → pause_for finmap.empty ≤ longest → IsBriefJob longest job → ReadsBrief longest job reply → Follows (IsBrief longest) wanted job reply
follows_brief longest wanted (jobs.Reading job woken) reply first brief reads = λ decision whole judged. decided_brief longest woken _ (patience_for (reading_after job reply).conversation.conversation.conversation.image) decision (reads whole)
follows_brief longest wanted (jobs.Waking job) reply first brief reads = (first, tt)
follows_brief longest wanted (jobs.Sleeping job) reply first brief reads = tt
follows_brief longest wanted (jobs.Provisioning job goal) reply first brief reads = (later_brief longest (jobs.Provisioning job goal) reply brief, tt)
follows_brief longest wanted (jobs.Activating job goal) reply first brief reads = (later_brief longest (jobs.Activating job goal) reply brief, tt)
follows_brief longest wanted (jobs.Confirming job) reply first brief reads = (later_brief longest (jobs.Confirming job) reply brief, tt)
follows_brief longest wanted (jobs.Watching job) reply first brief reads = (later_brief longest (jobs.Watching job) reply brief, tt)

turn_brief : (longest : ℕ) (wanted : Wanted) (job : Job) (reply : Reply) (turn : Turn) → pause_for finmap.empty ≤ longest → IsBriefJob longest job → ReadsBrief longest job reply → IsAnyTurn wanted job reply turn → IsBrief longest turn
turn_brief longest wanted job reply turn first brief reads is =
    turn_all (IsBrief longest) (λ why. tt) wanted job reply turn
    (λ op e. going_brief longest (pause_of job reply) (later job reply) (later_brief longest job reply brief) (λ time pauses. subst (λ (time : ℕ). time ≤ longest) (job_pauses job reply time pauses) brief))
    (follows_brief longest wanted job reply first brief reads) is

-- ---- of the module

more_of : (one other : ℕ) → one ≤ max one other
more_of one other = omega arith

-- a first reading pauses for no longer than any other job
pub first_pause : (memory : Memory) → pause_for finmap.empty ≤ pause_for memory
first_pause memory = subst (λ (patience : Patience). patience.pause ≤ pause_for memory) (sym first_patience) (more_of 100 (div_ceil (states_in_a_row * longest_of (states_of memory)) polls))

as_long : (one other : ℕ) → one ≡ other → one ≤ other
as_long one other e = omega (arith, e)

module _ (most : ℕ) (sim : SimModule) (has : HasHalves sim) (whole : AreWhole sim.image) (paged : IsPaged sim.image) (op : Op) (reply : Reply) (answers : Answers op reply) (gives : reply ≡ reply_of sim op) where
  -- an image that was read whole has the module's durations
  read_pause : (woken : Bool) (job : Patient (OnPage Halves)) → IsOwnReading most woken job sim → asked (jobs.Reading job woken) ≡ Some op → IsWhole (reading_wants (reading_after job reply))
      → pause_for (reading_after job reply).conversation.conversation.conversation.image ≡ pause_for sim.image
  read_pause woken job r asks (steps, e) =
      let halves = (reading_after job reply).conversation.conversation.conversation in
      let now = goes_on most sim has whole paged woken job r op reply asks answers gives in
      let own : IsOwn sim.image halves = subst (λ (own : Memory). IsOwn own halves) (image_kept op sim) now.own in
      let all : 5 ≤ halves.settled = (ends most sim has whole paged woken job r op reply asks answers gives (record { steps = steps; end = Some (InTime tt) }) e).1 in
      ap (λ (patience : Patience). patience.pause)
      (patience_same sim.image halves.image (record { lower = own.lower (omega (arith, all)); first = own.first (omega (arith, all)); second = own.second (omega (arith, all)); lanes = own.lanes all }))

  reads_brief : (first : SimModule) (job : Job) → OwnJob most first job sim → asked job ≡ Some op → ReadsBrief (pause_for sim.image) job reply
  reads_brief first (jobs.Reading job woken) own asks = λ ended. as_long (pause_for (reading_after job reply).conversation.conversation.conversation.image) (pause_for sim.image) (read_pause woken job own.0 asks ended)
  reads_brief first (jobs.Waking job) own asks = tt
  reads_brief first (jobs.Sleeping job) own asks = tt
  reads_brief first (jobs.Provisioning job goal) own asks = tt
  reads_brief first (jobs.Activating job goal) own asks = tt
  reads_brief first (jobs.Confirming job) own asks = tt
  reads_brief first (jobs.Watching job) own asks = tt

  pub own_brief : (first : SimModule) (wanted : Wanted) (job : Job) (turn : Turn) → OwnJob most first job sim → asked job ≡ Some op → IsBriefJob (pause_for sim.image) job → IsAnyTurn wanted job reply turn → IsBrief (pause_for sim.image) turn
  own_brief first wanted job turn own asks brief is = turn_brief (pause_for sim.image) wanted job reply turn (first_pause sim.image) brief (reads_brief first job own asks) is
