-- What is known of a port after a reply, and what its reading is then.
use Rattle.std.proofs.Common.{◌≡◌, ℕ, Bool, true, false, refl, sym, ap, subst, inl, inr, ◌∙◌}
use Rattle.bus_model.specs.declared.operation.Reply.{Reply}
use Rattle.conversations.specs.declared.pausing.Patience.{Patience}
use Rattle.port_manager.specs.declared.deciding.Decision.{Decision}
use Rattle.port_manager.specs.declared.deciding.Decision.TheVariants.{Leave, Wake, Sleep, Hold, Activate, Provision}
use Rattle.port_manager.specs.declared.deciding.Wanted.{Wanted}
use Rattle.port_manager.specs.declared.job.Job.{Job}
use Rattle.port_manager.specs.declared.job.Job.TheVariants.{Reading, Waking, Sleeping, Provisioning, Activating, Confirming, Watching}
use Rattle.port_manager.specs.declared.port.Outcome.{Outcome}
use Rattle.port_manager.specs.declared.port.Outstanding.{Outstanding}
use Rattle.port_manager.specs.declared.port.Outstanding.TheVariants as outstanding
use Rattle.port_manager.specs.declared.port.Port.{Port}
use Rattle.port_manager.specs.declared.port.Stage.{Stage}
use Rattle.port_manager.specs.declared.port.Stage.TheVariants.{Absent, Left, Working}
use Rattle.port_manager.specs.Turns.{Turn}
use Rattle.port_manager.specs.Turns as turns
use Rattle.port_manager.specs.Jobs.{IsReplyTo, activation_of, asked, provisioning_of, reading}
use Rattle.port_manager.specs.Ports.{IfWorking, IsAwaitedBy, IsRestartedIn, IsTakenBy, IsTurnedIn, answered, asked_in, noting, turned, vain_after}
use Rattle.port_manager.specs.Requests.{granted}
use Rattle.port_manager.specs.Turns.{decided}
use Rattle.port_manager.proofs.TurnCases.{Follows, IsAnyTurn, later, pause_of, turn_all}
use Rattle.port_manager.proofs.TurnLaws.{IfOn, on_going}
use Rattle.saved_port.specs.Known.{Begins, IsKnown, IsKnownJob, IsReadingAfter, ReadsOn, TellsSo}
use Rattle.saved_port.proofs.ToldLaws.{begun_told, procedure_told}

-- ---- whatever holds of readings that begin

module _ (P : Job → Type 0) (begun : (woken : Bool) → P (reading woken)) where
  turned_has : (port : Port) (turn : Turn) (now : ℕ) → IfOn turn P → IfWorking (turned port turn now).stage P
  turned_has port (turns.On job note) now has = has
  turned_has port (turns.Paused job time) now has = has
  turned_has port (turns.Failed why) now has = begun (vain_after port why)
  turned_has port (turns.Left reason) now has = tt

-- ---- what is known

later_known : (job : Job) (reply : Reply) → TellsSo reply job → IsReplyTo (asked job) reply → IsKnownJob job → IsKnownJob (later job reply)
later_known (Reading job woken) reply tells answers known = tt
later_known (Waking job) reply tells answers known = tt
later_known (Sleeping job) reply tells answers known = tt
later_known (Provisioning job goal) reply tells answers known = procedure_told job reply tells answers known
later_known (Activating job goal) reply tells answers known = procedure_told job reply tells answers known
later_known (Confirming job) reply tells answers known = tt
later_known (Watching job) reply tells answers known = tt

decided_known : (woken requested : Bool) (patience : Patience) (decision : Decision) → IfOn (decided woken requested patience decision) IsKnownJob
decided_known woken requested patience (Leave reason) = tt
decided_known true requested patience Wake = tt
decided_known false requested patience Wake = tt
decided_known woken requested patience Sleep = tt
decided_known woken requested patience (Hold goal) = tt
decided_known woken requested patience (Activate goal) = begun_told (activation_of goal) patience
decided_known woken requested patience (Provision goal) = begun_told (provisioning_of goal) patience

follows_known : (wanted : Wanted) (job : Job) (reply : Reply) → Follows (λ turn. IfOn turn IsKnownJob) wanted job reply
follows_known wanted (Reading job woken) reply = λ decision whole judged. decided_known woken _ _ decision
follows_known wanted (Waking job) reply = tt
follows_known wanted (Sleeping job) reply = tt
follows_known wanted (Provisioning job goal) reply = begun_told (activation_of goal) _
follows_known wanted (Activating job goal) reply = tt
follows_known wanted (Confirming job) reply = tt
follows_known wanted (Watching job) reply = tt

turn_known : (wanted : Wanted) (reply : Reply) (job : Job) (turn : Turn) → TellsSo reply job → IsReplyTo (asked job) reply → IsKnownJob job → IsAnyTurn wanted job reply turn → IfOn turn IsKnownJob
turn_known wanted reply job turn tells answers known is =
    turn_all (λ turn. IfOn turn IsKnownJob) (λ why. tt) wanted job reply turn
    (λ op e. on_going IsKnownJob (pause_of job reply) (later job reply) (later_known job reply tells answers known)) (follows_known wanted job reply) is

module _ (port : Port) (reply : Reply) (wanted : Wanted) (now : ℕ) (result : Outcome) (after : Port) (known : IsKnown port) where
  same_known : after ≡ answered port → IsKnown after
  same_known is = subst (λ (p : Port). IsKnown p) (sym is) known

  turned_known : (stage : Stage) → IfWorking stage (TellsSo reply) → IfWorking stage IsKnownJob → IsReplyTo (asked_in stage) reply → IsTurnedIn stage port reply wanted now result after → IsKnown after
  turned_known Absent tells holds answers is = same_known is.1
  turned_known (Left reason) tells holds answers is = same_known is.1
  turned_known (Working job) tells holds answers (turn, leads, gives, is) =
      subst (λ (p : Port). IsKnown p) (sym is) (turned_has IsKnownJob (λ woken. tt) (noting (answered port) (asked job) reply now) turn now (turn_known (granted port.request wanted) reply job turn tells answers holds (port.apply_refused, leads)))

  restarted_known : (stage : Stage) → IsRestartedIn stage port reply now result after → IsKnown after
  restarted_known Absent is = same_known is.1
  restarted_known (Left reason) is = same_known is.1
  restarted_known (Working job) is = subst (λ (p : Port). IsKnown p) (sym is.1) tt

  pub taken_known : (o : Outstanding) → IfWorking port.stage (TellsSo reply) → IsAwaitedBy o port reply → IsTakenBy o port reply wanted now result after → IsKnown after
  taken_known outstanding.Nothing tells answers is = same_known is.1
  taken_known outstanding.Awaited tells answers is = turned_known port.stage tells known answers is
  taken_known outstanding.Stale tells answers is = restarted_known port.stage is
  taken_known outstanding.Forsaken tells answers is = same_known is.1

-- ---- what its reading is

module _ (before : Stage) (reply : Reply) where
  later_reads : (job : Job) → before ≡ Working job → ReadsOn before reply (later job reply)
  later_reads (Reading job woken) is = inl (job, woken, is, refl)
  later_reads (Waking job) is = tt
  later_reads (Sleeping job) is = tt
  later_reads (Provisioning job goal) is = tt
  later_reads (Activating job goal) is = tt
  later_reads (Confirming job) is = tt
  later_reads (Watching job) is = tt

  decided_reads : (woken requested : Bool) (patience : Patience) (decision : Decision) → IfOn (decided woken requested patience decision) (ReadsOn before reply)
  decided_reads woken requested patience (Leave reason) = tt
  decided_reads true requested patience Wake = tt
  decided_reads false requested patience Wake = tt
  decided_reads woken requested patience Sleep = tt
  decided_reads woken requested patience (Hold goal) = tt
  decided_reads woken requested patience (Activate goal) = tt
  decided_reads woken requested patience (Provision goal) = tt

  follows_reads : (wanted : Wanted) (job : Job) → Follows (λ turn. IfOn turn (ReadsOn before reply)) wanted job reply
  follows_reads wanted (Reading job woken) = λ decision whole judged. decided_reads woken _ _ decision
  follows_reads wanted (Waking job) = inr refl
  follows_reads wanted (Sleeping job) = tt
  follows_reads wanted (Provisioning job goal) = tt
  follows_reads wanted (Activating job goal) = tt
  follows_reads wanted (Confirming job) = tt
  follows_reads wanted (Watching job) = tt

  turn_reads : (wanted : Wanted) (job : Job) (turn : Turn) → before ≡ Working job → IsAnyTurn wanted job reply turn → IfOn turn (ReadsOn before reply)
  turn_reads wanted job turn at is =
      turn_all (λ turn. IfOn turn (ReadsOn before reply)) (λ why. tt) wanted job reply turn
      (λ op e. on_going (ReadsOn before reply) (pause_of job reply) (later job reply) (later_reads job at)) (follows_reads wanted job) is

-- nothing works there
idle_still : (P : Job → Type 0) (stage : Stage) (after : Stage) → after ≡ stage → IfWorking stage P → IfWorking after P
idle_still P stage after is holds = subst (λ (s : Stage). IfWorking s P) (sym is) holds

still : (stage : Stage) → IfWorking stage (λ job. stage ≡ Working job)
still Absent = tt
still (Left reason) = tt
still (Working job) = refl

module _ (port : Port) (reply : Reply) (wanted : Wanted) (now : ℕ) (result : Outcome) (after : Port) where
  abbrev stage_of : Port → Stage
  stage_of p = p.stage

  turned_reads : (stage : Stage) → port.stage ≡ stage → IsTurnedIn stage port reply wanted now result after → IfWorking after.stage (ReadsOn port.stage reply)
  turned_reads Absent at is = idle_still (ReadsOn port.stage reply) Absent after.stage (ap stage_of is.1 ∙ at) tt
  turned_reads (Left reason) at is = idle_still (ReadsOn port.stage reply) (Left reason) after.stage (ap stage_of is.1 ∙ at) tt
  turned_reads (Working job) at (turn, leads, gives, is) =
      subst (λ (p : Port). IfWorking p.stage (ReadsOn port.stage reply)) (sym is)
      (turned_has (ReadsOn port.stage reply) (λ woken. inr refl) (noting (answered port) (asked job) reply now) turn now (turn_reads port.stage reply (granted port.request wanted) job turn at (port.apply_refused, leads)))

  restarted_reads : (stage : Stage) → port.stage ≡ stage → IsRestartedIn stage port reply now result after → IfWorking after.stage Begins
  restarted_reads Absent at is = idle_still Begins Absent after.stage (ap stage_of is.1 ∙ at) tt
  restarted_reads (Left reason) at is = idle_still Begins (Left reason) after.stage (ap stage_of is.1 ∙ at) tt
  restarted_reads (Working job) at is = subst (λ (p : Port). IfWorking p.stage Begins) (sym is.1) refl

  pub taken_reads : (o : Outstanding) → IsAwaitedBy o port reply → IsTakenBy o port reply wanted now result after → IfWorking after.stage (IsReadingAfter o port.stage reply)
  taken_reads outstanding.Nothing answers is = absurd answers
  taken_reads outstanding.Awaited answers is = turned_reads port.stage refl is
  taken_reads outstanding.Stale answers is = restarted_reads port.stage refl is
  taken_reads outstanding.Forsaken answers is =
      subst (λ (p : Port). IfWorking p.stage (λ job. port.stage ≡ Working job)) (sym is.1) (still port.stage)
