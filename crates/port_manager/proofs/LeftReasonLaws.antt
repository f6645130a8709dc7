-- A module that is left alone was just read, and that is decided of it, or was put to sleep, and was just seen in low power.
use Rattle.std.proofs.Common.{◌≡◌, ◌⊎◌, inl, inr, ℕ, Bool, true, false, ◌∷◌, Option, Some, None, refl, sym, subst}
use Rattle.bus_model.specs.declared.operation.Op.{Op}
use Rattle.bus_model.specs.declared.operation.Reply.{Reply}
use Rattle.bus_model.specs.declared.operation.Reply.TheVariants.{Bytes, Done, Refused}
use Rattle.bus_model.specs.Operations.{Answers}
use Rattle.control_sets.specs.declared.fault.ProvisionFault.{ProvisionFault}
use Rattle.control_sets.specs.declared.procedures.judgement.ReplyJudgement.{ReplyJudgement}
use Rattle.control_sets.specs.declared.procedures.judgement.ReplyJudgement.TheVariants.{Met, NotYet, Fails}
use Rattle.control_sets.specs.declared.procedures.power.Power.{Power}
use Rattle.control_sets.specs.declared.procedures.power.Power.TheVariants.{Asleep}
use Rattle.control_sets.specs.declared.procedures.power.PowerChange.{PowerChange}
use Rattle.control_sets.specs.declared.procedures.power.PowerStage.{PowerStage}
use Rattle.control_sets.specs.declared.procedures.power.PowerStage.TheVariants as stage
use Rattle.control_sets.specs.OutcomeCodes.{module_code}
use Rattle.control_sets.specs.OutcomeOperations.{read_module_state}
use Rattle.control_sets.specs.PowerProgress.{PatientPower, change_after, judged_power, judged_state, moved_to, operation_at, power_wants, stage_after, stage_judged, wants_by}
use Rattle.conversations.specs.declared.next.Next.TheVariants.{Do, End}
use Rattle.conversations.specs.declared.pausing.Patience.{Patience}
use Rattle.conversations.specs.declared.pausing.Timed.{Timed}
use Rattle.conversations.specs.declared.pausing.Timed.TheVariants.{InTime, Overdue}
use Rattle.module_states.specs.declared.state.ModuleState.{ModuleState}
use Rattle.module_states.specs.declared.state.ModuleState.TheVariants as states
use Rattle.module_states.specs.Codes.{state_at}
use Rattle.paged_memory.specs.Images.{Memory}
use Rattle.port_manager.specs.declared.deciding.Decision.{Decision}
use Rattle.port_manager.specs.declared.deciding.Decision.TheVariants.{Leave, Wake, Sleep, Hold, Activate, Provision}
use Rattle.port_manager.specs.declared.deciding.Wanted.{Wanted}
use Rattle.port_manager.specs.declared.job.Job.{Job}
use Rattle.port_manager.specs.declared.job.Job.TheVariants as jobs
use Rattle.port_manager.specs.declared.port.Port.{Port}
use Rattle.port_manager.specs.Decisions.{IsDecision}
use Rattle.port_manager.specs.Jobs.{asked, waking_after, waking_wants}
use Rattle.port_manager.specs.LeftReasons.{IsLeftAsRead, IsLeftSo, IsPutToSleep, IsReadAsleep, LeftAsFound}
use Rattle.port_manager.specs.Ports.{outcome_of}
use Rattle.port_manager.specs.Readings.{IsJustRead}
use Rattle.port_manager.specs.Requests.{granted}
use Rattle.port_manager.specs.Runs.{Reaches}
use Rattle.port_manager.specs.Standing.{IsFounded, IsNamed}
use Rattle.port_manager.specs.Stories.{Story, request_in, step_with, steps_of}
use Rattle.port_manager.specs.Turns.{IsTurnOf, Turn, UnlessApplyRefused, decided, fault_in, going, slept}
use Rattle.port_manager.specs.Turns as turns
use Rattle.port_manager.proofs.MadeOperationLaws.{IsTurnAfter, each_made}
use Rattle.port_manager.proofs.PatientLaws.{asked_within, kept_within, never_waits}
use Rattle.port_manager.proofs.TurnCases.{Follows, IsAnyTurn, goes, later, pause_of, power_never, turn_all}
use Rattle.port_manager.proofs.TurnLaws.{just_read}
use Rattle.port_manager.proofs.WakingLaws.{ended_within}

-- ---- a module that was put to sleep

met_low : (code : ℕ) (state : Option ModuleState) → judged_state code state Asleep ≡ Met → state ≡ Some states.LowPwr
met_low code None e = absurd cc
met_low code (Some states.LowPwr) e = refl
met_low code (Some states.PwrUp) e = absurd cc
met_low code (Some states.Ready) e = absurd cc
met_low code (Some states.PwrDn) e = absurd cc
met_low code (Some states.Fault) e = absurd cc

moved_met : (power : Power) (fault : Option ProvisionFault) (judged : ReplyJudgement) → (moved_to (record { power = power; stage = stage.Stored; fault = fault }) (stage_judged judged)).stage ≡ stage.Met → judged ≡ Met
moved_met power fault Met e = refl
moved_met power fault NotYet e = absurd cc
moved_met power fault (Fails because) e = absurd cc

reads_state : (fault : Option ProvisionFault) (op : Op) → wants_by fault (Some read_module_state) ≡ Do op → op ≡ read_module_state
reads_state None op e = let same : read_module_state ≡ op = cc in sym same
reads_state (Some fault) op e = absurd cc

asks_nothing : (fault : Option ProvisionFault) (op : Op) → wants_by fault None ≡ Do op → ⊥
asks_nothing None op e = cc
asks_nothing (Some fault) op e = cc

-- a change that ends without a fault has met the state
ends_met : (power : Power) (fault : Option ProvisionFault) (at : PowerStage) → wants_by fault (operation_at power at) ≡ End None → at ≡ stage.Met
ends_met power (Some fault) at e = absurd cc
ends_met power None stage.Unread e = absurd cc
ends_met power None (stage.Found byte) e = absurd cc
ends_met power None stage.Stored e = absurd cc
ends_met power None stage.Met e = refl

module _ (op : Op) (reply : Reply) where
  -- by a reply that shows it
  meets : (power : Power) (fault : Option ProvisionFault) (at : PowerStage) (answer : Reply) → reply ≡ answer → power ≡ Asleep → wants_by fault (operation_at power at) ≡ Do op
      → (moved_to (record { power = power; stage = at; fault = fault }) (stage_after power at answer)).stage ≡ stage.Met → IsReadAsleep op reply
  meets power fault stage.Unread (Bytes bytes) is asleep wants met = absurd cc
  meets power fault stage.Unread Done is asleep wants met = absurd cc
  meets power fault stage.Unread Refused is asleep wants met = absurd cc
  meets power fault (stage.Found byte) (Bytes bytes) is asleep wants met = absurd cc
  meets power fault (stage.Found byte) Done is asleep wants met = absurd cc
  meets power fault (stage.Found byte) Refused is asleep wants met = absurd cc
  meets power fault stage.Stored (Bytes bytes) is asleep wants met =
      let code = module_code bytes.items in
      let judged : judged_power power code ≡ Met = moved_met power fault (judged_power power code) met in
      (bytes, reads_state fault op wants, is, met_low code (state_at code) (subst (λ (power : Power). judged_power power code ≡ Met) asleep judged))
  meets power fault stage.Stored Done is asleep wants met = absurd cc
  meets power fault stage.Stored Refused is asleep wants met = absurd cc
  meets power fault stage.Met (Bytes bytes) is asleep wants met = absurd (asks_nothing fault op wants)
  meets power fault stage.Met Done is asleep wants met = absurd (asks_nothing fault op wants)
  meets power fault stage.Met Refused is asleep wants met = absurd (asks_nothing fault op wants)

  read_asleep : (job : PatientPower) → job.conversation.conversation.power ≡ Asleep → asked (jobs.Sleeping job) ≡ Some op → (waking_after job reply).conversation.conversation.stage ≡ stage.Met → IsReadAsleep op reply
  read_asleep job asleep asks =
      let change = job.conversation.conversation in
      kept_within (λ (change : PowerChange). (change.stage ≡ stage.Met → IsReadAsleep op reply)) power_wants change_after job reply
      (meets change.power change.fault change.stage reply refl asleep (asked_within power_wants job op asks))

-- ---- a turn

module _ (before : Story) (op : Op) (reply : Reply) (wanted : Wanted) where
  abbrev IsLeftTurn : Turn → Type 0
  IsLeftTurn (turns.On job note) = Unit {0}
  IsLeftTurn (turns.Paused job time) = Unit {0}
  IsLeftTurn (turns.Failed why) = Unit {0}
  IsLeftTurn (turns.Left reason) = IsLeftAsRead wanted (step_with op reply ∷ steps_of before) reason ⊎ IsPutToSleep before op reply reason

  going_left : (pause : Option ℕ) (job : Job) → IsLeftTurn (going pause job)
  going_left None job = tt
  going_left (Some time) job = tt

  decided_left : (image : Memory) (woken requested : Bool) (patience : Patience) (decision : Decision) → IsJustRead (step_with op reply ∷ steps_of before) image → IsDecision wanted image decision
      → IsLeftTurn (decided woken requested patience decision)
  decided_left image woken requested patience (Leave reason) read judged = inl (image, read, judged)
  decided_left image true requested patience Wake read judged = tt
  decided_left image false requested patience Wake read judged = tt
  decided_left image woken requested patience Sleep read judged = tt
  decided_left image woken requested patience (Hold goal) read judged = tt
  decided_left image woken requested patience (Activate goal) read judged = tt
  decided_left image woken requested patience (Provision goal) read judged = tt

  slept_left : (job : PatientPower) (steps : ℕ) (end : Option (Timed (Option ProvisionFault))) → IsNamed before (jobs.Sleeping job) → asked (jobs.Sleeping job) ≡ Some op
      → waking_wants (waking_after job reply) ≡ End (record { steps = steps; end = end }) → IsLeftTurn (slept (fault_in end))
  slept_left job steps None named asks e = tt
  slept_left job steps (Some Overdue) named asks e = tt
  slept_left job steps (Some (InTime (Some because))) named asks e = tt
  slept_left job steps (Some (InTime None)) named asks e =
      let change = (waking_after job reply).conversation.conversation in
      let met = ends_met change.power change.fault change.stage (ended_within (waking_after job reply) steps e) in
      inr (refl, named.1, read_asleep op reply job named.0 asks met)

  sleeping_left : (job : PatientPower) (turn : Turn) → IsNamed before (jobs.Sleeping job) → asked (jobs.Sleeping job) ≡ Some op → IsTurnOf wanted (jobs.Sleeping job) reply turn → IsLeftTurn turn
  sleeping_left job turn named asks is =
      let after = waking_after job reply in
      goes (waking_wants after) (pause_of (jobs.Sleeping job) reply) (jobs.Sleeping after) (λ end turn. turn ≡ slept (fault_in end)) turn IsLeftTurn is
      (λ op e. going_left (pause_of (jobs.Sleeping job) reply) (jobs.Sleeping after)) (λ time e. never_waits power_wants change_after job reply time power_never e)
      (λ spent e ended. subst IsLeftTurn (sym ended) (slept_left job spent.steps spent.end named asks e))

  unless_left : (refused : Bool) (job : PatientPower) (turn : Turn) → IsNamed before (jobs.Sleeping job) → asked (jobs.Sleeping job) ≡ Some op → UnlessApplyRefused refused (IsTurnOf wanted (jobs.Sleeping job) reply) turn → IsLeftTurn turn
  unless_left true job turn named asks is = subst IsLeftTurn (sym is) tt
  unless_left false job turn named asks is = sleeping_left job turn named asks is

  follows_left : (job : Job) → ((power : PatientPower) → job ≡ jobs.Sleeping power → ⊥) → Answers op reply → asked job ≡ Some op → IsFounded (steps_of before) job → Follows IsLeftTurn wanted job reply
  follows_left (jobs.Reading job woken) other answers asks of = λ decision whole judged.
      decided_left _ woken _ _ decision (just_read (steps_of before) op reply job of asks answers whole) judged
  follows_left (jobs.Waking job) other answers asks of = tt
  follows_left (jobs.Sleeping job) other answers asks of = absurd (other job refl)
  follows_left (jobs.Provisioning job goal) other answers asks of = tt
  follows_left (jobs.Activating job goal) other answers asks of = tt
  follows_left (jobs.Confirming job) other answers asks of = tt
  follows_left (jobs.Watching job) other answers asks of = tt

  other_left : (job : Job) (turn : Turn) → ((power : PatientPower) → job ≡ jobs.Sleeping power → ⊥) → Answers op reply → asked job ≡ Some op → IsFounded (steps_of before) job → IsAnyTurn wanted job reply turn → IsLeftTurn turn
  other_left job turn other answers asks of is =
      turn_all IsLeftTurn (λ why. tt) wanted job reply turn (λ next e. going_left (pause_of job reply) (later job reply)) (follows_left job other answers asks of) is

  turn_left : (job : Job) (turn : Turn) → Answers op reply → asked job ≡ Some op → IsFounded (steps_of before) job → IsNamed before job → IsAnyTurn wanted job reply turn → IsLeftTurn turn
  turn_left (jobs.Reading job woken) turn answers asks of named is = other_left (jobs.Reading job woken) turn (λ power e. cc) answers asks of is
  turn_left (jobs.Waking job) turn answers asks of named is = other_left (jobs.Waking job) turn (λ power e. cc) answers asks of is
  turn_left (jobs.Sleeping job) turn answers asks of named (again, is) = unless_left _ job turn named asks is
  turn_left (jobs.Provisioning job goal) turn answers asks of named is = other_left (jobs.Provisioning job goal) turn (λ power e. cc) answers asks of is
  turn_left (jobs.Activating job goal) turn answers asks of named is = other_left (jobs.Activating job goal) turn (λ power e. cc) answers asks of is
  turn_left (jobs.Confirming job) turn answers asks of named is = other_left (jobs.Confirming job) turn (λ power e. cc) answers asks of is
  turn_left (jobs.Watching job) turn answers asks of named is = other_left (jobs.Watching job) turn (λ power e. cc) answers asks of is

-- ---- a story

module _ (before : Story) (op : Op) (reply : Reply) (wanted : Wanted) (now : ℕ) where
  outcome_left : (port : Port) (turn : Turn) → IsLeftTurn before op reply (granted (request_in before) wanted) turn → IsLeftSo before op reply wanted now (outcome_of port turn now)
  outcome_left port (turns.On job note) left = tt
  outcome_left port (turns.Paused job time) left = tt
  outcome_left port (turns.Failed why) left = tt
  outcome_left port (turns.Left reason) left = left

  turned_left : (port : Port) (job : Job) (turn : Turn) → IsTurnAfter before op reply wanted job turn → IsLeftSo before op reply wanted now (outcome_of port turn now)
  turned_left port job turn is =
      outcome_left port turn (turn_left before op reply (granted (request_in before) wanted) job turn is.answers is.asks is.founded is.named is.leads)

pub left_as_found : (story : Story) (port : Port) → Reaches story port → LeftAsFound story
left_as_found = each_made IsLeftSo (λ before op reply wanted now. tt) turned_left
