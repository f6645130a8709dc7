-- How far waking a module up, or putting it to sleep, has come. Steps stand with the newest first. (docs/bus.md, "Waking and
-- sleeping"; this project's own)
use Rattle.std.specs.Prelude.{◌≡◌, ◌⊎◌, ◌≤◌, ℕ, Bool, [], ◌∷◌, length, Option, Some, None, Result, Ok, Err, slice_index}
use Rattle.bus_model.specs.declared.operation.Op.{Op}
use Rattle.bus_model.specs.declared.operation.Reply.{Reply}
use Rattle.bus_model.specs.declared.operation.Reply.TheVariants.{Bytes}
use Rattle.bus_model.specs.declared.operation.Reply.TheVariants as replies
use Rattle.bus_model.specs.declared.operation.Step.{Step}
use Rattle.module_states.specs.declared.state.ModuleState.{ModuleState as State}
use Rattle.module_states.specs.declared.state.ModuleState.TheVariants.{LowPwr, Ready, Fault}
use Rattle.module_states.specs.Codes.{state_at}
use Rattle.control_sets.specs.declared.fault.ProvisionFault.{ProvisionFault}
use Rattle.control_sets.specs.declared.fault.ProvisionFault.TheVariants.{GaveUp, ModuleState, Reserved}
use Rattle.control_sets.specs.declared.procedures.judgement.ReplyJudgement.{ReplyJudgement}
use Rattle.control_sets.specs.declared.procedures.judgement.ReplyJudgement.TheVariants.{Met, NotYet, Fails}
use Rattle.conversations.specs.declared.next.Next.{Next}
use Rattle.conversations.specs.declared.next.Next.TheVariants.{Do, End}
use Rattle.conversations.specs.declared.pausing.Patience.{Patience}
use Rattle.conversations.specs.declared.within.Spent.{Spent}
use Rattle.conversations.specs.declared.within.Within.{Within}
use Rattle.conversations.specs.Events.{Events, steps_of}
use Rattle.conversations.specs.Patiently.{Patient, ToldPatiently}
use Rattle.control_sets.specs.declared.procedures.power.Power.{Power}
use Rattle.control_sets.specs.declared.procedures.power.Power.TheVariants.{Awake, Asleep}
use Rattle.control_sets.specs.declared.procedures.power.PowerChange.{PowerChange}
use Rattle.control_sets.specs.declared.procedures.power.PowerStage.{PowerStage}
use Rattle.control_sets.specs.declared.procedures.power.PowerStage.TheVariants as stage
use Rattle.control_sets.specs.Pages.{EachStep, History}
use Rattle.control_sets.specs.OutcomeSteps.{Gives, IsAccepted, IsRefused}
use Rattle.control_sets.specs.OutcomeOperations.{read_module_state}
use Rattle.control_sets.specs.OutcomeAnswers.{Answer, NoneEnds, most_steps}
use Rattle.control_sets.specs.OutcomeCodes.{module_code}
use Rattle.control_sets.specs.OutcomeOfPower.{EndsPower, IsPowerOrder, IsPowerStep}
use Rattle.control_sets.specs.PowerControls.{read_controls, set_controls, wanted_controls}

-- what is done at a stage; nothing more if the state was found
abbrev pub operation_at : Power → PowerStage → Option Op
operation_at power stage.Unread = Some read_controls
operation_at power (stage.Found byte) = Some (set_controls (wanted_controls power byte))
operation_at power stage.Stored = Some read_module_state
operation_at power stage.Met = None

abbrev pub wants_by : Option ProvisionFault → Option Op → Next (Option ProvisionFault)
wants_by (Some fault) op = End (Some fault)
wants_by None None = End None
wants_by None (Some op) = Do op

-- what is wanted next
abbrev pub power_wants : PowerChange → Next (Option ProvisionFault)
power_wants change = wants_by change.fault (operation_at change.power change.stage)

abbrev pub answer_at : ℕ → Option (Option ProvisionFault) → Answer
answer_at steps None = Err GaveUp
answer_at steps (Some None) = Ok steps
answer_at steps (Some (Some fault)) = Err fault

-- what is answered by how it ended
abbrev pub answer_of : Spent (Option ProvisionFault) → Answer
answer_of spent = answer_at spent.steps spent.end

-- what the code of a module state says, by the state
abbrev pub judged_state : ℕ → Option State → Power → ReplyJudgement
judged_state code None power = Fails (Reserved code)
judged_state code (Some Fault) power = Fails (ModuleState code)
judged_state code (Some Ready) Awake = Met
judged_state code (Some LowPwr) Asleep = Met
judged_state code (Some state) power = NotYet

abbrev pub judged_power : Power → ℕ → ReplyJudgement
judged_power power code = judged_state code (state_at code) power

-- where a change stands after the state was read
abbrev pub stage_judged : ReplyJudgement → Result PowerStage ProvisionFault
stage_judged Met = Ok stage.Met
stage_judged NotYet = Ok stage.Stored
stage_judged (Fails fault) = Err fault

-- and after a reply to what is done at a stage, which another reply leaves as it is
abbrev pub stage_after : Power → PowerStage → Reply → Result PowerStage ProvisionFault
stage_after power stage.Unread (Bytes bytes) = Ok (stage.Found (slice_index bytes.items 0))
stage_after power (stage.Found byte) replies.Done = Ok stage.Stored
stage_after power stage.Stored (Bytes bytes) = stage_judged (judged_power power (module_code bytes.items))
stage_after power same reply = Ok same

abbrev pub moved_to : PowerChange → Result PowerStage ProvisionFault → PowerChange
moved_to change (Ok stage) = record change { stage = stage }
moved_to change (Err fault) = record change { fault = Some fault }

abbrev pub change_after : PowerChange → Reply → PowerChange
change_after change reply = moved_to change (stage_after change.power change.stage reply)

-- each read of the controls was refused
abbrev pub IsUnread : History → Type 0
IsUnread [] = Unit {0}
IsUnread (step ∷ before) = IsRefused read_controls step × IsUnread before

-- then they were read, and each store of what follows was refused
abbrev pub IsFound : Power → ℕ → History → Type 0
IsFound power byte [] = ⊥
IsFound power byte (step ∷ before) =
    (IsRefused (set_controls (wanted_controls power byte)) step × IsFound power byte before)
    ⊎ (Gives read_controls (byte ∷ []) step × IsUnread before)

-- the state was read or asked for, and that ends nothing
abbrev pub IsWaiting : Power → Step → Type 0
IsWaiting power step = (step.op ≡ read_module_state) × ((answer : Answer) → ¬ (EndsPower power answer step))

-- then a store was taken, and the state is awaited
abbrev pub IsStored : Power → History → Type 0
IsStored power [] = ⊥
IsStored power (step ∷ before) =
    (IsWaiting power step × IsStored power before)
    ⊎ ((byte : ℕ) × IsAccepted (set_controls (wanted_controls power byte)) step × IsFound power byte before)

-- then a step ended it
abbrev pub IsEnded : Power → Answer → History → Type 0
IsEnded power answer [] = ⊥
IsEnded power answer (step ∷ before) = EndsPower power answer step × (step.op ≡ read_module_state) × IsStored power before

abbrev pub IsAtStage : Power → PowerStage → History → Type 0
IsAtStage power stage.Unread history = IsUnread history
IsAtStage power (stage.Found byte) history = IsFound power byte history
IsAtStage power stage.Stored history = IsStored power history
IsAtStage power stage.Met history = IsEnded power (Ok (length history)) history

abbrev pub HasComeTo : Power → PowerStage → Option ProvisionFault → History → Type 0
HasComeTo power stage None history = IsAtStage power stage history
HasComeTo power stage (Some fault) history = IsEnded power (Err fault) history

-- a step ended it, without a fault or in one
abbrev pub IsEndedIn : Power → Option ProvisionFault → History → Type 0
IsEndedIn power None history = IsEnded power (Ok (length history)) history
IsEndedIn power (Some fault) history = IsEnded power (Err fault) history

-- what a stage that isn't the last shows
pub record GoesOnAt (power : Power) (history : History) : Type 0 where
  pub shape : EachStep (IsPowerStep power) history
  pub order : IsPowerOrder history
  pub none : NoneEnds (EndsPower power) history

-- for a real bus
abbrev pub PatientPower : Type 0
PatientPower = Patient PowerChange

abbrev pub patient_power : PowerChange → Patience → Bool → ℕ → ℕ → PatientPower
patient_power change patience due idle steps = record { conversation = record { conversation = change; patience = patience; due = due; idle = idle }; steps = steps; limit = most_steps }

-- it was told these events
abbrev pub power_told : Events → PowerChange → Type 0
power_told events change = HasComeTo change.power change.stage change.fault (steps_of events)

abbrev pub ToldPower : Events → PatientPower → Type 0
ToldPower events change = ToldPatiently power_wants power_told events change

-- the change of power was told these steps
pub record IsPowerAt (history : History) (change : Within PowerChange) : Type 0 where
  pub limit : change.limit ≡ most_steps
  pub counted : length history ≡ change.steps
  pub few : change.steps ≤ most_steps
  pub come : HasComeTo change.conversation.power change.conversation.stage change.conversation.fault history
