-- How far an attempt has come, by its own events with the newest first. (this project's own)
use Rattle.std.specs.Prelude.{◌≡◌, ◌≤◌, ◌<◌, [], ◌∷◌, Option, Some, None, false, true}
use Rattle.bus_model.specs.declared.operation.Reply.TheVariants.{Done}
use Rattle.bus_model.specs.Operations.{Answers}
use Rattle.conversations.specs.declared.event.Event.TheVariants.{Made, Waited, Lacked, Asked}
use Rattle.conversations.specs.declared.next.Next.TheVariants.{Do, Wait}
use Rattle.conversations.specs.Events.{Events, steps_of}
use Rattle.command_block.specs.declared.attempt.Attempt.{Attempt}
use Rattle.command_block.specs.declared.attempt.Phase.{Phase}
use Rattle.command_block.specs.declared.attempt.Phase.TheVariants.{Delayed, Idle, Filling, Triggering, Resting, Awaiting, Counting, Reading, Checking}
use Rattle.command_block.specs.declared.attempt.Timing.{Timing}
use Rattle.command_block.specs.declared.message.Message.{Message}
use Rattle.command_block.specs.declared.outcome.Outcome.{Outcome}
use Rattle.command_block.specs.Attempts.{Gives, History, IsAttempt, IsCarriedOut, IsFilled, IsHeaded, IsPreparing, IsSent, Stands}
use Rattle.command_block.specs.Operations.{read_count, trigger}
use Rattle.command_block.specs.Phases.{begun, lacking, page_of, rested, taken, wants}

-- ---- what it was told

abbrev pub attempt_after : Message → Timing → Events → Attempt
attempt_after message timing [] = begun message timing
attempt_after message timing (Made step ∷ before) = taken (attempt_after message timing before) step.reply
attempt_after message timing (Waited time ∷ before) = rested (attempt_after message timing before)
attempt_after message timing (Lacked page ∷ before) = lacking (attempt_after message timing before)
attempt_after message timing (Asked number ∷ before) = attempt_after message timing before

-- each operation and each wait is what was wanted
abbrev pub EachIsWanted : Message → Timing → Events → Type 0
EachIsWanted message timing [] = Unit {0}
EachIsWanted message timing (Made step ∷ before) =
    (wants (attempt_after message timing before) ≡ Do step.op) × Answers step.op step.reply × EachIsWanted message timing before
EachIsWanted message timing (Waited time ∷ before) = (wants (attempt_after message timing before) ≡ Wait time) × EachIsWanted message timing before
EachIsWanted message timing (Lacked page ∷ before) = (page_of (attempt_after message timing before) ≡ Some page) × EachIsWanted message timing before
EachIsWanted message timing (Asked number ∷ before) = EachIsWanted message timing before

-- it was told these events
pub record IsTold (own : Events) (attempt : Attempt) : Type 0 where
  pub is : attempt ≡ attempt_after attempt.message attempt.timing own
  pub each : EachIsWanted attempt.message attempt.timing own

-- ---- what that shows

abbrev pub IsInPhase : Message → Phase → History → Type 0
IsInPhase message Delayed history = IsPreparing history
IsInPhase message Idle history = IsPreparing history
IsInPhase message (Filling at) history = IsFilled message false at history
IsInPhase message Triggering history = IsHeaded message history
IsInPhase message Resting history = IsSent message history
IsInPhase message Awaiting history = IsSent message history
IsInPhase message Counting history = IsCarriedOut message history × (message.replies ≡ true)
IsInPhase message (Reading count check) history =
    IsCarriedOut message history × (message.replies ≡ true) × (0 < count) × (count ≤ 120) × Stands (Gives read_count (count ∷ check ∷ [])) history
IsInPhase message (Checking at) history = IsFilled message true at history

abbrev pub HasCome : Message → Phase → Option Outcome → History → Type 0
HasCome message phase None history = IsInPhase message phase history
HasCome message phase (Some outcome) history = IsAttempt message history outcome

-- the newest event is that the id was taken
abbrev pub IsTriggered : Message → Events → Type 0
IsTriggered message [] = ⊥
IsTriggered message (Made step ∷ before) = (step.op ≡ trigger message) × (step.reply ≡ Done)
IsTriggered message (Waited time ∷ before) = ⊥
IsTriggered message (Lacked page ∷ before) = ⊥
IsTriggered message (Asked number ∷ before) = IsTriggered message before

-- between that and the next operation the rest passed
abbrev pub RestsAfterTrigger : Message → Timing → Events → Type 0
RestsAfterTrigger message timing [] = Unit {0}
RestsAfterTrigger message timing (Made step ∷ before) = ¬ (IsTriggered message before) × RestsAfterTrigger message timing before
RestsAfterTrigger message timing (Waited time ∷ before) = (IsTriggered message before → time ≡ timing.rest) × RestsAfterTrigger message timing before
RestsAfterTrigger message timing (Lacked page ∷ before) = RestsAfterTrigger message timing before
RestsAfterTrigger message timing (Asked number ∷ before) = RestsAfterTrigger message timing before

-- the attempt ended so
pub record EndsAttempt (message : Message) (timing : Timing) (own : Events) (outcome : Outcome) : Type 0 where
  pub shown : IsAttempt message (steps_of own) outcome
  pub rests : RestsAfterTrigger message timing own

-- it is in some phase, and hasn't ended
pub record GoesOnAttempt (message : Message) (timing : Timing) (own : Events) : Type 0 where
  pub phase : Phase
  pub come : IsInPhase message phase (steps_of own)
  pub rests : RestsAfterTrigger message timing own
