-- A module at the bus while messages are delivered to it: when it takes one, what it shows of that afterwards, and how it may stand
-- then. (OIF-CMIS-05.0, "CDB Messaging"; this project's own reading of it)
use Rattle.std.specs.Prelude.{◌≡◌, ◌≢◌, ◌⊎◌, ℕ, ◌≤◌, ◌<◌, List, [], ◌∷◌, ◌++◌, length, Some, None}
use Rattle.arrayvec.specs.ArrayVec.{ArrayVec}
use Rattle.bus_model.specs.declared.operation.Reply.TheVariants.{Done}
use Rattle.bus_model.specs.declared.operation.Step.{Step}
use Rattle.command_block.specs.declared.message.Message.{Message}
use Rattle.command_block.specs.declared.outcome.Outcome.{Outcome}
use Rattle.command_block.specs.declared.outcome.Outcome.TheVariants.{Succeeded, Failed, Unsent, Unknown}
use Rattle.command_block.specs.Attempts.{EachStep, Gives}
use Rattle.command_block.specs.Operations.{read_count, read_reply, read_status, trigger}
use Rattle.conversations.specs.Events.{Events, steps_of}
use Rattle.firmware_update.specs.Courses.{IsExchangeOn}
use Rattle.firmware_update.specs.Exchanges.{History}
use Rattle.firmware_update.specs.Payloads.{message_of}
use Rattle.firmware_laws.specs.Modules.{Answer, Conduct, CutsShort, Endures, Firmware}

-- ---- what a module shows

-- the first of these steps read this status
abbrev pub BeginsWithStatus : ℕ → List Step → Type 0
BeginsWithStatus status steps = (later : List Step) × (step : Step) × (steps ≡ later ++ step ∷ []) × Gives read_status (status ∷ []) step

-- the status says that a command has succeeded or failed
abbrev pub IsFinal : ℕ → Type 0
IsFinal status = (status ≡ 1) ⊎ ((64 ≤ status) × (status < 128))

abbrev pub ShowsStatus : Outcome → ℕ → Type 0
ShowsStatus (Succeeded reply) status = status ≡ 1
ShowsStatus (Failed code) status = (status ≡ code) × (64 ≤ code)
ShowsStatus Unsent status = ⊥
ShowsStatus Unknown status = ⊥

-- a final status that is read once the module took the message is that of this message, and not of the one before: the module is busy,
-- or shows what came of it, before it answers the store of the id
abbrev pub ShowsItsStatus : Answer → Step → Type 0
ShowsItsStatus answer step =
    (status : ℕ) → Gives read_status (status ∷ []) step → IsFinal status → (outcome : Outcome) × (answer.outcome ≡ Some outcome) × ShowsStatus outcome status

-- and so is a length of a reply that isn't zero
abbrev pub ShowsItsLength : Answer → Step → Type 0
ShowsItsLength answer step =
    (count check : ℕ) → Gives read_count (count ∷ check ∷ []) step → 0 < count
    → (reply : ArrayVec ℕ) × (answer.outcome ≡ Some (Succeeded reply)) × (count ≡ length reply.items)

-- and the bytes of that length
abbrev pub ShowsItsReply : Answer → Step → Type 0
ShowsItsReply answer step =
    (reply : ArrayVec ℕ) (bytes : List ℕ) → answer.outcome ≡ Some (Succeeded reply) → Gives (read_reply (length reply.items)) bytes step → bytes ≡ reply.items

pub record ShowsItsOwn (answer : Answer) (step : Step) : Type 0 where
  pub status : ShowsItsStatus answer step
  pub length : ShowsItsLength answer step
  pub reply : ShowsItsReply answer step

-- ---- when it takes a message

-- the module said of no store of the id that it took it
abbrev pub TookNone : Message → List Step → Type 0
TookNone sent steps = EachStep (λ step. step.op ≡ trigger sent → step.reply ≢ Done) steps

-- the module took the message when its id was stored, while it stood so, and answers so; what it shows since then is its own
abbrev pub HasTaken : Conduct → Message → Firmware → List Step → Answer → Type 0
HasTaken conduct sent before [] answer = ⊥
HasTaken conduct sent before (step ∷ earlier) answer =
    ((step.op ≡ trigger sent) × ((choice : ℕ) × (answer ≡ conduct sent choice before)))
    ⊎ (ShowsItsOwn answer step × HasTaken conduct sent before earlier answer)

-- power was lost afterwards, or a reset came, or not; or that came in the midst
abbrev pub Leaves : Answer → Firmware → Type 0
Leaves answer last = ((outcome : Outcome) × (answer.outcome ≡ Some outcome) × Endures answer.after last) ⊎ ((answer.outcome ≡ None) × CutsShort answer.after last)

-- a module that was the first may be the last after these steps of an attempt to have the message carried out, the newest first: it
-- took the message or not, with power lost and back, or a reset of a Run that was still to come, at any moments
abbrev pub StandsAfter : Conduct → Message → Firmware → List Step → Firmware → Type 0
StandsAfter conduct sent first steps last =
    (TookNone sent steps × Endures first last)
    ⊎ ((before : Firmware) × (answer : Answer) × Endures first before × HasTaken conduct sent before steps answer × Leaves answer last)

-- and after these events on a bus, by which the commands of a history were delivered with what came of each
abbrev pub ComesOnBus : Conduct → List ℕ → Firmware → History → Events → Firmware → Type 0
ComesOnBus conduct file first [] events last = (events ≡ []) × Endures first last
ComesOnBus conduct file first (x ∷ before) events last =
    (own : Events) × (earlier : Events) × (events ≡ own ++ earlier) × (by : IsExchangeOn file x before own) × (mid : Firmware)
    × ComesOnBus conduct file first before earlier mid × StandsAfter conduct (message_of file x.command) mid (steps_of by.1.own) last
