-- How an update or a single command ended, and how far an update has come, as numbers. (docs/firmware_update.md; this project's
-- own)
use Rattle.std.specs.Prelude.{ℕ, ◌+◌, min, length, replicate, Option, Some, None, Result, Ok, Err, ⊤}
use Rattle.command_block.specs.declared.delivery.Delivery.{Delivery}
use Rattle.command_block.specs.declared.outcome.Outcome.{Outcome}
use Rattle.command_block.specs.declared.outcome.Outcome.TheVariants.{Succeeded, Failed}
use Rattle.command_block.specs.declared.outcome.Outcome.TheVariants as outcomes
use Rattle.command_block.specs.Deliveries.{attempt_in}
use Rattle.command_block.specs.Phases.{known}
use Rattle.firmware_update.specs.declared.known.Known.{Known}
use Rattle.firmware_update.specs.declared.known.Known.TheVariants.{Untouched, Begun, Aborted, MayBeComplete, Complete, MayRun, Runs, MayBeCommitted, Committed}
use Rattle.firmware_update.specs.declared.session.Session.{Session}
use Rattle.firmware_update.specs.declared.update.Cause.{Cause}
use Rattle.firmware_update.specs.declared.update.Cause.TheVariants.{Refused, Unsent, Unknown, Unsupported, NotStanding, GaveUp, LeftOpen}
use Rattle.firmware_update.specs.declared.update.Stage.{Stage}
use Rattle.firmware_update.specs.declared.update.Stage.TheVariants.{Asking, Looking, Starting, Sending, Running, Watching, Committing, Verifying, Finished}
use Rattle.firmware_update.specs.declared.update.Update.{Update}
use Rattle.firmware_update.specs.KnownStates.{known_at}
use Rattle.firmware_update.specs.Progress.{taken}
use Rattle.saved_update.specs.SavedDeliveries.{padded}
use Rattle.saved_update.specs.declared.progress.Progress.{Progress}
use Rattle.saved_update.specs.declared.progress.SavedEnding.{SavedEnding}
use Rattle.saved_update.specs.declared.work.Ending.{Ending}
use Rattle.saved_update.specs.declared.work.Ending.TheVariants.{Updated, Answered}
use Rattle.saved_update.specs.declared.work.Work.{Work}
use Rattle.saved_update.specs.declared.work.Work.TheVariants as works

-- ---- what is known

abbrev pub number_of_known : Known → ℕ
number_of_known Untouched = 1
number_of_known Begun = 2
number_of_known Aborted = 3
number_of_known MayBeComplete = 4
number_of_known Complete = 5
number_of_known MayRun = 6
number_of_known Runs = 7
number_of_known MayBeCommitted = 8
number_of_known Committed = 9

abbrev pub known_of : Work → ℕ
known_of (works.Updating session held) = number_of_known (known_at session.update)
known_of (works.Asking question delivery) = 0

-- ---- how it ended

abbrev pub without_reply : ℕ → ℕ → ℕ → SavedEnding
without_reply fault status known = record { fault = fault; status = status; known = known; count = 0; reply = replicate 128 0 }

abbrev pub numbers_of_cause : Cause → ℕ × ℕ
numbers_of_cause (Refused status) = (1, status)
numbers_of_cause Unsent = (2, 0)
numbers_of_cause Unknown = (3, 0)
numbers_of_cause Unsupported = (4, 0)
numbers_of_cause NotStanding = (5, 0)
numbers_of_cause GaveUp = (6, 0)
numbers_of_cause (LeftOpen status) = (7, status)

abbrev pub updated : ℕ → Result ⊤ Cause → SavedEnding
updated known (Ok done) = without_reply 0 0 known
updated known (Err cause) = without_reply (numbers_of_cause cause).0 (numbers_of_cause cause).1 known

-- the reply, and zeros after it
abbrev pub answered : Outcome → SavedEnding
answered (Succeeded reply) = record { fault = 0; status = 0; known = 0; count = length reply.items; reply = padded reply.items }
answered (Failed status) = without_reply 1 status 0
answered outcomes.Unsent = without_reply 2 0 0
answered outcomes.Unknown = without_reply 3 0 0

abbrev pub ending_of : Work → Ending → SavedEnding
ending_of work (Updated end) = updated (known_of work) end
ending_of work (Answered outcome) = answered outcome

-- ---- how far it has come

-- the bytes of the Start and of the blocks that were accepted
abbrev pub sent_at : ℕ → Stage → ℕ
sent_at size Asking = 0
sent_at size (Looking header) = 0
sent_at size (Starting header old) = 0
sent_at size (Sending header old address) = min (address + header) 4294967295
sent_at size (Running old) = size
sent_at size (Watching old) = size
sent_at size (Committing old) = size
sent_at size (Verifying old) = size
sent_at size Finished = size

abbrev pub sent_of : Update → ℕ
sent_of update = sent_at update.size update.stage

-- if nothing more is done, whatever comes of the command on its way
abbrev pub known_by : Update → Option Delivery → Known
known_by update None = known_at update
known_by update (Some delivery) = known_at (taken update (known (attempt_in delivery.patient)))

abbrev pub known_now : Session → Known
known_now session = known_by session.update session.delivery

abbrev pub progress_of : Work → Progress
progress_of (works.Updating session held) =
    record { sent = sent_of session.update; all = session.update.size; known = number_of_known (known_now session) }
progress_of (works.Asking question delivery) = record { sent = 0; all = 0; known = 0 }
