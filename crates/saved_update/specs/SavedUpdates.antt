-- What works at a module's firmware as plain numbers: which numbers are whose. (docs/firmware_update.md, "From C and Python"; this project's own)
use Rattle.std.specs.Prelude.{◌==◌, ◌&&◌, ℕ, nat_le, Bool, List, length, Option, Some, None, if◌then◌else◌}
use Rattle.command_block.specs.declared.delivery.Delivery.{Delivery}
use Rattle.firmware_update.specs.declared.bank.Bank.{Bank}
use Rattle.firmware_update.specs.declared.bank.Bank.TheVariants.{A, B}
use Rattle.firmware_update.specs.declared.durations.Durations.{Durations}
use Rattle.firmware_update.specs.declared.session.Session.{Session}
use Rattle.firmware_update.specs.declared.update.Cause.{Cause}
use Rattle.firmware_update.specs.declared.update.Cause.TheVariants as causes
use Rattle.firmware_update.specs.declared.update.Closing.{Closing}
use Rattle.firmware_update.specs.declared.update.Closing.TheVariants.{Due, Closed, Left}
use Rattle.firmware_update.specs.declared.update.Stage.{Stage}
use Rattle.firmware_update.specs.declared.update.Stage.TheVariants.{Asking, Looking, Starting, Sending, Running, Watching, Committing, Verifying, Finished}
use Rattle.firmware_update.specs.declared.update.Update.{Update}
use Rattle.firmware_update.specs.declared.update.UpdateNext.{UpdateNext}
use Rattle.firmware_update.specs.declared.update.UpdateNext.TheVariants.{Send, Done}
use Rattle.firmware_update.specs.Courses.{delay_for}
use Rattle.firmware_update.specs.Durations.{duration_for}
use Rattle.firmware_update.specs.Payloads.{message_of}
use Rattle.firmware_update.specs.Progress.{next}
use Rattle.saved_update.specs.declared.numbers.SavedDelivery.{SavedDelivery}
use Rattle.saved_update.specs.declared.numbers.SavedDurations.{SavedDurations}
use Rattle.saved_update.specs.declared.numbers.SavedStage.{SavedStage}
use Rattle.saved_update.specs.declared.numbers.SavedUpdate.{SavedUpdate}
use Rattle.saved_update.specs.declared.work.Question.{Question}
use Rattle.saved_update.specs.declared.work.Question.TheVariants.{Features, Info, Commit, Abort, Password}
use Rattle.saved_update.specs.declared.work.Work.{Work}
use Rattle.saved_update.specs.declared.work.Work.TheVariants as works
use Rattle.saved_update.specs.SavedDeliveries.{delivery_in}
use Rattle.saved_update.specs.Works.{message_of_question}

-- what stands in each: DCU1, in ASCII
abbrev pub update_magic : ℕ
update_magic = 0x44435531

-- ---- an update

abbrev pub bank_in : ℕ → Bank
bank_in number = if number == 1 then B else A

abbrev pub durations_in : SavedDurations → Durations
durations_in saved = record { start = saved.start; abort = saved.abort; block = saved.block; complete = saved.complete }

abbrev pub stage_in : SavedStage → Stage
stage_in saved =
    if saved.stage == 0 then Asking
    else (if saved.stage == 1 then Looking saved.header
    else (if saved.stage == 2 then Starting saved.header (bank_in saved.old)
    else (if saved.stage == 3 then Sending saved.header (bank_in saved.old) saved.address
    else (if saved.stage == 4 then Running (bank_in saved.old)
    else (if saved.stage == 5 then Watching (bank_in saved.old)
    else (if saved.stage == 6 then Committing (bank_in saved.old)
    else (if saved.stage == 7 then Verifying (bank_in saved.old)
    else Finished)))))))

abbrev pub fault_in : ℕ → ℕ → Option Cause
fault_in number status =
    if number == 0 then None
    else (if number == 1 then Some (causes.Refused status)
    else (if number == 2 then Some causes.Unsent
    else (if number == 3 then Some causes.Unknown
    else (if number == 4 then Some causes.Unsupported
    else (if number == 5 then Some causes.NotStanding
    else (if number == 7 then Some (causes.LeftOpen status)
    else Some causes.GaveUp))))))

abbrev pub closing_in : ℕ → Closing
closing_in number = if number == 1 then Closed else (if number == 2 then Left else Due)

abbrev pub update_in : SavedUpdate → Update
update_in saved = record {
  size = saved.size;
  stage = stage_in saved.stage;
  tries = saved.tries;
  fault = fault_in saved.fault saved.status;
  closing = closing_in saved.closing;
}

-- the command that it sends, on its way
abbrev pub delivery_by : List ℕ → Update → Durations → SavedDelivery → UpdateNext → Option Delivery
delivery_by file update durations saved (Send command) =
    Some (delivery_in (message_of file command) (duration_for command durations) (delay_for update) saved)
delivery_by file update durations saved (Done end) = None

abbrev pub session_at : List ℕ → Update → Durations → SavedDelivery → Session
session_at file update durations saved =
    record { update = update; durations = durations; delivery = delivery_by file update durations saved (next update) }

abbrev pub session_in : List ℕ → SavedUpdate → Session
session_in file saved = session_at file (update_in saved) (durations_in saved.durations) saved.delivery

-- ---- a single command

abbrev pub question_in : ℕ → ℕ → Question
question_in number password =
    if number == 1 then Features
    else (if number == 2 then Info
    else (if number == 3 then Commit
    else (if number == 4 then Abort
    else Password password)))

abbrev pub asking_in : Question → SavedDelivery → Work
asking_in question saved = works.Asking question (delivery_in (message_of_question question) 0 0 saved)

-- ---- what works

-- a single command is begun with no file
abbrev pub work_by : List ℕ → SavedUpdate → Option Work
work_by file saved =
    if saved.work == 0 then Some (works.Updating (session_in file saved) (saved.held == 1))
    else (if saved.size == 0 then Some (asking_in (question_in saved.work saved.password) saved.delivery) else None)

-- it was begun, with a file of this size, and its Start has room
abbrev pub is_sound : List ℕ → SavedUpdate → Bool
is_sound file saved = saved.magic == update_magic && saved.size == length file && nat_le saved.stage.header 112

-- what works by these numbers, with this file; none by other memory, or with a file of another size
unfoldable pub work_in : List ℕ → SavedUpdate → Option Work
work_in file saved = if is_sound file saved then work_by file saved else None
