-- How far an update has come, by its exchanges with the newest first, what it sends next, and how it ends. (this project's
-- own)
use Rattle.std.specs.Prelude.{◌≡◌, ◌⊎◌, ℕ, ◌+◌, ◌-◌, ◌*◌, ◌<◌, ◌==◌, ◌||◌, nat_lt, Bool, true, false, List, [], ◌∷◌, Option, Some, None, Ok, Err, if◌then◌else◌}
use Rattle.firmware_update.specs.declared.bank.Bank.{Bank}
use Rattle.firmware_update.specs.declared.command.Command.{Command}
use Rattle.firmware_update.specs.declared.command.Command.TheVariants.{Features, Info, Start, Block, Complete, Abort, Run, Commit}
use Rattle.firmware_update.specs.declared.judgement.Judgement.{Judgement}
use Rattle.firmware_update.specs.declared.judgement.Judgement.TheVariants.{On, Again, Fails}
use Rattle.firmware_update.specs.declared.exchange.Exchange.{Exchange}
use Rattle.command_block.specs.declared.outcome.Outcome.{Outcome}
use Rattle.command_block.specs.declared.outcome.Outcome.TheVariants.{Succeeded, Failed}
use Rattle.command_block.specs.declared.outcome.Outcome.TheVariants as outcomes
use Rattle.firmware_update.specs.declared.update.Cause.{Cause}
use Rattle.firmware_update.specs.declared.update.Cause.TheVariants as causes
use Rattle.firmware_update.specs.declared.update.Closing.{Closing}
use Rattle.firmware_update.specs.declared.update.Closing.TheVariants.{Due, Closed, Left}
use Rattle.firmware_update.specs.declared.update.Stage.{Stage}
use Rattle.firmware_update.specs.declared.update.Stage.TheVariants.{Asking, Looking, Starting, Sending, Running, Watching, Committing, Verifying, Finished}
use Rattle.firmware_update.specs.declared.update.Update.{Update}
use Rattle.firmware_update.specs.declared.update.UpdateNext.{UpdateNext}
use Rattle.firmware_update.specs.declared.update.UpdateNext.TheVariants.{Send, Done}
use Rattle.firmware_update.specs.Blocks.{block_length}
use Rattle.firmware_update.specs.Replies.{new_is_committed, new_runs, standing_bank, start_size}
use Rattle.firmware_update.specs.Exchanges.{Gave, History, MayHave, Missed, Succeeds}
use Rattle.firmware_update.specs.Safety.{ReportsNew, ReportsStanding, ReportsStartSize}

abbrev pub exchange_of : Command → Outcome → Exchange
exchange_of command outcome = record { command = command; outcome = outcome }

-- ---- what is sent

-- the block at an address, or that there is none left
abbrev pub sending : ℕ → ℕ → ℕ → Command
sending size header address = if block_length size header address == 0 then Complete else Block header address

abbrev pub command_at : ℕ → Stage → Option Command
command_at size Asking = Some Features
command_at size (Looking header) = Some Info
command_at size (Starting header old) = Some (Start header)
command_at size (Sending header old address) = Some (sending size header address)
command_at size (Running old) = Some Run
command_at size (Watching old) = Some Info
command_at size (Committing old) = Some Commit
command_at size (Verifying old) = Some Info
command_at size Finished = None

abbrev pub next_command : Option Command → UpdateNext
next_command None = Done (Ok tt)
next_command (Some command) = Send command

-- the fault leaves a download open, perhaps
abbrev pub is_open : Stage → Cause → Bool
is_open (Starting header old) causes.Unknown = true
is_open (Starting header old) (causes.LeftOpen code) = true
is_open (Sending header old address) cause = true
is_open stage cause = false

abbrev pub next_closing : Bool → Closing → Cause → UpdateNext
next_closing true Due cause = Send Abort
next_closing true Closed cause = Done (Err cause)
next_closing true Left cause = Done (Err cause)
next_closing false closing cause = Done (Err cause)

abbrev pub next_by : Option Cause → Stage → Closing → Option Command → UpdateNext
next_by None stage closing command = next_command command
next_by (Some cause) stage closing command = next_closing (is_open stage cause) closing cause

abbrev pub next : Update → UpdateNext
next update = next_by update.fault update.stage update.closing (command_at update.size update.stage)

-- ---- what an outcome says

abbrev pub after_features : Option ℕ → Judgement
after_features None = Fails causes.Unsupported
after_features (Some header) = On (Looking header)

abbrev pub after_info : ℕ → Option Bank → Judgement
after_info header None = Fails causes.NotStanding
after_info header (Some old) = On (Starting header old)

abbrev pub sent_block : ℕ → ℕ → Bank → ℕ → Judgement
sent_block size header old address =
    if block_length size header address == 0 then On (Running old) else On (Sending header old (address + block_length size header address))

abbrev pub on_or_again : Stage → Bool → Judgement
on_or_again stage true = On stage
on_or_again stage false = Again

abbrev pub judged_reply : ℕ → Stage → List ℕ → Judgement
judged_reply size Asking reply = after_features (start_size size reply)
judged_reply size (Looking header) reply = after_info header (standing_bank reply)
judged_reply size (Starting header old) reply = On (Sending header old 0)
judged_reply size (Sending header old address) reply = sent_block size header old address
judged_reply size (Running old) reply = On (Watching old)
judged_reply size (Watching old) reply = on_or_again (Committing old) (new_runs old reply)
judged_reply size (Committing old) reply = On (Verifying old)
judged_reply size (Verifying old) reply = on_or_again Finished (new_is_committed old reply)
judged_reply size Finished reply = Again

-- the statuses with which a Start is refused while an earlier download is open: an earlier command was not ended (43h), or this
-- one can't be carried out now (47h)
abbrev pub refused_start : ℕ → Cause
refused_start code = if code == 67 || code == 71 then causes.LeftOpen code else causes.Refused code

abbrev pub judged_failed : Stage → ℕ → Judgement
judged_failed (Starting header old) code = Fails (refused_start code)
judged_failed (Watching old) code = Again
judged_failed (Verifying old) code = Again
judged_failed _ code = Fails (causes.Refused code)

-- what may be sent again: questions, and a block to the same address
abbrev pub again_if_query : ℕ → Stage → Cause → Judgement
again_if_query size Asking cause = Again
again_if_query size (Looking header) cause = Again
again_if_query size (Starting header old) cause = Fails cause
again_if_query size (Sending header old address) cause = if nat_lt 0 (block_length size header address) then Again else Fails cause
again_if_query size (Running old) cause = Fails cause
again_if_query size (Watching old) cause = Again
again_if_query size (Committing old) cause = Fails cause
again_if_query size (Verifying old) cause = Again
again_if_query size Finished cause = Fails cause

abbrev pub judged_unsent : ℕ → Stage → Judgement
judged_unsent size stage = again_if_query size stage causes.Unsent

abbrev pub judged_unknown : ℕ → Stage → Judgement
judged_unknown size (Running old) = On (Watching old)
judged_unknown size (Committing old) = On (Verifying old)
judged_unknown size stage = again_if_query size stage causes.Unknown

abbrev pub judged : ℕ → Stage → Outcome → Judgement
judged size stage (Succeeded reply) = judged_reply size stage reply.items
judged size stage (Failed code) = judged_failed stage code
judged size stage outcomes.Unsent = judged_unsent size stage
judged size stage outcomes.Unknown = judged_unknown size stage

abbrev pub most_tries : ℕ
most_tries = 32

-- an update of a file of this size, before its first command
abbrev pub begun_update : ℕ → Update
begun_update size = record { size = size; stage = Asking; tries = most_tries; fault = None; closing = Due }

abbrev pub settled : Update → Judgement → Update
settled update (On stage) = record { size = update.size; stage = stage; tries = most_tries; fault = update.fault; closing = update.closing }
settled update Again =
    if nat_lt 0 update.tries then record { size = update.size; stage = update.stage; tries = update.tries - 1; fault = update.fault; closing = update.closing }
    else record { size = update.size; stage = update.stage; tries = most_tries; fault = Some causes.GaveUp; closing = update.closing }
settled update (Fails cause) = record { size = update.size; stage = update.stage; tries = most_tries; fault = Some cause; closing = update.closing }

abbrev pub with_closing : Closing → Update → Update
with_closing closing update = record { size = update.size; stage = update.stage; tries = update.tries; fault = update.fault; closing = closing }

-- an Abort may be sent again
abbrev pub aborted_again : Update → Update
aborted_again update =
    if nat_lt 0 update.tries then record { size = update.size; stage = update.stage; tries = update.tries - 1; fault = update.fault; closing = update.closing }
    else with_closing Left update

abbrev pub aborted : Update → Outcome → Update
aborted update (Succeeded reply) = with_closing Closed update
aborted update (Failed code) = with_closing Left update
aborted update outcomes.Unsent = aborted_again update
aborted update outcomes.Unknown = aborted_again update

abbrev pub taken_by : Option Cause → Update → Outcome → Update
taken_by None update outcome = settled update (judged update.size update.stage outcome)
taken_by (Some cause) update outcome = aborted update outcome

abbrev pub taken : Update → Outcome → Update
taken update outcome = taken_by update.fault update outcome

-- ---- how far it has come

-- no question about how firmware is managed was answered
abbrev pub IsAsking : History → Type 0
IsAsking [] = Unit {0}
IsAsking (x ∷ before) = Missed Features x × IsAsking before

-- one was, and none yet about which image runs
abbrev pub IsLooking : ℕ → ℕ → History → Type 0
IsLooking size header [] = ⊥
IsLooking size header (x ∷ before) = (Missed Info x × IsLooking size header before) ⊎ (ReportsStartSize size header x × IsAsking before)

abbrev pub IsStarting : ℕ → ℕ → Bank → History → Type 0
IsStarting size header old [] = ⊥
IsStarting size header old (x ∷ before) = ReportsStanding old x × IsLooking size header before

-- the Start was carried out, and each block below the address in turn
abbrev pub IsSending : ℕ → ℕ → Bank → ℕ → History → Type 0
IsSending size header old address [] = ⊥
IsSending size header old address (x ∷ before) =
    (Missed (Block header address) x × (address + header < size) × IsSending size header old address before)
    ⊎ (((address ≡ 0) × Succeeds (Start header) x × IsStarting size header old before)
    ⊎ ((earlier : ℕ) × (address ≡ earlier + block_length size header earlier) × (earlier + header < size) × Succeeds (Block header earlier) x × IsSending size header old earlier before))

-- all were, and that they are complete
abbrev pub IsRunning : ℕ → Bank → History → Type 0
IsRunning size old [] = ⊥
IsRunning size old (x ∷ before) = Succeeds Complete x × ((header : ℕ) × IsSending size header old (size - header) before)

-- the new image was to run, and it is asked whether it does
abbrev pub IsWatching : ℕ → Bank → History → Type 0
IsWatching size old [] = ⊥
IsWatching size old (x ∷ before) = ((x.command ≡ Info) × IsWatching size old before) ⊎ (MayHave Run x × IsRunning size old before)

abbrev pub IsCommitting : ℕ → Bank → History → Type 0
IsCommitting size old [] = ⊥
IsCommitting size old (x ∷ before) = ReportsNew old x × IsWatching size old before

abbrev pub IsVerifying : ℕ → Bank → History → Type 0
IsVerifying size old [] = ⊥
IsVerifying size old (x ∷ before) = ((x.command ≡ Info) × IsVerifying size old before) ⊎ (MayHave Commit x × IsCommitting size old before)

abbrev pub IsFinished : ℕ → History → Type 0
IsFinished size [] = ⊥
IsFinished size (x ∷ before) = (old : Bank) × Gave Info (λ reply. new_is_committed old reply ≡ true) x × IsVerifying size old before

abbrev pub IsAtStage : ℕ → Stage → History → Type 0
IsAtStage size Asking history = IsAsking history
IsAtStage size (Looking header) history = IsLooking size header history × (header < size)
IsAtStage size (Starting header old) history = IsStarting size header old history × (header < size)
IsAtStage size (Sending header old address) history = IsSending size header old address history × (address + header < size + 1)
IsAtStage size (Running old) history = IsRunning size old history
IsAtStage size (Watching old) history = IsWatching size old history
IsAtStage size (Committing old) history = IsCommitting size old history
IsAtStage size (Verifying old) history = IsVerifying size old history
IsAtStage size Finished history = IsFinished size history

-- the newest exchange ended it, at a stage
abbrev pub HasFailed : ℕ → Stage → Cause → History → Type 0
HasFailed size stage cause [] = ⊥
HasFailed size stage cause (x ∷ before) =
    (command_at size stage ≡ Some x.command)
    × ((judged size stage x.outcome ≡ Fails cause) ⊎ ((cause ≡ causes.GaveUp) × (judged size stage x.outcome ≡ Again)))
    × IsAtStage size stage before

-- since then a download that it left open was to be aborted, which had no answer
abbrev pub AbortsOn : ℕ → Stage → Cause → History → Type 0
AbortsOn size stage cause [] = ⊥
AbortsOn size stage cause (x ∷ before) =
    HasFailed size stage cause (x ∷ before) ⊎ (Missed Abort x × (is_open stage cause ≡ true) × AbortsOn size stage cause before)

-- or it was aborted, or can't be
abbrev pub HasClosed : ℕ → Stage → Cause → Closing → History → Type 0
HasClosed size stage cause Due history = AbortsOn size stage cause history
HasClosed size stage cause Closed [] = ⊥
HasClosed size stage cause Closed (x ∷ before) = Succeeds Abort x × (is_open stage cause ≡ true) × AbortsOn size stage cause before
HasClosed size stage cause Left [] = ⊥
HasClosed size stage cause Left (x ∷ before) = (x.command ≡ Abort) × (is_open stage cause ≡ true) × AbortsOn size stage cause before

abbrev pub HasComeTo : ℕ → Stage → Option Cause → Closing → History → Type 0
HasComeTo size stage None closing history = IsAtStage size stage history × (closing ≡ Due)
HasComeTo size stage (Some cause) closing history = HasClosed size stage cause closing history

-- the update was told these exchanges of a file of this size
pub record IsAt (size : ℕ) (history : History) (update : Update) : Type 0 where
  pub sized : update.size ≡ size
  pub come : HasComeTo size update.stage update.fault update.closing history

-- ---- how many commands are left

abbrev pub rank : ℕ → Stage → ℕ
rank size Asking = size + 8
rank size (Looking header) = size + 7
rank size (Starting header old) = size + 6
rank size (Sending header old address) = (size - address - header) + 5
rank size (Running old) = 4
rank size (Watching old) = 3
rank size (Committing old) = 2
rank size (Verifying old) = 1
rank size Finished = 0

abbrev pub left_closing : Closing → ℕ → ℕ
left_closing Due tries = tries + 1
left_closing Closed tries = 0
left_closing Left tries = 0

abbrev pub left_by : Option Cause → Closing → ℕ → ℕ → ℕ
left_by None closing tries steps = steps * 34 + tries
left_by (Some cause) closing tries steps = left_closing closing tries

abbrev pub left : Update → ℕ
left update = left_by update.fault update.closing update.tries (rank update.size update.stage)

abbrev pub most_left : ℕ → ℕ
most_left size = (size + 8) * 34 + most_tries
