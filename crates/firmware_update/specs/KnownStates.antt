-- What is known of a module's firmware when an update ends. (this project's own)
use Rattle.std.specs.Prelude.{◌≡◌, ℕ, ◌≤◌, true, Option, Some, None}
use Rattle.firmware_update.specs.declared.bank.Bank.{Bank}
use Rattle.firmware_update.specs.declared.command.Command.{Command}
use Rattle.firmware_update.specs.declared.command.Command.TheVariants.{Features, Info, Start, Block, Abort, Run, Commit}
use Rattle.firmware_update.specs.declared.command.Command.TheVariants as commands
use Rattle.firmware_update.specs.declared.known.Known.{Known}
use Rattle.firmware_update.specs.declared.known.Known.TheVariants.{Untouched, Begun, Aborted, MayBeComplete, Complete, MayRun, Runs, MayBeCommitted, Committed}
use Rattle.firmware_update.specs.declared.update.Cause.{Cause}
use Rattle.firmware_update.specs.declared.update.Cause.TheVariants.{Refused, Unsent, Unknown, Unsupported, NotStanding, GaveUp, LeftOpen}
use Rattle.firmware_update.specs.declared.update.Closing.{Closing}
use Rattle.firmware_update.specs.declared.update.Closing.TheVariants.{Due, Closed, Left}
use Rattle.firmware_update.specs.declared.update.Stage.{Stage}
use Rattle.firmware_update.specs.declared.update.Stage.TheVariants.{Asking, Looking, Starting, Sending, Running, Watching, Committing, Verifying, Finished}
use Rattle.firmware_update.specs.declared.update.Update.{Update}
use Rattle.firmware_update.specs.Replies.{new_is_committed}
use Rattle.firmware_update.specs.Exchanges.{EachExchange, Gave, History, MayHold, Newest, Stands, Succeeds}
use Rattle.firmware_update.specs.Safety.{ReportsNew}

-- how far a command goes: it asks, fills the other bank, closes it, runs it, or commits it
abbrev pub level : Command → ℕ
level Features = 0
level Info = 0
level (Start header) = 1
level (Block header address) = 1
level Abort = 1
level commands.Complete = 2
level Run = 3
level Commit = 4

-- no command that goes farther was carried out, not even perhaps
abbrev pub NoneAbove : ℕ → History → Type 0
NoneAbove most history = EachExchange (λ x before. MayHold x.outcome → level x.command ≤ most) history

-- by the exchanges, that is the module's state
abbrev pub Shows : Known → History → Type 0
Shows Untouched history = NoneAbove 0 history
Shows Begun history = NoneAbove 1 history
Shows Aborted history = NoneAbove 2 history × Newest (Succeeds Abort) history
Shows MayBeComplete history = NoneAbove 2 history
Shows Complete history = NoneAbove 2 history × Stands (Succeeds commands.Complete) history
Shows MayRun history = NoneAbove 3 history × Stands (Succeeds commands.Complete) history
Shows Runs history = NoneAbove 3 history × ((old : Bank) × Stands (ReportsNew old) history)
Shows MayBeCommitted history = (old : Bank) × Stands (ReportsNew old) history
Shows Committed history = (old : Bank) × Newest (Gave Info (λ reply. new_is_committed old reply ≡ true)) history

-- a Start may have begun a download, or an earlier one is open
abbrev pub known_begun : Option Cause → Known
known_begun None = Untouched
known_begun (Some Unknown) = Begun
known_begun (Some (LeftOpen code)) = Begun
known_begun (Some (Refused code)) = Untouched
known_begun (Some Unsent) = Untouched
known_begun (Some Unsupported) = Untouched
known_begun (Some NotStanding) = Untouched
known_begun (Some GaveUp) = Untouched

abbrev pub if_unknown : Option Cause → Known → Known → Known
if_unknown None known other = other
if_unknown (Some Unknown) known other = known
if_unknown (Some (Refused code)) known other = other
if_unknown (Some Unsent) known other = other
if_unknown (Some Unsupported) known other = other
if_unknown (Some NotStanding) known other = other
if_unknown (Some GaveUp) known other = other
if_unknown (Some (LeftOpen code)) known other = other

abbrev pub known_open : Stage → Option Cause → Known
known_open Asking fault = Untouched
known_open (Looking header) fault = Untouched
known_open (Starting header old) fault = known_begun fault
known_open (Sending header old address) fault = if_unknown fault MayBeComplete Begun
known_open (Running old) fault = Complete
known_open (Watching old) fault = MayRun
known_open (Committing old) fault = Runs
known_open (Verifying old) fault = MayBeCommitted
known_open Finished fault = Committed

-- a download that a fault left open was aborted, or not
abbrev pub known_by : Closing → Known → Known
known_by Due known = known
known_by Closed known = Aborted
known_by Left known = known

abbrev pub known_at : Update → Known
known_at update = known_by update.closing (known_open update.stage update.fault)
