-- What a reply to a port led to, as numbers. (docs/manager.md, "From C"; this project's own)
use Rattle.std.specs.Prelude.{◌≡◌, ℕ, None, Some}
use Rattle.control_sets.specs.declared.procedures.saved_fault.SavedFault.{SavedFault}
use Rattle.control_sets.specs.SavedNumbers.{numbers, saved_fault}
use Rattle.port_manager.specs.declared.port.Outcome.{Outcome}
use Rattle.port_manager.specs.declared.port.Outcome.TheVariants.{Dropped, Went, Paused, Failed, Left}
use Rattle.port_manager.specs.declared.turn.Note.{Note}
use Rattle.port_manager.specs.declared.turn.Note.TheVariants.{Quiet, Identified, Woken, Provisioned, CameUp, Held}
use Rattle.port_manager.specs.declared.turn.PortFault.{PortFault}
use Rattle.port_manager.specs.declared.turn.PortFault.TheVariants.{Unread, Asleep, Waking, Sleeping, Provisioning, Activating, Unseen, Changed, ApplyRefused, WakingRefused}
use Rattle.port_manager.specs.declared.turn.ProcedureFault.{ProcedureFault}
use Rattle.port_manager.specs.declared.turn.ProcedureFault.TheVariants as why
use Rattle.saved_port.specs.declared.outcome.SavedOutcome.{SavedOutcome}
use Rattle.saved_port.specs.SavedPorts.{no_reason}
use Rattle.saved_port.specs.Shown.{left_because}

abbrev pub number_of_note : Note → ℕ
number_of_note Quiet = 0
number_of_note Identified = 1
number_of_note Woken = 2
number_of_note Provisioned = 3
number_of_note CameUp = 4
number_of_note Held = 5

abbrev pub number_of_failure : PortFault → ℕ
number_of_failure Unread = 1
number_of_failure Asleep = 2
number_of_failure (Waking fault) = 3
number_of_failure (Provisioning fault) = 4
number_of_failure (Activating fault) = 5
number_of_failure Unseen = 6
number_of_failure Changed = 7
number_of_failure (Sleeping fault) = 8
number_of_failure ApplyRefused = 9
number_of_failure WakingRefused = 10

-- 8 if it was overdue, and else the number in the fault's code
abbrev pub numbers_of_procedure : ProcedureFault → SavedFault
numbers_of_procedure (why.Failed fault) = saved_fault (Some fault)
numbers_of_procedure why.Overdue = numbers 8 0 0

abbrev pub numbers_of_fault : PortFault → SavedFault
numbers_of_fault Unread = saved_fault None
numbers_of_fault Asleep = saved_fault None
numbers_of_fault (Waking fault) = numbers_of_procedure fault
numbers_of_fault (Sleeping fault) = numbers_of_procedure fault
numbers_of_fault (Provisioning fault) = numbers_of_procedure fault
numbers_of_fault (Activating fault) = numbers_of_procedure fault
numbers_of_fault Unseen = saved_fault None
numbers_of_fault Changed = saved_fault None
numbers_of_fault ApplyRefused = saved_fault None
numbers_of_fault WakingRefused = saved_fault None

abbrev pub plain : ℕ → ℕ → ℕ → SavedOutcome
plain kind note moment = record { moment = moment; kind = kind; note = note; failure = 0; fault = saved_fault None; left = no_reason }

abbrev pub failed : PortFault → ℕ → SavedOutcome
failed fault moment =
    record { moment = moment; kind = 3; note = 0; failure = number_of_failure fault; fault = numbers_of_fault fault; left = no_reason }

-- these are the numbers of what it led to; those that it doesn't have are 0
abbrev pub AreNumbersOf : Outcome → SavedOutcome → Type 0
AreNumbersOf Dropped numbers = numbers ≡ plain 0 0 0
AreNumbersOf (Went note) numbers = numbers ≡ plain 1 (number_of_note note) 0
AreNumbersOf (Paused moment) numbers = numbers ≡ plain 2 0 moment
AreNumbersOf (Failed fault moment) numbers = numbers ≡ failed fault moment
AreNumbersOf (Left reason) numbers =
    numbers ≡ record { moment = 0; kind = 4; note = 0; failure = 0; fault = saved_fault None; left = left_because reason }
