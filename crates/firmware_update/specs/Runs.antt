-- What an update on a bus does to it, and what its answer says. (this project's own)
use Rattle.std.specs.Prelude.{◌≡◌, ◌≤◌, ℕ, ◌*◌, ◌+◌, List, length, Result, Ok, Err, ⊤}
use Rattle.bus_model.specs.declared.operation.Op.{Op}
use Rattle.conversations.specs.declared.next.Next.TheVariants.{Do, End}
use Rattle.conversations.specs.Events.{Events, steps_of}
use Rattle.firmware_update.specs.declared.runner.UpdateRun.{UpdateRun}
use Rattle.firmware_update.specs.declared.runner.UpdateRun.TheVariants.{Stopped, Over}
use Rattle.firmware_update.specs.declared.session.Session.{Session}
use Rattle.firmware_update.specs.declared.update.Cause.{Cause}
use Rattle.firmware_update.specs.declared.update.Update.{Update}
use Rattle.firmware_update.specs.declared.update.UpdateNext.TheVariants.{Done}
use Rattle.firmware_update.specs.Courses.{IsCourse, IsOnBus, IsSafeOnBus, wanted}
use Rattle.firmware_update.specs.Exchanges.{History}
use Rattle.firmware_update.specs.KnownStates.{Shows, known_at}
use Rattle.firmware_update.specs.Progress.{IsAt, IsFinished, next}
use Rattle.firmware_update.specs.Safety.{IsSafe}
use Rattle.firmware_update.specs.Turned.{HasTurned}

abbrev pub IsEndOf : ℕ → History → Result ⊤ Cause → Type 0
IsEndOf size history (Ok done) = IsFinished size history
IsEndOf size history (Err cause) = Unit {0}

-- no update makes more transactions: 4,096 for each of 34 times as many commands as the file has bytes, and 305 more
abbrev pub most_transactions : ℕ → ℕ
most_transactions size = (34 * size + 305) * 4096

abbrev pub IsShort : ℕ → Events → Type 0
IsShort size events = length (steps_of events) ≤ most_transactions size

-- these events, the newest first, are all that an update makes, turn by turn, as far as the bus went, or until it wants nothing more;
-- they were a course of what may be sent, and the answer is what it came to
abbrev pub IsRunOf : {F : Type 0} → List ℕ → Events → Type 0 → (F → Type 0) → UpdateRun F → Type 0
IsRunOf file events same fails (Stopped fault) =
    fails fault
    × ((session : Session) × HasTurned file events session × IsOnBus file events session × IsSafeOnBus file events session × ((op : Op) × (wanted session ≡ Do op)))
IsRunOf file events same fails (Over known end) =
    same
    × ((session : Session) × HasTurned file events session × (wanted session ≡ End end) × (known ≡ known_at session.update))
    × ((history : History) × (update : Update) × IsCourse file history events × IsAt (length file) history update × (next update ≡ Done end)
    × (known ≡ known_at update) × IsSafe (length file) history × Shows known history × IsEndOf (length file) history end × IsShort (length file) events)
