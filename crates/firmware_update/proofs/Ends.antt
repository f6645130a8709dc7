-- An update that ends well has come to its end.
use Rattle.std.proofs.Common.{◌≡◌, ℕ, Bool, true, false, Option, Some, None, Ok}
use Rattle.firmware_update.specs.declared.command.Command.{Command}
use Rattle.firmware_update.specs.declared.update.Cause.{Cause}
use Rattle.firmware_update.specs.declared.update.Closing.{Closing}
use Rattle.firmware_update.specs.declared.update.Closing.TheVariants.{Due, Closed, Left}
use Rattle.firmware_update.specs.declared.update.Stage.{Stage}
use Rattle.firmware_update.specs.declared.update.Stage.TheVariants.{Asking, Looking, Starting, Sending, Running, Watching, Committing, Verifying, Finished}
use Rattle.firmware_update.specs.declared.update.UpdateNext.TheVariants.{Done}
use Rattle.firmware_update.specs.Exchanges.{History}
use Rattle.firmware_update.specs.Progress.{HasComeTo, IsFinished, command_at, is_open, next_by, next_closing, next_command}

some_goes_on : (o : Option Command) (command : Command) → o ≡ Some command → next_command o ≡ Done (Ok tt) → ⊥
some_goes_on None command is e = absurd cc
some_goes_on (Some other) command is e = absurd cc

closing_goes_on : (b : Bool) (closing : Closing) (cause : Cause) → next_closing b closing cause ≡ Done (Ok tt) → ⊥
closing_goes_on true Due cause e = absurd cc
closing_goes_on true Closed cause e = absurd cc
closing_goes_on true Left cause e = absurd cc
closing_goes_on false closing cause e = absurd cc

pub come_finished : (size : ℕ) (fault : Option Cause) (stage : Stage) (closing : Closing) (h : History) → HasComeTo size stage fault closing h → next_by fault stage closing (command_at size stage) ≡ Done (Ok tt)
    → IsFinished size h
come_finished size (Some cause) stage closing h at e = absurd (closing_goes_on (is_open stage cause) closing cause e)
come_finished size None Finished closing h at e = at.0
come_finished size None Asking closing h at e = absurd cc
come_finished size None (Looking header) closing h at e = absurd cc
come_finished size None (Starting header old) closing h at e = absurd cc
come_finished size None (Sending header old address) closing h at e = absurd cc
come_finished size None (Running old) closing h at e = absurd cc
come_finished size None (Watching old) closing h at e = absurd cc
come_finished size None (Committing old) closing h at e = absurd cc
come_finished size None (Verifying old) closing h at e = absurd cc
