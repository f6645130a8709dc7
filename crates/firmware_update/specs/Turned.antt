-- An update on a bus from its beginning on, turn by turn: each operation and each wait is what was wanted then, and it goes on until it
-- wants nothing more. (this project's own)
use Rattle.std.specs.Prelude.{◌≡◌, ℕ, List, [], ◌∷◌, length, Option, Some, None}
use Rattle.bus_model.specs.declared.operation.Reply.{Reply}
use Rattle.command_block.specs.declared.delivery.Delivery.{Delivery}
use Rattle.command_block.specs.Deliveries.{delivery_after}
use Rattle.command_block.specs.Turns.{IsRested}
use Rattle.conversations.specs.declared.event.Event.TheVariants.{Made, Waited, Lacked, Asked}
use Rattle.conversations.specs.declared.next.Next.TheVariants.{Do, Wait}
use Rattle.conversations.specs.Events.{Events}
use Rattle.firmware_update.specs.declared.session.Session.{Session}
use Rattle.firmware_update.specs.Courses.{going_on, session_at, wanted}
use Rattle.firmware_update.specs.Durations.{none}
use Rattle.firmware_update.specs.Progress.{begun_update}

abbrev pub begun_session : List ℕ → Session
begun_session file = session_at file (begun_update (length file)) none

-- the command on its way takes the reply
abbrev pub replied_by : List ℕ → Session → Option Delivery → Reply → Session
replied_by file session None reply = session
replied_by file session (Some delivery) reply = going_on file session.update session.durations (delivery_after delivery reply)

abbrev pub replied : List ℕ → Session → Reply → Session
replied file session reply = replied_by file session session.delivery reply

-- the command on its way has waited
abbrev pub HasRestedBy : List ℕ → Session → Option Delivery → Session → Type 0
HasRestedBy file session None later = later ≡ session
HasRestedBy file session (Some delivery) later =
    (rested : Delivery) × IsRested delivery rested × (later ≡ going_on file session.update session.durations rested)

abbrev pub HasRested : List ℕ → Session → Session → Type 0
HasRested file session later = HasRestedBy file session session.delivery later

-- these events, the newest first, make this of an update to the file
abbrev pub HasTurned : List ℕ → Events → Session → Type 0
HasTurned file [] session = session ≡ begun_session file
HasTurned file (Made step ∷ before) session =
    (earlier : Session) × HasTurned file before earlier × (wanted earlier ≡ Do step.op) × (session ≡ replied file earlier step.reply)
HasTurned file (Waited time ∷ before) session =
    (earlier : Session) × HasTurned file before earlier × (wanted earlier ≡ Wait time) × HasRested file earlier session
HasTurned file (Lacked page ∷ before) session = ⊥
HasTurned file (Asked number ∷ before) session = ⊥
