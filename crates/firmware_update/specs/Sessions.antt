-- An update over a bus that is about a file: whose Start has room, and whose command on its way is the one to be sent. (OIF-CMIS-05.0,
-- CMD 0101h "Start Firmware Download"; this project's own)
use Rattle.std.specs.Prelude.{◌≡◌, ◌≤◌, ℕ, List, length, Option, Some, None}
use Rattle.command_block.specs.declared.delivery.Delivery.{Delivery}
use Rattle.command_block.specs.Deliveries.{terms_for, terms_of}
use Rattle.firmware_update.specs.declared.durations.Durations.{Durations}
use Rattle.firmware_update.specs.declared.session.Session.{Session}
use Rattle.firmware_update.specs.declared.update.Stage.{Stage}
use Rattle.firmware_update.specs.declared.update.Stage.TheVariants.{Asking, Looking, Starting, Sending, Running, Watching, Committing, Verifying, Finished}
use Rattle.firmware_update.specs.declared.update.Update.{Update}
use Rattle.firmware_update.specs.declared.update.UpdateNext.{UpdateNext}
use Rattle.firmware_update.specs.declared.update.UpdateNext.TheVariants.{Send, Done}
use Rattle.firmware_update.specs.Courses.{delay_for}
use Rattle.firmware_update.specs.Durations.{duration_for}
use Rattle.firmware_update.specs.Payloads.{message_of}
use Rattle.firmware_update.specs.Progress.{next}

-- a Start at this stage, or at a later one, has room for the first bytes that it takes
abbrev pub HasRoomAt : Stage → Type 0
HasRoomAt Asking = Unit {0}
HasRoomAt (Looking header) = header ≤ 112
HasRoomAt (Starting header old) = header ≤ 112
HasRoomAt (Sending header old address) = header ≤ 112
HasRoomAt (Running old) = Unit {0}
HasRoomAt (Watching old) = Unit {0}
HasRoomAt (Committing old) = Unit {0}
HasRoomAt (Verifying old) = Unit {0}
HasRoomAt Finished = Unit {0}

-- if a command is to be sent, it is on its way, for as long as the module may need
abbrev pub IsSending : List ℕ → Durations → Update → UpdateNext → Option Delivery → Type 0
IsSending file durations update (Send command) (Some delivery) =
    terms_of delivery.patient ≡ terms_for (message_of file command) (duration_for command durations) (delay_for update)
IsSending file durations update (Send command) None = ⊥
IsSending file durations update (Done end) (Some delivery) = ⊥
IsSending file durations update (Done end) None = Unit {0}

abbrev pub IsAbout : List ℕ → Session → Type 0
IsAbout file session =
    (session.update.size ≡ length file) × HasRoomAt session.update.stage
    × IsSending file session.durations session.update (next session.update) session.delivery
