-- What works at a module's firmware: an update of firmware_update, or a single message of command_block. (this project's own)
use Rattle.std.specs.Prelude.{◌≡◌, ℕ, ◌&&◌, Bool, true, false, List, length, Result, Ok, ⊤, if◌then◌else◌, is_none}
use Rattle.bus_model.specs.declared.operation.Reply.{Reply}
use Rattle.command_block.specs.declared.delivery.Delivery.{Delivery}
use Rattle.command_block.specs.declared.message.Message.{Message}
use Rattle.command_block.specs.declared.outcome.Outcome.{Outcome}
use Rattle.command_block.specs.Deliveries.{begun_delivery, delivery_after, delivery_wants, terms_for, terms_of}
use Rattle.command_block.specs.Turns.{IsRested}
use Rattle.conversations.specs.declared.next.Next.{Next}
use Rattle.conversations.specs.declared.next.Next.TheVariants.{Do, Wait, End}
use Rattle.firmware_update.specs.declared.session.Session.{Session}
use Rattle.firmware_update.specs.declared.update.Cause.{Cause}
use Rattle.firmware_update.specs.declared.update.Stage.{Stage}
use Rattle.firmware_update.specs.declared.update.Stage.TheVariants.{Asking, Looking, Starting, Sending, Running, Watching, Committing, Verifying, Finished}
use Rattle.firmware_update.specs.declared.update.Update.{Update}
use Rattle.firmware_update.specs.Courses as update
use Rattle.firmware_update.specs.Payloads.{abort_message, commit_message, features_message, info_message, password_message}
use Rattle.firmware_update.specs.Sessions.{IsAbout}
use Rattle.firmware_update.specs.Turned.{begun_session}
use Rattle.firmware_update.specs.Turned as turned
use Rattle.saved_update.specs.declared.work.Ending.{Ending}
use Rattle.saved_update.specs.declared.work.Ending.TheVariants.{Updated, Answered}
use Rattle.saved_update.specs.declared.work.Question.{Question}
use Rattle.saved_update.specs.declared.work.Question.TheVariants.{Features, Info, Commit, Abort, Password}
use Rattle.saved_update.specs.declared.work.Work.{Work}
use Rattle.saved_update.specs.declared.work.Work.TheVariants as works

abbrev pub message_of_question : Question → Message
message_of_question Features = features_message
message_of_question Info = info_message
message_of_question Commit = commit_message
message_of_question Abort = abort_message
message_of_question (Password password) = password_message password

-- ---- at the beginning

abbrev pub begun_update : List ℕ → Bool → Work
begun_update file held = works.Updating (begun_session file) held

abbrev pub begun_question : Question → Work
begun_question question = works.Asking question (begun_delivery (message_of_question question) 0 0)

-- ---- what is wanted

abbrev pub is_committing : Stage → Bool
is_committing Asking = false
is_committing (Looking header) = false
is_committing (Starting header old) = false
is_committing (Sending header old address) = false
is_committing (Running old) = false
is_committing (Watching old) = false
is_committing (Committing old) = true
is_committing (Verifying old) = false
is_committing Finished = false

-- the Commit comes next
abbrev pub is_held : Update → Bool
is_held update = is_none update.fault && is_committing update.stage

abbrev pub updated : Next (Result ⊤ Cause) → Next Ending
updated (Do op) = Do op
updated (Wait time) = Wait time
updated (End end) = End (Updated end)

abbrev pub answered : Next Outcome → Next Ending
answered (Do op) = Do op
answered (Wait time) = Wait time
answered (End outcome) = End (Answered outcome)

abbrev pub next_of_session : Session → Next Ending
next_of_session session = updated (update.wanted session)

abbrev pub next_of_delivery : Delivery → Next Ending
next_of_delivery delivery = answered (delivery_wants delivery)

-- an update that is held back wants nothing more once the Commit comes next
abbrev pub wants : Work → Next Ending
wants (works.Updating session held) = if held && is_held session.update then End (Updated (Ok tt)) else next_of_session session
wants (works.Asking question delivery) = next_of_delivery delivery

-- ---- what comes of it

abbrev pub replied : List ℕ → Work → Reply → Work
replied file (works.Updating session held) reply = works.Updating (turned.replied file session reply) held
replied file (works.Asking question delivery) reply = works.Asking question (delivery_after delivery reply)

-- so long as was wanted has passed
abbrev pub HasRested : List ℕ → Work → Work → Type 0
HasRested file (works.Updating session held) later = (rested : Session) × turned.HasRested file session rested × (later ≡ works.Updating rested held)
HasRested file (works.Asking question delivery) later = (rested : Delivery) × IsRested delivery rested × (later ≡ works.Asking question rested)

-- ---- the file

-- it is about this file; a single command needs none
abbrev pub IsOf : List ℕ → Work → Type 0
IsOf file (works.Updating session held) = IsAbout file session
IsOf file (works.Asking question delivery) = (length file ≡ 0) × (terms_of delivery.patient ≡ terms_for (message_of_question question) 0 0)
