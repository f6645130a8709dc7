-- An update about a file stays so: a stage that has room is followed by stages that have, and the Start that it sends has room.
use Rattle.std.proofs.Common.{◌≡◌, ℕ, ◌≤◌, ◌==◌, nat_lt, Bool, true, false, cond, List, length, Option, Some, None, refl, sym, subst, ◌∙◌}
use Rattle.command_block.specs.declared.delivery.Delivery.{Delivery}
use Rattle.command_block.specs.declared.outcome.Outcome.{Outcome}
use Rattle.command_block.specs.declared.outcome.Outcome.TheVariants.{Succeeded, Failed}
use Rattle.command_block.specs.declared.outcome.Outcome.TheVariants as outcomes
use Rattle.command_block.specs.Deliveries.{delivery_wants, terms_of}
use Rattle.conversations.specs.declared.next.Next.{Next}
use Rattle.conversations.specs.declared.next.Next.TheVariants.{Do, Wait, End}
use Rattle.firmware_update.specs.declared.bank.Bank.{Bank}
use Rattle.firmware_update.specs.declared.command.Command.{Command}
use Rattle.firmware_update.specs.declared.command.Command.TheVariants.{Block, Complete}
use Rattle.firmware_update.specs.declared.durations.Durations.{Durations}
use Rattle.firmware_update.specs.declared.judgement.Judgement.{Judgement}
use Rattle.firmware_update.specs.declared.judgement.Judgement.TheVariants.{On, Again, Fails}
use Rattle.firmware_update.specs.declared.session.Session.{Session}
use Rattle.firmware_update.specs.declared.update.Cause.{Cause}
use Rattle.firmware_update.specs.declared.update.Closing.{Closing}
use Rattle.firmware_update.specs.declared.update.Closing.TheVariants.{Due, Closed, Left}
use Rattle.firmware_update.specs.declared.update.Stage.{Stage}
use Rattle.firmware_update.specs.declared.update.Stage.TheVariants.{Asking, Looking, Starting, Sending, Running, Watching, Committing, Verifying, Finished}
use Rattle.firmware_update.specs.declared.update.Update.{Update}
use Rattle.firmware_update.specs.declared.update.UpdateNext.{UpdateNext}
use Rattle.firmware_update.specs.declared.update.UpdateNext.TheVariants.{Send, Done}
use Rattle.firmware_update.specs.Blocks.{block_length}
use Rattle.firmware_update.specs.Courses.{delivery_at, going_by, going_on, learned_by, session_at}
use Rattle.firmware_update.specs.Payloads.{HasRoom}
use Rattle.firmware_update.specs.Progress.{aborted, again_if_query, after_features, after_info, command_at, is_open, judged, judged_failed, judged_reply, judged_unknown, next, next_by, next_closing, next_command, on_or_again, sending, settled, taken, taken_by}
use Rattle.firmware_update.specs.Replies.{new_is_committed, new_runs, standing_bank, start_size}
use Rattle.firmware_update.specs.Sessions.{HasRoomAt, IsAbout, IsSending}
use Rattle.firmware_update.proofs.Accepted.{start_room}

-- ---- what an outcome leads to

-- the stage that it leads to has room
abbrev RoomOn : Judgement → Type 0
RoomOn (On stage) = HasRoomAt stage
RoomOn Again = Unit {0}
RoomOn (Fails cause) = Unit {0}

of_features : (size : ℕ) (reply : List ℕ) (o : Option ℕ) → start_size size reply ≡ o → RoomOn (after_features o)
of_features size reply None e = tt
of_features size reply (Some header) e = start_room size header reply e

of_info : (header : ℕ) (o : Option Bank) → header ≤ 112 → RoomOn (after_info header o)
of_info header None room = tt
of_info header (Some old) room = room

of_block : (b : Bool) (header : ℕ) (old : Bank) (address : ℕ) → header ≤ 112 → RoomOn (cond b (On (Running old)) (On (Sending header old address)))
of_block true header old address room = tt
of_block false header old address room = room

of_watch : (b : Bool) (old : Bank) → RoomOn (on_or_again (Committing old) b)
of_watch true old = tt
of_watch false old = tt

of_verify : (b : Bool) → RoomOn (on_or_again Finished b)
of_verify true = tt
of_verify false = tt

replied : (size : ℕ) (stage : Stage) (reply : List ℕ) → HasRoomAt stage → RoomOn (judged_reply size stage reply)
replied size Asking reply room = of_features size reply (start_size size reply) refl
replied size (Looking header) reply room = of_info header (standing_bank reply) room
replied size (Starting header old) reply room = room
replied size (Sending header old address) reply room = of_block (block_length size header address == 0) header old _ room
replied size (Running old) reply room = tt
replied size (Watching old) reply room = of_watch (new_runs old reply) old
replied size (Committing old) reply room = tt
replied size (Verifying old) reply room = of_verify (new_is_committed old reply)
replied size Finished reply room = tt

failed : (stage : Stage) (code : ℕ) → RoomOn (judged_failed stage code)
failed Asking code = tt
failed (Looking header) code = tt
failed (Starting header old) code = tt
failed (Sending header old address) code = tt
failed (Running old) code = tt
failed (Watching old) code = tt
failed (Committing old) code = tt
failed (Verifying old) code = tt
failed Finished code = tt

again : (b : Bool) (cause : Cause) → RoomOn (cond b Again (Fails cause))
again true cause = tt
again false cause = tt

queried : (size : ℕ) (stage : Stage) (cause : Cause) → RoomOn (again_if_query size stage cause)
queried size Asking cause = tt
queried size (Looking header) cause = tt
queried size (Starting header old) cause = tt
queried size (Sending header old address) cause = again (nat_lt 0 (block_length size header address)) cause
queried size (Running old) cause = tt
queried size (Watching old) cause = tt
queried size (Committing old) cause = tt
queried size (Verifying old) cause = tt
queried size Finished cause = tt

unknown : (size : ℕ) (stage : Stage) → RoomOn (judged_unknown size stage)
unknown size Asking = tt
unknown size (Looking header) = tt
unknown size (Starting header old) = tt
unknown size (Sending header old address) = queried size (Sending header old address) _
unknown size (Running old) = tt
unknown size (Watching old) = tt
unknown size (Committing old) = tt
unknown size (Verifying old) = tt
unknown size Finished = tt

judged_room : (size : ℕ) (stage : Stage) (outcome : Outcome) → HasRoomAt stage → RoomOn (judged size stage outcome)
judged_room size stage (Succeeded reply) room = replied size stage reply.items room
judged_room size stage (Failed code) room = failed stage code
judged_room size stage outcomes.Unsent room = queried size stage _
judged_room size stage outcomes.Unknown room = unknown size stage

-- ---- an update

either_room : (b : Bool) (one other : Update) → HasRoomAt one.stage → HasRoomAt other.stage → HasRoomAt (cond b one other).stage
either_room true one other room rooms = room
either_room false one other room rooms = rooms

settled_room : (update : Update) (judgement : Judgement) → HasRoomAt update.stage → RoomOn judgement → HasRoomAt (settled update judgement).stage
settled_room update (On stage) room on = on
settled_room update Again room on = either_room (nat_lt 0 update.tries) _ _ room room
settled_room update (Fails cause) room on = room

aborted_room : (update : Update) (outcome : Outcome) → HasRoomAt update.stage → HasRoomAt (aborted update outcome).stage
aborted_room update (Succeeded reply) room = room
aborted_room update (Failed code) room = room
aborted_room update outcomes.Unsent room = either_room (nat_lt 0 update.tries) _ _ room room
aborted_room update outcomes.Unknown room = either_room (nat_lt 0 update.tries) _ _ room room

taken_in : (fault : Option Cause) (update : Update) (outcome : Outcome) → HasRoomAt update.stage → HasRoomAt (taken_by fault update outcome).stage
taken_in None update outcome room = settled_room update (judged update.size update.stage outcome) room (judged_room update.size update.stage outcome room)
taken_in (Some cause) update outcome room = aborted_room update outcome room

-- what comes after has room
pub taken_room : (update : Update) (outcome : Outcome) → HasRoomAt update.stage → HasRoomAt (taken update outcome).stage
taken_room update outcome room = taken_in update.fault update outcome room

-- ---- what it sends

sent : (b : Bool) (header address : ℕ) → HasRoom (cond b Complete (Block header address))
sent true header address = tt
sent false header address = tt

abbrev RoomIn : UpdateNext → Type 0
RoomIn (Send command) = HasRoom command
RoomIn (Done end) = Unit {0}

at_stage : (size : ℕ) (stage : Stage) → HasRoomAt stage → RoomIn (next_command (command_at size stage))
at_stage size Asking room = tt
at_stage size (Looking header) room = tt
at_stage size (Starting header old) room = room
at_stage size (Sending header old address) room = sent (block_length size header address == 0) header address
at_stage size (Running old) room = tt
at_stage size (Watching old) room = tt
at_stage size (Committing old) room = tt
at_stage size (Verifying old) room = tt
at_stage size Finished room = tt

closing_room : (open_now : Bool) (closing : Closing) (cause : Cause) → RoomIn (next_closing open_now closing cause)
closing_room true Due cause = tt
closing_room true Closed cause = tt
closing_room true Left cause = tt
closing_room false closing cause = tt

next_in : (fault : Option Cause) (update : Update) → HasRoomAt update.stage → RoomIn (next_by fault update.stage update.closing (command_at update.size update.stage))
next_in None update room = at_stage update.size update.stage room
next_in (Some cause) update room = closing_room (is_open update.stage cause) update.closing cause

room_as : (command : Command) (n : UpdateNext) → n ≡ Send command → RoomIn n → HasRoom command
room_as command (Send other) e room = let same : other ≡ command = cc in subst (λ (c : Command). HasRoom c) same room
room_as command (Done end) e room = absurd cc

-- the command that is sent has room
pub next_room : (update : Update) (command : Command) → HasRoomAt update.stage → next update ≡ Send command → HasRoom command
next_room update command room asks = room_as command (next update) asks (next_in update.fault update room)

-- ---- the file's size

sized_either : (b : Bool) (one other : Update) (size : ℕ) → one.size ≡ size → other.size ≡ size → (cond b one other).size ≡ size
sized_either true one other size same sames = same
sized_either false one other size same sames = sames

settled_size : (update : Update) (judgement : Judgement) → (settled update judgement).size ≡ update.size
settled_size update (On stage) = refl
settled_size update Again = sized_either (nat_lt 0 update.tries) _ _ update.size refl refl
settled_size update (Fails cause) = refl

aborted_size : (update : Update) (outcome : Outcome) → (aborted update outcome).size ≡ update.size
aborted_size update (Succeeded reply) = refl
aborted_size update (Failed code) = refl
aborted_size update outcomes.Unsent = sized_either (nat_lt 0 update.tries) _ _ update.size refl refl
aborted_size update outcomes.Unknown = sized_either (nat_lt 0 update.tries) _ _ update.size refl refl

taken_size : (fault : Option Cause) (update : Update) (outcome : Outcome) → (taken_by fault update outcome).size ≡ update.size
taken_size None update outcome = settled_size update (judged update.size update.stage outcome)
taken_size (Some cause) update outcome = aborted_size update outcome

-- ---- on a bus

module _ (file : List ℕ) where
  begun_sending : (durations : Durations) (update : Update) (n : UpdateNext) → IsSending file durations update n (delivery_at file update durations n)
  begun_sending durations update (Send command) = refl
  begun_sending durations update (Done end) = tt

  -- an update that begins its next command
  pub at_about : (update : Update) (durations : Durations) → update.size ≡ length file → HasRoomAt update.stage → IsAbout file (session_at file update durations)
  at_about update durations size room = (size, room, begun_sending durations update (next update))

  still_sending : (durations : Durations) (update : Update) (n : UpdateNext) (old new : Delivery) → terms_of new.patient ≡ terms_of old.patient
      → IsSending file durations update n (Some old) → IsSending file durations update n (Some new)
  still_sending durations update (Send command) old new same sending = same ∙ sending
  still_sending durations update (Done end) old new same sending = sending

  goes_about : (update : Update) (durations : Durations) (old new : Delivery) (n : Next Outcome) → terms_of new.patient ≡ terms_of old.patient → update.size ≡ length file → HasRoomAt update.stage
      → IsSending file durations update (next update) (Some old) → IsAbout file (going_by file update durations new n)
  goes_about update durations old new (Do op) same size room sending = (size, room, still_sending durations update (next update) old new same sending)
  goes_about update durations old new (Wait time) same size room sending = (size, room, still_sending durations update (next update) old new same sending)
  goes_about update durations old new (End outcome) same size room sending =
      at_about (taken update outcome) (learned_by (next update) outcome durations) (taken_size update.fault update outcome ∙ size) (taken_room update outcome room)

  -- where what is on its way becomes this
  pub going_about : (session later : Session) (old new : Delivery) → session.delivery ≡ Some old → later ≡ going_on file session.update session.durations new → terms_of new.patient ≡ terms_of old.patient
      → IsAbout file session → IsAbout file later
  going_about session later old new is exact same (size, room, sending) =
      subst (λ (s : Session). IsAbout file s) (sym exact)
      (goes_about session.update session.durations old new (delivery_wants new) same size room (subst (λ (o : Option Delivery). IsSending file session.durations session.update (next session.update) o) is sending))
