-- The numbers of a part stand for it.
use Rattle.std.proofs.Common.{◌≡◌, ℕ, ◌==◌, ◌≤◌, ◌&&◌, nat_le, Bool, true, false, List, drop, length, replicate, take, Option, Some, None, refl, ap, sym, ◌∙◌, cond, if◌then◌else◌}
use Rattle.std.proofs.Math.Seq.{take-append_seam}
use Rattle.std.proofs.lemmas.Bool.{eq-eqb, le-leb}
use Rattle.arrayvec.specs.ArrayVec.{ArrayVec}
use Rattle.std.specs.Prelude.{Result, Ok, ⊤}
use Rattle.bus_model.specs.declared.operation.Reply.{Reply}
use Rattle.command_block.specs.declared.delivery.Delivery.{Delivery}
use Rattle.command_block.specs.declared.outcome.Outcome.{Outcome}
use Rattle.command_block.specs.declared.outcome.Outcome.TheVariants.{Succeeded, Unknown}
use Rattle.command_block.specs.Deliveries.{attempt_in, begun_delivery, terms_for, terms_of}
use Rattle.conversations.specs.declared.next.Next.{Next}
use Rattle.conversations.specs.declared.next.Next.TheVariants.{Do, Wait, End}
use Rattle.conversations.specs.Wanted.{IsReplyTo, IsWait}
use Rattle.firmware_update.specs.declared.durations.Durations.{Durations}
use Rattle.firmware_update.specs.declared.session.Session.{Session}
use Rattle.firmware_update.specs.declared.update.Cause.{Cause}
use Rattle.firmware_update.specs.declared.update.Update.{Update}
use Rattle.firmware_update.specs.declared.update.UpdateNext.{UpdateNext}
use Rattle.firmware_update.specs.declared.update.UpdateNext.TheVariants.{Send, Done}
use Rattle.firmware_update.specs.Courses.{delay_for}
use Rattle.firmware_update.specs.Durations.{duration_for, none}
use Rattle.firmware_update.specs.Payloads.{features_message, message_of}
use Rattle.firmware_update.specs.Progress as progress
use Rattle.firmware_update.specs.Progress.{next}
use Rattle.firmware_update.specs.Sessions.{HasRoomAt, IsSending}
use Rattle.firmware_update.proofs.Room.{at_about}
use Rattle.saved_update.specs.declared.numbers.SavedDelivery.{SavedDelivery}
use Rattle.saved_update.specs.declared.numbers.SavedUpdate.{SavedUpdate}
use Rattle.saved_update.specs.declared.work.Ending.TheVariants.{Updated}
use Rattle.saved_update.specs.declared.work.Question.{Question}
use Rattle.saved_update.specs.declared.work.Work.TheVariants as works
use Rattle.saved_update.specs.SavedDeliveries.{AreNumbers, AreNumbersOf, number_of, outcome_by, outcome_in, padded, page_in, phase_in, taken_in}
use Rattle.saved_update.specs.SavedUpdates.{asking_in, closing_in, delivery_by, durations_in, fault_in, is_sound, question_in, session_at, session_in, stage_in, update_in, update_magic, work_by, work_in}
use Rattle.saved_update.specs.Works.{IsOf, answered, begun_update, message_of_question, updated}

pub yes_back : (bit : Bool) → (number_of bit == 1) ≡ bit
yes_back true = refl
yes_back false = refl

pub succeeded_back : (reply : ArrayVec ℕ) (bytes : List ℕ) → length reply.items ≤ 128 → bytes ≡ padded reply.items → outcome_by 1 0 (length reply.items) bytes ≡ Some (Succeeded reply)
succeeded_back reply bytes few same =
    ap (λ (b : Bool). cond b (Some (Succeeded (record { items = take (length reply.items) bytes }))) (Some Unknown)) (le-leb (length reply.items) 128 few)
    ∙ ap (λ (l : List ℕ). Some (Succeeded (record { items = take (length reply.items) l }))) same
    ∙ ap (λ (l : List ℕ). Some (Succeeded (record { items = l }))) (take-append_seam reply.items (drop (length reply.items) (replicate 128 0)))

-- the parts that a command on its way has of its own
pub record AreParts (saved : SavedDelivery) (delivery : Delivery) : Type 0 where
  pub idle : saved.idle ≡ delivery.patient.conversation.idle
  pub steps : saved.steps ≡ delivery.patient.steps
  pub due : (saved.due == 1) ≡ delivery.patient.conversation.due
  pub phase : phase_in saved.phase saved.at saved.check ≡ (attempt_in delivery.patient).phase
  pub outcome : outcome_in saved ≡ (attempt_in delivery.patient).outcome
  pub selection : page_in saved.selection saved.page ≡ delivery.patient.conversation.conversation.selection
  pub taken : taken_in saved.taken saved.taken_page ≡ delivery.patient.conversation.conversation.taken

pub delivery_back : (saved : SavedDelivery) (delivery : Delivery) → AreParts saved delivery → AreNumbers saved delivery
delivery_back saved delivery parts message duration delay terms =
    let same : terms_for message duration delay ≡ terms_of delivery.patient = sym terms in
    λ i. record {
      patient = record {
        conversation = record {
          conversation = record {
            conversation = record {
              message = (same i).1.1.1.0;
              timing = (same i).1.1.1.1;
              phase = parts.phase i;
              outcome = parts.outcome i;
            };
            selection = parts.selection i;
            taken = parts.taken i;
            doubts = (same i).1.1.0;
          };
          patience = (same i).1.0;
          due = parts.due i;
          idle = parts.idle i;
        };
        steps = parts.steps i;
        limit = (same i).0;
      };
    }

-- ---- an update

all_three : (a b c : Bool) → a ≡ true → b ≡ true → c ≡ true → (a && b && c) ≡ true
all_three a b c one two three = ap (λ (t : Bool). t && b && c) one ∙ ap (λ (t : Bool). true && t && c) two ∙ ap (λ (t : Bool). true && true && t) three

sound : (file : List ℕ) (saved : SavedUpdate) → saved.magic ≡ update_magic → saved.size ≡ length file → saved.stage.header ≤ 112
    → is_sound file saved ≡ true
sound file saved magic size room =
    all_three (saved.magic == update_magic) (saved.size == length file) (nat_le saved.stage.header 112) (eq-eqb saved.magic update_magic magic) (eq-eqb saved.size (length file) size)
    (le-leb saved.stage.header 112 room)

-- a command on its way goes with the message that is to be sent
pub sends : (file : List ℕ) (durations : Durations) (update : Update) (saved : SavedDelivery) (n : UpdateNext) → IsSending file durations update n (delivery_by file update durations saved n)
sends file durations update saved (Send command) = refl
sends file durations update saved (Done end) = tt

delivery_same : (file : List ℕ) (durations : Durations) (update : Update) (saved : SavedDelivery) (n : UpdateNext) (o : Option Delivery) → IsSending file durations update n o → AreNumbersOf saved o
    → delivery_by file update durations saved n ≡ o
delivery_same file durations update saved (Send command) (Some delivery) sending numbers =
    ap (λ (d : Delivery). Some d) (numbers (message_of file command) (duration_for command durations) (delay_for update) sending)
delivery_same file durations update saved (Send command) None sending numbers = absurd sending
delivery_same file durations update saved (Done end) (Some delivery) sending numbers = absurd sending
delivery_same file durations update saved (Done end) None sending numbers = refl

-- the parts that an update has
pub record HasParts (saved : SavedUpdate) (session : Session) (holds : Bool) : Type 0 where
  pub magic : saved.magic ≡ update_magic
  pub work : saved.work ≡ 0
  pub held : (saved.held == 1) ≡ holds
  pub size : saved.size ≡ session.update.size
  pub stage : stage_in saved.stage ≡ session.update.stage
  pub room : HasRoomAt session.update.stage → saved.stage.header ≤ 112
  pub tries : saved.tries ≡ session.update.tries
  pub fault : fault_in saved.fault saved.status ≡ session.update.fault
  pub closing : closing_in saved.closing ≡ session.update.closing
  pub durations : durations_in saved.durations ≡ session.durations
  pub delivery : AreNumbersOf saved.delivery session.delivery

update_back : (saved : SavedUpdate) (session : Session) (held : Bool) → HasParts saved session held → update_in saved ≡ session.update
update_back saved session held parts = λ i. record {
  size = parts.size i;
  stage = parts.stage i;
  tries = parts.tries i;
  fault = parts.fault i;
  closing = parts.closing i;
}

session_back : (file : List ℕ) (saved : SavedUpdate) (session : Session) (held : Bool) → HasParts saved session held
    → IsSending file session.durations session.update (next session.update) session.delivery → session_in file saved ≡ session
session_back file saved session held parts sending =
    let same = delivery_same file session.durations session.update saved.delivery (next session.update) session.delivery sending parts.delivery in
    let whole : session_at file session.update session.durations saved.delivery ≡ session =
    λ i. record { update = session.update; durations = session.durations; delivery = same i } in
    ap (λ (u : Update). session_at file u (durations_in saved.durations) saved.delivery) (update_back saved session held parts)
    ∙ ap (λ (d : Durations). session_at file session.update d saved.delivery) parts.durations ∙ whole

pub session_saved : (saved : SavedUpdate) (session : Session) (held : Bool) (file : List ℕ) → HasParts saved session held → IsOf file (works.Updating session held)
    → work_in file saved ≡ Some (works.Updating session held)
unfolding work_in
session_saved saved session held file parts (size, room, sending) =
    ap (λ (b : Bool). cond b (work_by file saved) None) (sound file saved parts.magic (parts.size ∙ size) (parts.room room))
    ∙ ap (λ (n : ℕ). if n == 0 then Some (works.Updating (session_in file saved) (saved.held == 1))
    else (if saved.size == 0 then Some (asking_in (question_in n saved.password) saved.delivery) else None)) parts.work
    ∙ ap (λ (s : Session). Some (works.Updating s (saved.held == 1))) (session_back file saved session held parts sending)
    ∙ ap (λ (b : Bool). Some (works.Updating session b)) parts.held

-- ---- a single command

pub question_saved : (saved : SavedUpdate) (question : Question) (delivery : Delivery) (file : List ℕ) → saved.magic ≡ update_magic → saved.size ≡ 0 → saved.stage.header ≤ 112
    → (saved.work == 0) ≡ false → question_in saved.work saved.password ≡ question → AreNumbers saved.delivery delivery → IsOf file (works.Asking question delivery)
    → work_in file saved ≡ Some (works.Asking question delivery)
unfolding work_in
question_saved saved question delivery file magic size room some asks numbers (none, terms) =
    ap (λ (b : Bool). cond b (work_by file saved) None) (sound file saved magic (size ∙ sym none) room)
    ∙ ap (λ (b : Bool). cond b (Some (works.Updating (session_in file saved) (saved.held == 1)))
    (if saved.size == 0 then Some (asking_in (question_in saved.work saved.password) saved.delivery) else None)) some
    ∙ ap (λ (n : ℕ). if n == 0 then Some (asking_in (question_in saved.work saved.password) saved.delivery) else None) size
    ∙ ap (λ (q : Question). Some (asking_in q saved.delivery)) asks
    ∙ ap (λ (d : Delivery). Some (works.Asking question d)) (numbers (message_of_question question) 0 0 terms)

-- ---- at the beginning

pub begun_back : (file : List ℕ) (size : ℕ) (held : Bool) (update : Update) (durations : Durations) (delivery : Delivery) → length file ≡ size → update ≡ progress.begun_update size → durations ≡ none
    → delivery ≡ begun_delivery features_message 0 0
    → works.Updating (record { update = update; durations = durations; delivery = Some delivery }) held ≡ begun_update file held
begun_back file size held update durations delivery same updates nothing first =
    ap (λ (u : Update). works.Updating (record { update = u; durations = durations; delivery = Some delivery }) held) (updates ∙ ap (λ (n : ℕ). progress.begun_update n) (sym same))
    ∙ ap (λ (d : Durations). works.Updating (record { update = progress.begun_update (length file); durations = d; delivery = Some delivery }) held) nothing
    ∙ ap (λ (d : Delivery). works.Updating (record { update = progress.begun_update (length file); durations = none; delivery = Some d }) held) first

pub begun_of : (file : List ℕ) (held : Bool) → IsOf file (begun_update file held)
begun_of file held = at_about file (progress.begun_update (length file)) none refl tt

-- ---- what is wanted

reply_updated : (n : Next (Result ⊤ Cause)) (reply : Reply) → IsReplyTo (updated n) reply → IsReplyTo n reply
reply_updated (Do op) reply answers = answers
reply_updated (Wait time) reply answers = absurd answers
reply_updated (End end) reply answers = absurd answers

pub reply_session : (b : Bool) (n : Next (Result ⊤ Cause)) (reply : Reply) → IsReplyTo (cond b (End (Updated (Ok tt))) (updated n)) reply → IsReplyTo n reply
reply_session true n reply answers = absurd answers
reply_session false n reply answers = reply_updated n reply answers

pub reply_delivery : (n : Next Outcome) (reply : Reply) → IsReplyTo (answered n) reply → IsReplyTo n reply
reply_delivery (Do op) reply answers = answers
reply_delivery (Wait time) reply answers = absurd answers
reply_delivery (End outcome) reply answers = absurd answers

wait_updated : (n : Next (Result ⊤ Cause)) → IsWait (updated n) → IsWait n
wait_updated (Do op) waits = absurd waits
wait_updated (Wait time) waits = tt
wait_updated (End end) waits = absurd waits

pub wait_session : (b : Bool) (n : Next (Result ⊤ Cause)) → IsWait (cond b (End (Updated (Ok tt))) (updated n)) → IsWait n
wait_session true n waits = absurd waits
wait_session false n waits = wait_updated n waits
