-- What an update on a bus came to.
use Rattle.std.proofs.Common.{◌≡◌, ℕ, List, length, Result, Ok, Err, sym, subst}
use Rattle.std.specs.Prelude.{⊤}
use Rattle.bus_model.specs.declared.operation.Op.{Op}
use Rattle.bus_model.specs.declared.operation.Reply.{Reply}
use Rattle.bus_model.specs.Operations.{Answers}
use Rattle.conversations.specs.declared.next.Next.{Next}
use Rattle.conversations.specs.declared.next.Next.TheVariants.{Do, Wait}
use Rattle.conversations.specs.Events.{Events}
use Rattle.conversations.specs.Wanted.{IsReplyTo, IsWait}
use Rattle.firmware_update.specs.declared.known.Known.{Known}
use Rattle.firmware_update.specs.declared.session.Session.{Session}
use Rattle.firmware_update.specs.declared.update.Cause.{Cause}
use Rattle.firmware_update.specs.declared.update.Update.{Update}
use Rattle.firmware_update.specs.declared.update.UpdateNext.TheVariants.{Done}
use Rattle.firmware_update.specs.Courses.{IsCourse, IsWhole, wanted}
use Rattle.firmware_update.specs.Exchanges.{History}
use Rattle.firmware_update.specs.KnownStates.{Shows, known_at}
use Rattle.firmware_update.specs.Progress.{IsAt, IsFinished, next}
use Rattle.firmware_update.specs.Runs.{IsEndOf, IsShort}
use Rattle.firmware_update.specs.Safety.{IsSafe}
use Rattle.firmware_update.proofs.Ends.{come_finished}
use Rattle.firmware_update.proofs.OnBus.{safe_of}
use Rattle.firmware_update.proofs.Turns.{whole_short}

shows_at : (size : ℕ) (history : History) (update : Update) (known : Known) → IsAt size history update → ((told_here : History) → IsAt update.size told_here update → Shows known told_here) → Shows known history
shows_at size history update known at shows = shows history (subst (λ (n : ℕ). IsAt n history update) (sym at.sized) at)

end_at : (size : ℕ) (history : History) (update : Update) (end : Result ⊤ Cause) → IsAt size history update → next update ≡ Done end → IsEndOf size history end
end_at size history update (Err cause) at is = tt
end_at size history update (Ok done) at is =
    let here = subst (λ (n : ℕ). IsAt n history update) (sym at.sized) at in
    subst (λ (n : ℕ). IsFinished n history) at.sized (come_finished update.size update.fault update.stage update.closing history here.come is)

pub over : (file : List ℕ) (events : Events) (update : Update) (known : Known) (end : Result ⊤ Cause) → IsWhole file events update (Done end) → known ≡ known_at update
    → ((told_here : History) → IsAt update.size told_here update → Shows known told_here)
    → (history : History) × (later : Update) × IsCourse file history events × IsAt (length file) history later × (next later ≡ Done end) × (known ≡ known_at later)
    × IsSafe (length file) history × Shows known history × IsEndOf (length file) history end × IsShort (length file) events
over file events update known end (history, course, at, is, few) same shows = (
  history,
  update,
  course,
  at,
  is,
  same,
  safe_of (length file) history update at,
  shows_at (length file) history update known at shows,
  end_at (length file) history update end at is,
  whole_short file events update (Done end) (history, course, at, is, few),
)

pub answers_it : (session : Session) (op : Op) (reply : Reply) → wanted session ≡ Do op → Answers op reply → IsReplyTo (wanted session) reply
answers_it session op reply asks answers = subst (λ (n : Next (Result ⊤ Cause)). IsReplyTo n reply) (sym asks) answers

pub waits_now : (session : Session) (time : ℕ) → wanted session ≡ Wait time → IsWait (wanted session)
waits_now session time asks = subst (λ (n : Next (Result ⊤ Cause)). IsWait n) (sym asks) tt
