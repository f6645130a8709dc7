-- An attempt that is told one event more.
use Rattle.std.proofs.Common.{◌≡◌, ℕ, ◌∷◌, Some, sym, subst, ap, ◌∙◌}
use Rattle.bus_model.specs.declared.operation.Op.{Op}
use Rattle.bus_model.specs.declared.operation.Reply.{Reply}
use Rattle.conversations.specs.declared.event.Event.TheVariants.{Waited, Lacked, Asked}
use Rattle.conversations.specs.declared.next.Next.{Next}
use Rattle.conversations.specs.declared.next.Next.TheVariants.{Do, Wait}
use Rattle.conversations.specs.Events.{Events, made}
use Rattle.conversations.specs.Wanted.{IsReplyTo}
use Rattle.command_block.specs.declared.attempt.Attempt.{Attempt}
use Rattle.command_block.specs.declared.outcome.Outcome.{Outcome}
use Rattle.command_block.specs.AttemptEvents.{IsTold}
use Rattle.command_block.specs.Phases.{lacking, page_of, rested, taken, wants}

pub told_more : (old new : Attempt) (op : Op) (reply : Reply) (own : Events) → new ≡ taken old reply → IsReplyTo (wants old) reply → wants old ≡ Do op → IsTold own old → IsTold (made op reply ∷ own) new
told_more old new op reply own is answers asks told =
    subst (λ (a : Attempt). IsTold (made op reply ∷ own) a) (sym is) (record {
      is = ap (λ (a : Attempt). taken a reply) told.is;
      each = (ap wants (sym told.is) ∙ asks, subst (λ (n : Next Outcome). IsReplyTo n reply) asks answers, told.each);
    })

pub waited_more : (old new : Attempt) (time : ℕ) (own : Events) → new ≡ rested old → wants old ≡ Wait time → IsTold own old → IsTold (Waited time ∷ own) new
waited_more old new time own is asks told =
    subst (λ (a : Attempt). IsTold (Waited time ∷ own) a) (sym is) (record { is = ap rested told.is; each = (ap wants (sym told.is) ∙ asks, told.each) })

pub lacks_more : (old new : Attempt) (page : ℕ) (own : Events) → new ≡ lacking old → page_of old ≡ Some page → IsTold own old → IsTold (Lacked page ∷ own) new
lacks_more old new page own is needs told =
    subst (λ (a : Attempt). IsTold (Lacked page ∷ own) a) (sym is) (record { is = ap lacking told.is; each = (ap page_of (sym told.is) ∙ needs, told.each) })

pub asked_more : (old new : Attempt) (number : ℕ) (own : Events) → new ≡ old → IsTold own old → IsTold (Asked number ∷ own) new
asked_more old new number own is told = subst (λ (a : Attempt). IsTold (Asked number ∷ own) a) (sym is) (record { is = told.is; each = told.each })
