-- Where a conversation stands that only replies move, one event later, and how it ends.
use Rattle.std.proofs.Common.{◌≡◌, ℕ, ◌∷◌, refl, sym, ap, subst, ◌∙◌}
use Rattle.bus_model.specs.declared.operation.Op.{Op}
use Rattle.bus_model.specs.declared.operation.Reply.{Reply}
use Rattle.bus_model.specs.Operations.{Answers}
use Rattle.conversations.specs.declared.event.Event.TheVariants.{Lacked, Asked}
use Rattle.conversations.specs.declared.next.Next.{Next}
use Rattle.conversations.specs.declared.next.Next.TheVariants.{Do, Wait, End}
use Rattle.conversations.specs.Events.{Events, made}
use Rattle.conversations.specs.Wanted.{IfDo, IfEnd, IsReplyTo}
use Rattle.explicit_provisioning.specs.Heard.{GoesOn, IsEnded, IsHeard, heard}

module _ {S E : Type 0} (wants : S → Next E) (after : S → Reply → S) (begun : S) (events : Events) (now : S) (told : IsHeard wants after begun events now) where
  pub heard_reply : (op : Op) (reply : Reply) → IsReplyTo (wants now) reply → wants now ≡ Do op → IsHeard wants after begun (made op reply ∷ events) (after now reply)
  heard_reply op reply answers asks = record {
    is = ap (λ (s : S). after s reply) told.is;
    each = (subst (λ (s : S). wants s ≡ Do op) told.is asks, subst (λ (n : Next E). IsReplyTo n reply) asks answers, told.each);
  }

  pub heard_lack : (page : ℕ) → IsHeard wants after begun (Lacked page ∷ events) now
  heard_lack page = record { is = told.is; each = told.each }

  pub heard_word : (number : ℕ) → IsHeard wants after begun (Asked number ∷ events) now
  heard_word number = record { is = told.is; each = told.each }

  ends_by : (next : Next E) → wants now ≡ next → IfEnd next (IsEnded wants after begun events)
  ends_by (Do op) is = tt
  ends_by (Wait time) is = tt
  ends_by (End end) is = record { each = told.each; ends = ap wants (sym told.is) ∙ is }

  pub heard_ends : (next : Next E) → next ≡ wants now → IfEnd next (IsEnded wants after begun events)
  heard_ends next is = ends_by next (sym is)

  goes_by : (next : Next E) → wants now ≡ next → IfDo next (λ op. GoesOn wants after begun events)
  goes_by (Do op) is = record { each = told.each; op = op; goes = ap wants (sym told.is) ∙ is }
  goes_by (Wait time) is = tt
  goes_by (End end) is = tt

  pub heard_goes : (next : Next E) → next ≡ wants now → IfDo next (λ op. GoesOn wants after begun events)
  heard_goes next is = goes_by next (sym is)
