-- What is told of a reply that was taken, and that the operation can have it.
use Rattle.std.proofs.Common.{◌≡◌, ℕ, inl, inr, Option, Some, None, refl, sym, subst, ◌∙◌}
use Rattle.std.specs.Prelude.{◌⊎◌}
use Rattle.std.proofs.lemmas.Option.{none-some}
use Rattle.bus_model.specs.declared.operation.Op.{Op}
use Rattle.bus_model.specs.declared.operation.Reply.{Reply}
use Rattle.bus_model.specs.Operations.{Answers}
use Rattle.conversations.specs.declared.next.Next.TheVariants.{Do}
use Rattle.firmware_api.specs.SavedConversations.{IsReplyFor}
use Rattle.firmware_api.specs.Updates.{IsReplyTold}
use Rattle.firmware_api.proofs.AboutLaws.{answers_or}
use Rattle.firmware_api.proofs.SavedLaws.{same_some}

pub told_of : (E : Type 0) (outcome : ℕ) (found : Option Reply) (op : Op) (taken : Reply) (told : Option Reply) → found ≡ Some taken → IsReplyFor found op told → IsReplyTold {E = E} 0 outcome told (Some (Do op))
told_of E outcome found op taken None is none = absurd (none-some taken (sym none ∙ is))
told_of E outcome found op taken (Some reply) is (can, cannot) = (λ answers. refl, λ other. absurd (none-some taken (sym (cannot other) ∙ is)))

pub answers_of : (found : Option Reply) (op : Op) (taken : Reply) (told : Option Reply) → found ≡ Some taken → IsReplyFor found op told → Answers op taken
answers_of found op taken None is none = absurd (none-some taken (sym none ∙ is))
answers_of found op taken (Some reply) is (can, cannot) = by (answers_or op reply)
  where
    by : Answers op reply ⊎ (¬ (Answers op reply)) → Answers op taken
    by (inl answers) = subst (λ (r : Reply). Answers op r) (same_some reply taken (sym (can answers) ∙ is)) answers
    by (inr other) = absurd (none-some taken (sym (cannot other) ∙ is))
