-- What a reading of the statistics of a bank over a bus comes to.
use Rattle.std.proofs.Common.{◌≡◌, ◌≢◌, ◌∙◌, ◌≤◌, ℕ, length, Option, Some, None, refl, ap, subst, arith}
use Rattle.bus_model.specs.declared.operation.Op.{Op}
use Rattle.control_sets.specs.OutcomeAnswers.{most_steps}
use Rattle.conversations.specs.declared.next.Next.TheVariants.{Do}
use Rattle.conversations.specs.declared.within.Spent.{Spent}
use Rattle.conversations.specs.declared.within.Within.{Within}
use Rattle.conversations.specs.Budgets as budgets
use Rattle.conversations.specs.Budgets.{HasSpent, next_within}
use Rattle.conversations.specs.Events.{Events}
use Rattle.vdm_reading.specs.declared.end.VdmEnd.{VdmEnd}
use Rattle.vdm_reading.specs.declared.reading.VdmReading.{VdmReading}
use Rattle.vdm_reading.specs.declared.reading.VdmRequest.{VdmRequest}
use Rattle.vdm_reading.specs.declared.reading.VdmStage.{VdmStage}
use Rattle.vdm_reading.specs.declared.reading.VdmStage.TheVariants.{Over}
use Rattle.vdm_reading.specs.VdmAccounts.{EachIsWanted, HasEnded, IsTold, reading_after}
use Rattle.vdm_reading.specs.VdmStages.{begun, turn_by, wants, work_at}
use Rattle.vdm_reading.proofs.EndingLaws.{few}
use Rattle.vdm_reading.proofs.GroupLaws.{listed_few}

abbrev topic_of : Within VdmReading → ℕ × VdmRequest
topic_of reading = (reading.limit, reading.conversation.request)

abbrev pub at_start : VdmRequest → Within VdmReading
at_start request = record { conversation = begun request; steps = 0; limit = most_steps }

-- a reading that goes on as it began
module _ (request : VdmRequest) (old new : Within VdmReading) (events : Events) (began : old ≡ at_start request) (same : topic_of new ≡ topic_of old) (told : IsTold events new.conversation) where
  asked : new.conversation.request ≡ request
  asked = ap (λ (topic : ℕ × VdmRequest). topic.1) (same ∙ ap topic_of began)

  pub is_after : new.conversation ≡ reading_after request events
  is_after = subst (λ (r : VdmRequest). new.conversation ≡ reading_after r events) asked told.is

  pub are_wanted : EachIsWanted request events
  are_wanted = subst (λ (r : VdmRequest). EachIsWanted r events) asked told.each

  -- it has as many transactions as it can need
  ended : (r : VdmRequest) (end : Option VdmEnd) → r ≡ request → budgets.HasEnded most_steps (EachIsWanted r) (HasEnded r) events end → (reading_after request events).stage ≡ Over
  ended r (Some end) is has = subst (λ (q : VdmRequest). (reading_after q events).stage ≡ Over) is has.over
  ended r None is has =
      let spent = has.0 in
      let most = few events new.conversation told in
      absurd (omega (arith, spent, most))

  pub is_over : (spent : Spent VdmEnd) → HasSpent old.limit (EachIsWanted old.conversation.request) (HasEnded old.conversation.request) events spent → (reading_after request events).stage ≡ Over
  is_over spent has =
      let begins : Within VdmReading → Type 0 = λ reading. HasSpent reading.limit (EachIsWanted reading.conversation.request) (HasEnded reading.conversation.request) events spent in
      ended request spent.end refl (subst begins began has).ended

  -- few pages are listed then
  pub few_listed : (spent : Spent VdmEnd) → HasSpent old.limit (EachIsWanted old.conversation.request) (HasEnded old.conversation.request) events spent → length new.conversation.pages.items ≤ 13
  few_listed spent has = listed_few events new.conversation told (ap (λ (reading : VdmReading). reading.stage) is_after ∙ is_over spent has)

  -- where an operation is wanted it is not over
  no_more : (stage : VdmStage) (steps limit : ℕ) (op : Op) → stage ≡ Over → next_within steps limit (turn_by new.conversation (work_at new.conversation stage)) ≡ Do op → ⊥
  no_more Over steps limit op over same = cc
  no_more stage steps limit op over same = absurd cc

  pub is_unfinished : (op : Op) → next_within new.steps new.limit (wants new.conversation) ≡ Do op → (reading_after request events).stage ≢ Over
  is_unfinished op wanted over = no_more new.conversation.stage new.steps new.limit op (ap (λ (reading : VdmReading). reading.stage) is_after ∙ over) wanted
