use Rattle.std.proofs.Common.{Option, ap, subst, sym, ◌∙◌}
use Rattle.bus_model.specs.declared.operation.Reply.{Reply}
use Rattle.conversations.specs.Pieces.{after_told}
use Rattle.module_reading.specs.declared.halves.Halves.{Halves}
use Rattle.port_manager.specs.Jobs.{paged_halves}
use Rattle.port_manager.specs.Patients.{after_on, wants_on}
use Rattle.firmware_api.specs.SavedConversations.{HasHalf, Leaves}
use Rattle.firmware_api.proofs.WholeHalfLaws.{stays}
use Rattle.firmware_api.proofs.conversation.whole_half.half_in_hand.Goals as goal

pub returns-in-Some : goal.returns-in-Some
returns-in-Some c =
    let pieces = c.args.pieces.now in
    let later = ap (λ (w : Option Reply). (after_told (wants_on paged_halves) (after_on paged_halves) pieces c.args.reply.now w).conversation.conversation) (sym c.whole_reply.ensures.value ∙ c.in-Some.is) in
    subst (λ (h : Halves). HasHalf c.whole_half.result pieces.conversation.conversation h) (sym later) c.whole_half.ensures

pub returns-in-None : goal.returns-in-None
returns-in-None c =
    let pieces = c.args.pieces.now in
    let later = ap (λ (w : Option Reply). (after_told (wants_on paged_halves) (after_on paged_halves) pieces c.args.reply.now w).conversation.conversation) (sym c.whole_reply.ensures.value ∙ c.in-None.is) in
    subst (Leaves pieces.conversation.conversation) (sym later) (stays pieces.conversation.conversation)
