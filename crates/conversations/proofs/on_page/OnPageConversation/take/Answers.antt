use Rattle.std.proofs.Common.{◌∷◌, Bool, sym, subst}
use Rattle.conversations.specs.declared.on_page.OnPage.{OnPage}
use Rattle.conversations.specs.Events.{made, steps_of}
use Rattle.conversations.specs.Selecting.{Knows, WithSelections, trusted}
use Rattle.paged_memory.proofs.KnownPageLaws.{step_of}
use Rattle.conversations.proofs.OnPageLaws.{after_doubt}
use Rattle.conversations.proofs.on_page.OnPageConversation.take.Goals as goal

pub returns-clause-told : goal.returns-clause-told
returns-clause-told g c events op asks (knows, within) =
    let reply = c.args.reply.now in
    let mid = c.take_trusting.new.self in
    let now = made op reply ∷ events in
    let Rest : Bool → g.row.C.Denot → Type 0 = λ doubts inner. WithSelections doubts (g.C.NeedsPages.may_lack (g.C.Conversation.topic inner)) (g.C.NeedsPages.addressed (g.C.Conversation.topic inner)) (g.C.NeedsPages.needs (g.C.Conversation.topic inner))
    (λ own. g.C.Conversation.told own inner) now in
    let Told : OnPage g.row.C.Denot → Type 0 = λ on.
    Knows (g.C.NeedsPages.may_lack (g.C.Conversation.topic on.conversation)) (g.C.NeedsPages.addressing on.conversation) on.selection on.taken (trusted on.doubts (steps_of now)) × Rest on.doubts on.conversation in
    let Kept : Bool → Type 0 = λ doubts.
    Knows (g.C.NeedsPages.may_lack (g.C.Conversation.topic mid.conversation)) (g.C.NeedsPages.addressing mid.conversation) mid.selection mid.taken (step_of op reply ∷ trusted doubts (steps_of events)) × Rest doubts mid.conversation in
    let kept = subst Kept (sym c.take_trusting.ensures.doubts) (c.take_trusting.ensures.told events op asks knows within) in
    subst Told (sym c.doubt.ensures)
    (after_doubt (λ inner. g.C.NeedsPages.may_lack (g.C.Conversation.topic inner)) (λ inner. g.C.NeedsPages.addressing inner) Rest mid op reply (steps_of events) kept)
