use Rattle.std.proofs.Common.{refl}
use Rattle.conversations.specs.declared.event.Event.TheVariants.{Waited}
use Rattle.conversations.specs.Selecting.{chosen}
use Rattle.conversations.proofs.OnPageLaws.{event_told, wait_passes, waits}
use Rattle.conversations.proofs.on_page.OnPageConversation.waited.Goals as goal

pub returns-clause-told : goal.returns-clause-told
returns-clause-told g c events time asked told =
    let old = c.args.self.now in
    let wants = waits (chosen (g.C.NeedsPages.addressing old.conversation)) old.selection (g.C.NeedsPages.page old.conversation) (g.C.Conversation.wants old.conversation) time asked in
    let topic = g.C.Conversation.topic old.conversation in
    event_told old.doubts (λ t. g.C.NeedsPages.may_lack t) (λ own i. g.C.Conversation.told own i) (λ i. g.C.Conversation.topic i) (λ i. g.C.NeedsPages.addressing i) (λ t own. g.C.NeedsPages.addressed t own) (λ t own. g.C.NeedsPages.needs t own)
    old.conversation c.waited.new.self (Waited time) (record {
      same = c.waited.ensures.topic;
      more = λ own at. c.waited.ensures.told own time wants at;
      before = λ own at. c.addressing-known.ensures.addressed own at;
      after = c.addressing-same.ensures.addressed;
      steady = λ own by at e. c.addressing-same.ensures.steady (Waited time) own by at e;
    }) old.selection old.taken events (wait_passes old.doubts (g.C.NeedsPages.may_lack topic) (g.C.NeedsPages.addressed topic) (g.C.NeedsPages.needs topic) time events) refl told
