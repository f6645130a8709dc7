use Rattle.std.proofs.Common.{refl}
use Rattle.conversations.specs.declared.event.Event.TheVariants.{Asked}
use Rattle.conversations.proofs.OnPageLaws.{event_told, word_passes}
use Rattle.conversations.proofs.on_page.OnPageConversation.asked.Goals as goal

pub returns-clause-told : goal.returns-clause-told
returns-clause-told g c events told =
    let old = c.args.self.now in
    let number = c.args.number in
    let topic = g.C.Conversation.topic old.conversation in
    event_told old.doubts (λ t. g.C.NeedsPages.may_lack t) (λ own i. g.C.Conversation.told own i) (λ i. g.C.Conversation.topic i) (λ i. g.C.NeedsPages.addressing i) (λ t own. g.C.NeedsPages.addressed t own) (λ t own. g.C.NeedsPages.needs t own)
    old.conversation c.asked.new.self (Asked number) (record {
      same = c.asked.ensures.topic;
      more = λ own at. c.asked.ensures.told own at;
      before = λ own at. c.addressing-known.ensures.addressed own at;
      after = c.addressing-same.ensures.addressed;
      steady = λ own by at e. c.addressing-same.ensures.steady (Asked number) own by at e;
    }) old.selection old.taken events (word_passes old.doubts (g.C.NeedsPages.may_lack topic) (g.C.NeedsPages.addressed topic) (g.C.NeedsPages.needs topic) number events) refl told
