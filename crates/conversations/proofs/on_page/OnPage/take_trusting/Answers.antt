use Rattle.std.proofs.Common.{◌≡◌, ◌∷◌, ℕ, Bool, Option, Some, None, ap, subst, sym, ◌∙◌}
use Rattle.bus_model.specs.declared.operation.Op.{Op}
use Rattle.conversations.specs.declared.event.Event.TheVariants.{Lacked}
use Rattle.conversations.specs.declared.next.Next.{Next}
use Rattle.conversations.specs.declared.next.Next.TheVariants.{Do}
use Rattle.conversations.specs.declared.on_page.OnPage.{OnPage}
use Rattle.conversations.specs.Events.{Events, made, steps_of}
use Rattle.conversations.specs.Selecting.{Knows, WithSelections, chosen, lacked, taken_after, taken_by, trusted}
use Rattle.conversations.specs.Wanted.{IfDo, IsReplyTo}
use Rattle.paged_memory.specs.declared.page_addressing.PageAddressing.{PageAddressing}
use Rattle.paged_memory.specs.declared.page_addressing.KnownPage.TheVariants.{Open}
use Rattle.paged_memory.specs.KnownPages.{IsApart, missing_page, selection_told}
use Rattle.paged_memory.proofs.KnownPageLaws.{step_of}
use Rattle.conversations.proofs.OnPageLaws.{Follows, asks, in_topic, knows_next, lacks_more, own_more, reads_back, selecting_more, selects_page, steady_by, steady_own, works_inner}
use Rattle.conversations.proofs.on_page.OnPage.take_trusting.Goals as goal

pub returns-in-Some-clause-told : goal.returns-in-Some-clause-told
returns-in-Some-clause-told g c events op asked knows within =
    let old = c.args.self.now in
    let reply = c.args.reply.now in
    let by = g.C.NeedsPages.addressing old.conversation in
    let page = g.C.NeedsPages.page old.conversation in
    let topic = g.C.Conversation.topic old.conversation in
    let addressed = g.C.NeedsPages.addressed topic in
    let needs = g.C.NeedsPages.needs topic in
    let may = g.C.NeedsPages.may_lack topic in
    let Old : Events → Type 0 = λ own. g.C.Conversation.told own old.conversation in
    let answers = subst (λ (n : Next g.row.C-End.Denot). IsReplyTo n reply) asked c.requires in
    let a = asks (chosen by) old.selection page (g.C.Conversation.wants old.conversation) op asked in
    let apart : (by : PageAddressing) → IsApart by a.inner = λ by. subst (λ (n : Next g.row.C-End.Denot). IfDo n (IsApart by)) a.wants (c.page-page.ensures.apart by) in
    let known : (own : Events) → Old own → by ≡ addressed own = λ own at. c.addressing.ensures.addressed own at in
    let needed : (own : Events) → Old own → page ≡ needs own = λ own at. c.page-page.ensures.needs own at in
    let new = c.lacks.new.self in
    let number = c.in-Some.number in
    let reads = reads_back may old.selection old.taken page a.inner op (trusted old.doubts (steps_of events)) reply apart by a.is knows (sym c.is_open.ensures ∙ c.if-is_open.true) in
    let inner_is : c.read_back.new.self.conversation ≡ old.conversation = ap (λ (on : OnPage g.row.C.Denot). on.conversation) c.read_back.ensures.new in
    let by_is : c.chosen-addressing.result ≡ chosen by = c.chosen-addressing.ensures ∙ ap chosen c.addressing.ensures.value in
    let shows = reads.lacks number (sym (ap (λ (p : PageAddressing). lacked p page old.taken reply) by_is) ∙ sym (ap (λ (p : Option ℕ). lacked c.chosen-addressing.result p old.taken reply) c.page-page.ensures.value) ∙ sym c.read_back.ensures.lacked ∙ c.in-Some.is) in
    let f : Follows old.doubts (λ t. g.C.NeedsPages.may_lack t) (λ own i. g.C.Conversation.told own i) (λ i. g.C.Conversation.topic i) (λ i. g.C.NeedsPages.addressing i) (λ t own. g.C.NeedsPages.addressed t own) (λ t own. g.C.NeedsPages.needs t own) old.conversation new (Lacked number) = record {
      same = c.lacks.ensures.topic ∙ ap (λ (i : g.row.C.Denot). g.C.Conversation.topic i) inner_is;
      more = λ own at. c.lacks.ensures.told own (subst (λ (i : g.row.C.Denot). g.C.Conversation.told own i) (sym inner_is) at);
      before = known;
      after = c.addressing-same.ensures.addressed;
      steady = λ own by at e. c.addressing-same.ensures.steady (Lacked number) own by at e;
    } in
    let steady = steady_by old.doubts (λ t. g.C.NeedsPages.may_lack t) (λ own i. g.C.Conversation.told own i) (λ i. g.C.Conversation.topic i) (λ i. g.C.NeedsPages.addressing i) (λ t own. g.C.NeedsPages.addressed t own) (λ t own. g.C.NeedsPages.needs t own) old.conversation new (Lacked number) f events within in
    let sel = selection_told (chosen by) old.selection reply in
    let tak = taken_after old.taken reply in
    let all = in_topic old.doubts (λ t. g.C.NeedsPages.may_lack t) (λ own i. g.C.Conversation.told own i) (λ i. g.C.Conversation.topic i) (λ i. g.C.NeedsPages.addressing i) (λ t own. g.C.NeedsPages.addressed t own) (λ t own. g.C.NeedsPages.needs t own) old.conversation new (Lacked number) f sel tak (step_of op reply ∷ trusted old.doubts (steps_of events)) (made op reply ∷ events) (
      knows_next may by (g.C.NeedsPages.addressing new) sel tak (step_of op reply ∷ trusted old.doubts (steps_of events)) steady reads.knows,
      lacks_more old.doubts may addressed needs Old op reply events page by known needed (λ own. g.C.Conversation.told own new) reads.addressing reads.is number shows.0 shows.1 shows.2 answers f.more
          (steady_own old.doubts (λ t. g.C.NeedsPages.may_lack t) (λ own i. g.C.Conversation.told own i) (λ i. g.C.Conversation.topic i) (λ i. g.C.NeedsPages.addressing i) (λ t own. g.C.NeedsPages.addressed t own) (λ t own. g.C.NeedsPages.needs t own) old.conversation new (Lacked number) f) within,
    ) in
    let may' = g.C.NeedsPages.may_lack (g.C.Conversation.topic new) in
    let Kept : OnPage g.row.C.Denot → Type 0 = λ on. Knows may' (g.C.NeedsPages.addressing new) on.selection on.taken (step_of op reply ∷ trusted old.doubts (steps_of events)) in
    let kept = subst (λ (p : PageAddressing). Knows may' (g.C.NeedsPages.addressing new) (selection_told p old.selection reply) tak (step_of op reply ∷ trusted old.doubts (steps_of events))) (sym by_is) all.0 in
    (subst Kept (sym c.read_back.ensures.new) kept, all.1)

pub returns-in-None-clause-told : goal.returns-in-None-clause-told
returns-in-None-clause-told g c events op asked knows within =
    let old = c.args.self.now in
    let reply = c.args.reply.now in
    let by = g.C.NeedsPages.addressing old.conversation in
    let page = g.C.NeedsPages.page old.conversation in
    let topic = g.C.Conversation.topic old.conversation in
    let addressed = g.C.NeedsPages.addressed topic in
    let needs = g.C.NeedsPages.needs topic in
    let may = g.C.NeedsPages.may_lack topic in
    let Old : Events → Type 0 = λ own. g.C.Conversation.told own old.conversation in
    let answers = subst (λ (n : Next g.row.C-End.Denot). IsReplyTo n reply) asked c.requires in
    let a = asks (chosen by) old.selection page (g.C.Conversation.wants old.conversation) op asked in
    let apart : (by : PageAddressing) → IsApart by a.inner = λ by. subst (λ (n : Next g.row.C-End.Denot). IfDo n (IsApart by)) a.wants (c.page-page.ensures.apart by) in
    let known : (own : Events) → Old own → by ≡ addressed own = λ own at. c.addressing.ensures.addressed own at in
    let needed : (own : Events) → Old own → page ≡ needs own = λ own at. c.page-page.ensures.needs own at in
    let reads = reads_back may old.selection old.taken page a.inner op (trusted old.doubts (steps_of events)) reply apart by a.is knows (sym c.is_open.ensures ∙ c.if-is_open.true) in
    let by_is : c.chosen-addressing.result ≡ chosen by = c.chosen-addressing.ensures ∙ ap chosen c.addressing.ensures.value in
    let lacks_is = sym (ap (λ (p : PageAddressing). lacked p page old.taken reply) by_is) ∙ sym (ap (λ (p : Option ℕ). lacked c.chosen-addressing.result p old.taken reply) c.page-page.ensures.value) ∙ sym c.read_back.ensures.lacked ∙ c.in-None.is in
    let Told : OnPage g.row.C.Denot → Type 0 = λ on. Knows (g.C.NeedsPages.may_lack (g.C.Conversation.topic on.conversation)) (g.C.NeedsPages.addressing on.conversation) on.selection on.taken (step_of op reply ∷ trusted old.doubts (steps_of events))
    × WithSelections old.doubts (g.C.NeedsPages.may_lack (g.C.Conversation.topic on.conversation)) (g.C.NeedsPages.addressed (g.C.Conversation.topic on.conversation)) (g.C.NeedsPages.needs (g.C.Conversation.topic on.conversation)) (λ own. g.C.Conversation.told own on.conversation) (made op reply ∷ events) in
    let kept = subst (λ (p : PageAddressing). Knows may by (selection_told p old.selection reply) (taken_after old.taken reply) (step_of op reply ∷ trusted old.doubts (steps_of events))) (sym by_is) reads.knows in
    subst Told (sym c.read_back.ensures.new) (kept, selecting_more old.doubts may addressed needs Old op reply events page by known needed reads.addressing reads.is reads.selecting (reads.none lacks_is) answers within)

pub returns-in-Some-missing-clause-told : goal.returns-in-Some-missing-clause-told
returns-in-Some-missing-clause-told g c events op asked knows within =
    let old = c.args.self.now in
    let reply = c.args.reply.now in
    let by = g.C.NeedsPages.addressing old.conversation in
    let page = g.C.NeedsPages.page old.conversation in
    let topic = g.C.Conversation.topic old.conversation in
    let addressed = g.C.NeedsPages.addressed topic in
    let needs = g.C.NeedsPages.needs topic in
    let may = g.C.NeedsPages.may_lack topic in
    let Old : Events → Type 0 = λ own. g.C.Conversation.told own old.conversation in
    let answers = subst (λ (n : Next g.row.C-End.Denot). IsReplyTo n reply) asked c.requires in
    let a = asks (chosen by) old.selection page (g.C.Conversation.wants old.conversation) op asked in
    let apart : (by : PageAddressing) → IsApart by a.inner = λ by. subst (λ (n : Next g.row.C-End.Denot). IfDo n (IsApart by)) a.wants (c.page-page.ensures.apart by) in
    let known : (own : Events) → Old own → by ≡ addressed own = λ own at. c.addressing.ensures.addressed own at in
    let needed : (own : Events) → Old own → page ≡ needs own = λ own at. c.page-page.ensures.needs own at in
    let number = c.in-Some-missing.number in
    let missing = subst (λ (p : Option ℕ). missing_page old.selection p ≡ Some number) c.page-page.ensures.value (sym c.missing.ensures ∙ c.in-Some-missing.is) in
    let selects = selects_page may old.selection old.taken page a.inner op (trusted old.doubts (steps_of events)) reply apart by a.is knows c.page-page.ensures.unknown (sym c.is_open.ensures ∙ c.if-is_open.false) number missing in (
      subst (λ (taken : Option ℕ). Knows may by Open taken (step_of op reply ∷ trusted old.doubts (steps_of events))) (sym (c.taken_by-self.ensures ∙ ap (λ (b : Bool). taken_by b number reply) c.may_lack.ensures)) selects.knows,
      selecting_more old.doubts may addressed needs Old op reply events page by known needed selects.addressing selects.is selects.selecting selects.none answers within,
    )

pub returns-in-None-missing-clause-told : goal.returns-in-None-missing-clause-told
returns-in-None-missing-clause-told g c events op asked knows within =
    let old = c.args.self.now in
    let reply = c.args.reply.now in
    let by = g.C.NeedsPages.addressing old.conversation in
    let page = g.C.NeedsPages.page old.conversation in
    let topic = g.C.Conversation.topic old.conversation in
    let addressed = g.C.NeedsPages.addressed topic in
    let needs = g.C.NeedsPages.needs topic in
    let may = g.C.NeedsPages.may_lack topic in
    let Old : Events → Type 0 = λ own. g.C.Conversation.told own old.conversation in
    let a = asks (chosen by) old.selection page (g.C.Conversation.wants old.conversation) op asked in
    let apart : (by : PageAddressing) → IsApart by a.inner = λ by. subst (λ (n : Next g.row.C-End.Denot). IfDo n (IsApart by)) a.wants (c.page-page.ensures.apart by) in
    let known : (own : Events) → Old own → by ≡ addressed own = λ own at. c.addressing.ensures.addressed own at in
    let needed : (own : Events) → Old own → page ≡ needs own = λ own at. c.page-page.ensures.needs own at in
    let new = c.take.new.self in
    let missing = subst (λ (p : Option ℕ). missing_page old.selection p ≡ None) c.page-page.ensures.value (sym c.missing.ensures ∙ c.in-None-missing.is) in
    let works = works_inner may old.selection old.taken page a.inner op (trusted old.doubts (steps_of events)) reply apart by a.is knows (sym c.is_open.ensures ∙ c.if-is_open.false) missing in
    let wants : g.C.Conversation.wants old.conversation ≡ Do op = a.wants ∙ ap (λ (o : Op). Do o) (sym works.same) in
    let f : Follows old.doubts (λ t. g.C.NeedsPages.may_lack t) (λ own i. g.C.Conversation.told own i) (λ i. g.C.Conversation.topic i) (λ i. g.C.NeedsPages.addressing i) (λ t own. g.C.NeedsPages.addressed t own) (λ t own. g.C.NeedsPages.needs t own) old.conversation new (made op reply) = record {
      same = c.take.ensures.topic;
      more = λ own at. c.take.ensures.told own op wants at;
      before = known;
      after = c.addressing-same-in-None-missing.ensures.addressed;
      steady = λ own by at e. c.addressing-same-in-None-missing.ensures.steady (made op reply) own by at e;
    } in
    let steady = steady_by old.doubts (λ t. g.C.NeedsPages.may_lack t) (λ own i. g.C.Conversation.told own i) (λ i. g.C.Conversation.topic i) (λ i. g.C.NeedsPages.addressing i) (λ t own. g.C.NeedsPages.addressed t own) (λ t own. g.C.NeedsPages.needs t own) old.conversation new (made op reply) f events within in
    in_topic old.doubts (λ t. g.C.NeedsPages.may_lack t) (λ own i. g.C.Conversation.told own i) (λ i. g.C.Conversation.topic i) (λ i. g.C.NeedsPages.addressing i) (λ t own. g.C.NeedsPages.addressed t own) (λ t own. g.C.NeedsPages.needs t own) old.conversation new (made op reply) f old.selection None (step_of op reply ∷ trusted old.doubts (steps_of events)) (made op reply ∷ events) (
      knows_next may by (g.C.NeedsPages.addressing new) old.selection None (step_of op reply ∷ trusted old.doubts (steps_of events)) steady works.knows,
      own_more old.doubts may addressed needs Old op reply events page by known needed (λ own. g.C.Conversation.told own new) works.stands f.more (steady_own old.doubts (λ t. g.C.NeedsPages.may_lack t) (λ own i. g.C.Conversation.told own i) (λ i. g.C.Conversation.topic i) (λ i. g.C.NeedsPages.addressing i) (λ t own. g.C.NeedsPages.addressed t own) (λ t own. g.C.NeedsPages.needs t own) old.conversation new (made op reply) f) within,
    )
