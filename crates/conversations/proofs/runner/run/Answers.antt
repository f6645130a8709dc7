use Rattle.std.proofs.Common.{◌≡◌, ◌∷◌, ◌+◌, ◌<◌, ℕ, [], ap, refl, sym, ◌∙◌, subst, Ok, Err, arith}
use Rattle.conversations.specs.Events.{made}
use Rattle.conversations.specs.Carried.{IsCarriedOut}
use Rattle.conversations.specs.declared.event.Event.TheVariants.{Waited}
use Rattle.conversations.proofs.RunTold.{do_fewer, fewer_turns, fewer_waits, turns_left, wait_waits, waited_none}
use Rattle.conversations.proofs.runner.run.Goals as goal

pub told-init : goal.told-init
told-init g c = record { topic = refl; told = ([], refl, c.requires.begun) }

pub told-smaller-in-Ok : goal.told-smaller-in-Ok
told-smaller-in-Ok g c =
    let (events, ran, at) = c.told.invariant.told in
    let old = c.told.within in
    let new = c.take.new.self in
    let asks = sym c.next.ensures.value ∙ c.in-Do.is in
    let (wants, fewer) = do_fewer old.steps old.limit (g.C.Conversation.wants old.conversation) c.in-Do.op asks in
    let now = c.take.ensures.told events c.in-Do.op asks at in
    let limit : new.limit ≡ old.limit = ap (λ (t : ℕ × g.row.C-Topic.Denot). t.0) c.take.ensures.topic in
    let more : new.steps ≡ old.steps + 1 = omega (arith, now.1, at.1) in
    subst (λ (n : ℕ). turns_left new.steps n (g.C.Conversation.wants new.conversation) < turns_left old.steps old.limit (g.C.Conversation.wants old.conversation)) (sym limit)
    (fewer_turns old.steps new.steps old.limit (g.C.Conversation.wants old.conversation) (g.C.Conversation.wants new.conversation) more fewer)

pub told-preserved-in-Ok : goal.told-preserved-in-Ok
told-preserved-in-Ok g c =
    let (events, ran, at) = c.told.invariant.told in
    let asks = sym c.next.ensures.value ∙ c.in-Do.is in
    record {
      topic = c.take.ensures.topic ∙ c.told.invariant.topic;
      told = (made c.in-Do.op c.in-Ok.reply ∷ events, (c.told.bus, ran, c.in-Ok.ensures.made), c.take.ensures.told events c.in-Do.op asks at);
    }

pub returns-in-Err : goal.returns-in-Err
returns-in-Err g c =
    let (events, ran, at) = c.told.invariant.told in
    let (on, fewer) = c.in-Do.ensures.goes_on events at in
    let carried = subst (λ (t : ℕ × g.row.C-Topic.Denot). IsCarriedOut t.0 (g.C.Conversation.goes_on t.1) (g.C.Conversation.ends t.1) (c.told.bus ≡ c.transact.new.self) (λ fault. g.B.TimedBus.fails c.told.bus fault c.transact.new.self) events (Err c.in-Err.fault)) c.told.invariant.topic
    (record { failed = c.in-Err.ensures.failed; fewer = fewer; goes_on = on }) in
    record { topic = c.told.invariant.topic; made = (c.told.bus, events, ran, (at, (c.in-Do.op, sym c.next.ensures.value ∙ c.in-Do.is), carried)) }

pub told-smaller : goal.told-smaller
told-smaller g c =
    let (events, ran, at) = c.told.invariant.told in
    let old = c.told.within in
    let new = c.waited.new.self in
    let asks = sym c.next.ensures.value ∙ c.in-Wait.is in
    let was = wait_waits old.steps old.limit (g.C.Conversation.wants old.conversation) c.in-Wait.milliseconds asks in
    let is = waited_none new.steps new.limit (g.C.Conversation.wants new.conversation) c.waited.ensures.once in
    let now = c.waited.ensures.told events c.in-Wait.milliseconds asks at in
    let limit : new.limit ≡ old.limit = ap (λ (t : ℕ × g.row.C-Topic.Denot). t.0) c.waited.ensures.topic in
    let same : new.steps ≡ old.steps = sym now.1 ∙ at.1 in
    subst (λ (n : ℕ). turns_left new.steps n (g.C.Conversation.wants new.conversation) < turns_left old.steps old.limit (g.C.Conversation.wants old.conversation)) (sym limit)
    (fewer_waits old.steps new.steps old.limit (g.C.Conversation.wants old.conversation) (g.C.Conversation.wants new.conversation) same was is)

pub told-preserved : goal.told-preserved
told-preserved g c =
    let (events, ran, at) = c.told.invariant.told in
    let asks = sym c.next.ensures.value ∙ c.in-Wait.is in
    record {
      topic = c.waited.ensures.topic ∙ c.told.invariant.topic;
      told = (Waited c.in-Wait.milliseconds ∷ events, (c.told.bus, ran, c.pause.ensures), c.waited.ensures.told events c.in-Wait.milliseconds asks at);
    }

pub returns-in-End : goal.returns-in-End
returns-in-End g c =
    let (events, ran, at) = c.told.invariant.told in
    let carried = subst (λ (t : ℕ × g.row.C-Topic.Denot). IsCarriedOut t.0 (g.C.Conversation.goes_on t.1) (g.C.Conversation.ends t.1) (c.told.bus ≡ c.told.bus) (λ fault. g.B.TimedBus.fails c.told.bus fault c.told.bus) events (Ok c.in-End.spent)) c.told.invariant.topic
    (refl, c.in-End.ensures.ends events at) in
    record { topic = c.told.invariant.topic; made = (c.told.bus, events, ran, (at, sym c.next.ensures.value ∙ c.in-End.is, carried)) }
