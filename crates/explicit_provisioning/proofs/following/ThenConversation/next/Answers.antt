use Rattle.std.proofs.Common.{◌≡◌, Bool, true, false, sym, subst, ◌∙◌}
use Rattle.conversations.specs.declared.next.Next.{Next}
use Rattle.conversations.specs.Events.{Events}
use Rattle.conversations.specs.Wanted.{IfDo, IfEnd}
use Rattle.explicit_provisioning.specs.declared.following.Sequel.{Sequel}
use Rattle.explicit_provisioning.specs.Following.{EndsThen, GoesOnThen, ends_so, first_part}
use Rattle.explicit_provisioning.proofs.FollowingLaws.{ends_early, goes_early}
use Rattle.explicit_provisioning.proofs.following.ThenConversation.next.Goals as goal

pub returns-else-is_over-clause-ends : goal.returns-else-is_over-clause-ends
returns-else-is_over-clause-ends g c events told =
    let it = c.args.self.now in
    let topic = g.A.Conversation.topic it.first in
    let over : Events → Bool = λ own. g.A.Leads.over topic own in
    let goes : ends_so g.A.Leads.passes (g.A.Conversation.wants it.first) ≡ false = sym c.is_over.ensures.value ∙ c.if-is_over.false in
    let going : over (first_part over events) ≡ false = c.is_over.ensures.over (first_part over events) told.0 ∙ goes in
    let First : Events → g.row.A-End.Denot → Type 0 = λ own end. g.A.Conversation.ends topic own end in
    let Second : Events → g.row.B-End.Denot → Type 0 = λ own end. g.B.Conversation.ends (g.B.Conversation.topic it.second) own end in
    let passed : ends_so g.A.Leads.passes c.next-first.result ≡ false = subst (λ (n : Next g.row.A-End.Denot). ends_so g.A.Leads.passes n ≡ false) (sym c.next-first.ensures.value) goes in
    subst (λ (n : Next (Sequel g.row.A-End.Denot g.row.B-End.Denot)). IfEnd n (EndsThen over g.A.Leads.passes First Second events)) (sym c.early.ensures)
    (ends_early over g.A.Leads.passes First events Second c.next-first.result (c.next-first.ensures.ends (first_part over events) told.0) passed going)

pub returns-else-is_over-clause-goes_on : goal.returns-else-is_over-clause-goes_on
returns-else-is_over-clause-goes_on g c events told =
    let it = c.args.self.now in
    let topic = g.A.Conversation.topic it.first in
    let over : Events → Bool = λ own. g.A.Leads.over topic own in
    let going : over (first_part over events) ≡ false = c.is_over.ensures.over (first_part over events) told.0 ∙ sym c.is_over.ensures.value ∙ c.if-is_over.false in
    let First : Events → g.row.A-End.Denot → Type 0 = λ own end. g.A.Conversation.ends topic own end in
    let Going : Events → Type 0 = λ own. g.A.Conversation.goes_on topic own in
    let Rest : Events → Type 0 = λ own. g.B.Conversation.goes_on (g.B.Conversation.topic it.second) own in
    subst (λ (n : Next (Sequel g.row.A-End.Denot g.row.B-End.Denot)). IfDo n (λ op. GoesOnThen over g.A.Leads.passes First Going Rest events)) (sym c.early.ensures)
    (goes_early over g.A.Leads.passes First events g.row.B-End.Denot Going Rest c.next-first.result (c.next-first.ensures.goes_on (first_part over events) told.0) going)
