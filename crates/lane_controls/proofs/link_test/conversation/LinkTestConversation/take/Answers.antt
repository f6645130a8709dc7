use Rattle.std.proofs.Common.{sym, subst, ap, ◌∙◌, ◌∷◌}
use Rattle.conversations.specs.Events.{made}
use Rattle.lane_controls.specs.declared.link_test.LinkTest.{LinkTest}
use Rattle.lane_controls.specs.TestAccounts.{IsTold}
use Rattle.lane_controls.proofs.LinkTestTold.{told_step}
use Rattle.lane_controls.proofs.LinkTestPlans.{plan_kept}
use Rattle.lane_controls.proofs.link_test.conversation.LinkTestConversation.take.Goals as goal

pub returns-clause-topic : goal.returns-clause-topic
returns-clause-topic c = ap (λ (test : LinkTest). test.plan) c.advance.ensures ∙ plan_kept c.args.self.now c.args.reply.now

pub returns-clause-told : goal.returns-clause-told
returns-clause-told c events op asks told =
    subst (λ (test : LinkTest). IsTold (made op c.args.reply.now ∷ events) test) (sym c.advance.ensures) (told_step events c.args.self.now told op c.args.reply.now asks)
