use Rattle.std.proofs.Common.{sym, subst, ap, ◌∙◌, ◌∷◌}
use Rattle.conversations.specs.declared.event.Event.TheVariants.{Asked}
use Rattle.lane_controls.specs.declared.link_test.LinkTest.{LinkTest}
use Rattle.lane_controls.specs.TestAccounts.{IsTold}
use Rattle.lane_controls.proofs.LinkTestTold.{told_asked}
use Rattle.lane_controls.proofs.LinkTestPlans.{stopped_plan}
use Rattle.lane_controls.proofs.link_test.conversation.LinkTestConversation.asked.Goals as goal

pub returns-clause-topic : goal.returns-clause-topic
returns-clause-topic c = ap (λ (test : LinkTest). test.plan) c.stop_by.ensures ∙ stopped_plan c.args.number c.args.self.now

pub returns-clause-told : goal.returns-clause-told
returns-clause-told c events told =
    subst (λ (test : LinkTest). IsTold (Asked c.args.number ∷ events) test) (sym c.stop_by.ensures) (told_asked events c.args.self.now told c.args.number)
