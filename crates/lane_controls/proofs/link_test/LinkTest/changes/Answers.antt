use Rattle.std.proofs.Common.{rules, ◌≡◌, List, sym, subst}
use Rattle.conversations.specs.Events.{steps_of}
use Rattle.lane_controls.specs.declared.test_plan.Change.{Change}
use Rattle.lane_controls.specs.TestAccounts.{LeavesNothing, changes_of}
use Rattle.lane_controls.specs.TestOperations.{is_among}
use Rattle.lane_controls.specs.TestSteps.{AllMade}
use Rattle.lane_controls.proofs.ChangeLaws.{made_all, names}
use Rattle.lane_controls.proofs.link_test.LinkTest.changes.Goals as goal

pub returns-clause-told : goal.returns-clause-told
returns-clause-told c events told =
    let test = c.args.self.now in
    let listed : c.try_extend_from_slice-2.new.self.items ≡ changes_of test = search rules in
    subst (λ (changes : List Change). LeavesNothing test.plan events (is_among changes)) (sym listed) (names events test told)

pub returns-clause-made : goal.returns-clause-made
returns-clause-made c events told =
    let test = c.args.self.now in
    let listed : c.try_extend_from_slice-2.new.self.items ≡ changes_of test = search rules in
    subst (λ (changes : List Change). AllMade test.plan (steps_of events) changes) (sym listed) (made_all events test told)
