use Rattle.lane_controls.proofs.LinkTestTold.{leaves_nothing}
use Rattle.lane_controls.proofs.link_test.LinkTest.may_be_on.Goals as goal

pub returns-then-is_in_hand-clause-told : goal.returns-then-is_in_hand-clause-told
returns-then-is_in_hand-clause-told c events told = leaves_nothing events c.args.self.now told

pub returns-then-is_among-clause-told : goal.returns-then-is_among-clause-told
returns-then-is_among-clause-told c events told = leaves_nothing events c.args.self.now told

pub returns-else-is_among-clause-told : goal.returns-else-is_among-clause-told
returns-else-is_among-clause-told c events told = leaves_nothing events c.args.self.now told
