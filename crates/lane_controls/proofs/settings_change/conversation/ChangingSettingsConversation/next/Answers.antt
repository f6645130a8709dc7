use Rattle.lane_controls.proofs.SettingsTold.{settings_ends_if, settings_go_on_if}
use Rattle.lane_controls.proofs.settings_change.conversation.ChangingSettingsConversation.next.Goals as goal

pub returns-clause-ends : goal.returns-clause-ends
returns-clause-ends c events told = settings_ends_if events c.args.self.now c.op.result c.op.ensures.value told

pub returns-clause-goes_on : goal.returns-clause-goes_on
returns-clause-goes_on c events told = settings_go_on_if events c.args.self.now c.op.result told
