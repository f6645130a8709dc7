use Rattle.std.proofs.Common.{sym, subst, ap, ◌∙◌, ◌∷◌}
use Rattle.conversations.specs.Events.{made}
use Rattle.lane_controls.specs.declared.settings_change.ChangingSettings.{ChangingSettings}
use Rattle.lane_controls.specs.SettingsSteps.{IsTold}
use Rattle.lane_controls.proofs.SettingsTold.{change_kept, settings_step}
use Rattle.lane_controls.proofs.settings_change.conversation.ChangingSettingsConversation.take.Goals as goal

pub returns-clause-topic : goal.returns-clause-topic
returns-clause-topic c = ap (λ (changing : ChangingSettings). changing.change) c.advance.ensures ∙ change_kept c.args.self.now c.args.reply.now

pub returns-clause-told : goal.returns-clause-told
returns-clause-told c events op asks told =
    subst (λ (changing : ChangingSettings). IsTold (made op c.args.reply.now ∷ events) changing) (sym c.advance.ensures) (settings_step events c.args.self.now told op c.args.reply.now asks)
