use Rattle.lane_controls.proofs.SettingsProgressLaws.{settings_active, settings_soon}
use Rattle.lane_controls.proofs.laws.a_change_of_settings_ends.Goals as goal

pub returns-clause-soon : goal.returns-clause-soon
returns-clause-soon c change shown events op obeys made wanted = settings_soon change shown obeys events op made wanted

pub returns-clause-so : goal.returns-clause-so
returns-clause-so c change shown events end obeys made wanted = settings_active change shown obeys events end made wanted
