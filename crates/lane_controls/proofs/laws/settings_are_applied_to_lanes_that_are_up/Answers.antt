use Rattle.lane_controls.proofs.SettingsEnds.{each_up}
use Rattle.lane_controls.proofs.SettingsTold.{settings_go_on}
use Rattle.lane_controls.proofs.laws.settings_are_applied_to_lanes_that_are_up.Goals as goal

pub returns-clause-steps : goal.returns-clause-steps
returns-clause-steps c = settings_go_on

pub returns-clause-up : goal.returns-clause-up
returns-clause-up c = each_up
