use Rattle.lane_controls.proofs.SettingsEnds.{each_active}
use Rattle.lane_controls.proofs.laws.settings_called_active_are_active.Goals as goal

pub returns : goal.returns
returns c = each_active
