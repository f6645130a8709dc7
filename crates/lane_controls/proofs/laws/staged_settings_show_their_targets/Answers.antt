use Rattle.lane_controls.proofs.SettingLaws.{staged_shows}
use Rattle.lane_controls.proofs.laws.staged_settings_show_their_targets.Goals as goal

pub returns : goal.returns
returns c = staged_shows
