use Rattle.lane_controls.proofs.StopLaws.{stops}
use Rattle.lane_controls.proofs.laws.a_stopped_test_switches_nothing_on.Goals as goal

pub returns : goal.returns
returns c = stops
