use Rattle.control_sets.proofs.LanesOfPaths.{lane_taken, lanes_taken}
use Rattle.control_sets.proofs.laws.lanes_that_agree_are_a_path.Goals as goal

pub returns-clause-lanes : goal.returns-clause-lanes
returns-clause-lanes c = lanes_taken

pub returns-clause-each : goal.returns-clause-each
returns-clause-each c = lane_taken
