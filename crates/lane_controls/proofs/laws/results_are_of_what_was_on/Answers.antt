use Rattle.lane_controls.proofs.LinkTestTold.{measured, were_on}
use Rattle.lane_controls.proofs.laws.results_are_of_what_was_on.Goals as goal

pub returns-clause-on : goal.returns-clause-on
returns-clause-on c = were_on

pub returns-clause-often : goal.returns-clause-often
returns-clause-often c events test told over none = measured events test told over none
