use Rattle.lane_controls.proofs.RunLaws.{names_anywhere, names_really}
use Rattle.lane_controls.proofs.laws.what_may_be_on_is_named.Goals as goal

pub returns-clause-anywhere : goal.returns-clause-anywhere
returns-clause-anywhere c = names_anywhere

pub returns-clause-really : goal.returns-clause-really
returns-clause-really c = names_really
