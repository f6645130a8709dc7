use Rattle.explicit_provisioning.proofs.FollowingLaws.{parts_join}
use Rattle.explicit_provisioning.proofs.laws.events_are_of_the_first_and_then_of_the_second.Goals as goal

pub returns : goal.returns
returns c over events = parts_join over events
