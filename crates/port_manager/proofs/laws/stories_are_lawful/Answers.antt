use Rattle.port_manager.proofs.StoryLaws.{reaches_at}
use Rattle.port_manager.proofs.laws.stories_are_lawful.Goals as goal

pub returns : goal.returns
returns c story port reaches = reaches_at story port reaches
