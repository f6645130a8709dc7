use Rattle.conversations.proofs.PausingLaws.{spaced}
use Rattle.conversations.proofs.laws.polls_are_spaced.Goals as goal

pub returns : goal.returns
returns c patience own events wanted due idle adds = spaced patience own events wanted due idle adds
