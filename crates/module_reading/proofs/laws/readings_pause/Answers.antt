use Rattle.conversations.proofs.PausingLaws.{spaced}
use Rattle.module_reading.proofs.laws.readings_pause.Goals as goal

pub returns : goal.returns
returns c events reading told =
    let (own, adds, rest) = told.0 in
    spaced reading.conversation.patience own events _ reading.conversation.due reading.conversation.idle adds
