use Rattle.saved_provisioning.proofs.Inverses.{kept_stands}
use Rattle.saved_provisioning.proofs.turning.wait_saved.Goals as goal

pub save-requires-clause-usual : goal.save-requires-clause-usual
save-requires-clause-usual c =
    let usual = (kept_stands c.args.saved.now c.args.it c.requires).0 in
    record { watches = usual.watches; limit = usual.limit; few = usual.few; doubts = usual.doubts; taken = usual.taken; change = usual.change }

pub save-requires-clause-tasks : goal.save-requires-clause-tasks
save-requires-clause-tasks c = (kept_stands c.args.saved.now c.args.it c.requires).1
