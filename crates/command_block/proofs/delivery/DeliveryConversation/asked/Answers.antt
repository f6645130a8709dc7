use Rattle.std.proofs.Common.{subst, sym}
use Rattle.command_block.specs.Deliveries.{Terms}
use Rattle.command_block.specs.Turns.{HasTurned}
use Rattle.command_block.proofs.delivery.DeliveryConversation.asked.Goals as goal

pub returns-clause-told : goal.returns-clause-told
returns-clause-told c events told =
    let old = c.args.self.now in
    (c.asked.ensures.told events told.0, (old, subst (λ (t : Terms). HasTurned t events old) (sym c.asked.ensures.topic) told.1, c.asked.ensures.topic))
