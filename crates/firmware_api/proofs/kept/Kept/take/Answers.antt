use Rattle.std.proofs.Common.{◌≡◌, subst}
use Rattle.conversations.specs.declared.next.Next.TheVariants.{Do}
use Rattle.conversations.specs.declared.watching.Watched.TheVariants.{InOrder}
use Rattle.control_sets.specs.PowerProgress.{power_wants}
use Rattle.firmware_api.specs.declared.kept.Kept.{Kept}
use Rattle.conversations.specs.Patiently.{wants_patiently}
use Rattle.firmware_api.specs.KeptConversations.{WasTold, next_of, pieces_want, read_ending}
use Rattle.firmware_api.proofs.PauseLaws.{same_do}
use Rattle.firmware_api.proofs.kept.Kept.take.Goals as goal

pub returns-in-OfTasks-clause-told : goal.returns-in-OfTasks-clause-told
returns-in-OfTasks-clause-told c events op asks told =
    c.take.ensures.told events op (subst (λ (kept : Kept). next_of kept ≡ Do op) c.in-OfTasks.is asks) (subst (WasTold events) c.in-OfTasks.is told)

pub returns-in-OfPower-clause-told : goal.returns-in-OfPower-clause-told
returns-in-OfPower-clause-told c events op asks told =
    c.take-in-OfPower.ensures.told events op
    (same_do InOrder (wants_patiently power_wants c.in-OfPower.change) op (subst (λ (kept : Kept). next_of kept ≡ Do op) c.in-OfPower.is asks)) (subst (WasTold events) c.in-OfPower.is told)

pub returns-in-OfReading-clause-told : goal.returns-in-OfReading-clause-told
returns-in-OfReading-clause-told c events op asks told =
    c.take-in-OfReading.ensures.told events op
    (same_do read_ending (wants_patiently pieces_want c.in-OfReading.read) op (subst (λ (kept : Kept). next_of kept ≡ Do op) c.in-OfReading.is asks)) (subst (WasTold events) c.in-OfReading.is told)
