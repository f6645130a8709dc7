use Rattle.std.proofs.Common.{subst, sym}
use Rattle.conversations.specs.declared.next.Next.{Next}
use Rattle.conversations.specs.Wanted.{IfEnd}
use Rattle.firmware_api.specs.declared.kept.Kept.{Kept}
use Rattle.firmware_api.specs.declared.kept.Kept.TheVariants.{OfPower}
use Rattle.firmware_api.specs.KeptConversations.{Ending, EndsSo, PowerEnds, WasTold}
use Rattle.firmware_api.proofs.PauseLaws.{ends_in_order}
use Rattle.firmware_api.proofs.kept.Kept.next.Goals as goal

pub returns-in-OfTasks-clause-ends : goal.returns-in-OfTasks-clause-ends
returns-in-OfTasks-clause-ends c events told =
    subst (λ (kept : Kept). IfEnd c.next.result (λ (ending : Ending). EndsSo kept events ending)) (sym c.in-OfTasks.is)
    (c.next.ensures.ends events (subst (WasTold events) c.in-OfTasks.is told))

pub returns-in-OfPower-clause-ends : goal.returns-in-OfPower-clause-ends
returns-in-OfPower-clause-ends c events told =
    let change = c.in-OfPower.change in
    subst (λ (kept : Kept). IfEnd c.in_order.result (λ (ending : Ending). EndsSo kept events ending)) (sym c.in-OfPower.is)
    (subst (λ (next : Next Ending). IfEnd next (λ (ending : Ending). EndsSo (OfPower change) events ending)) (sym c.in_order.ensures)
    (ends_in_order (PowerEnds change events) c.next-in-OfPower.result (c.next-in-OfPower.ensures.ends events (subst (WasTold events) c.in-OfPower.is told))))
