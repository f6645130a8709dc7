use Rattle.std.proofs.Common.{ap, sym, ◌∙◌}
use Rattle.firmware_update.specs.declared.update.Update.{Update}
use Rattle.firmware_update.specs.Progress.{next}
use Rattle.firmware_update.proofs.session.Session.go_on.Goals as goal

pub delivery_at-self-requires-clause-room : goal.delivery_at-self-requires-clause-room
delivery_at-self-requires-clause-room c command asks =
    c.requires.room c.in-End.outcome command (sym c.next.ensures.value ∙ c.in-End.is) (ap (λ (u : Update). next u) (sym c.take.ensures.value) ∙ asks)
