use Rattle.std.proofs.Common.{sym, ◌∙◌}
use Rattle.firmware_update.proofs.OnBus.{ends_bus, safe_bus}
use Rattle.firmware_update.proofs.session.Session.next.Goals as goal

pub returns-clause-safe : goal.returns-clause-safe
returns-clause-safe c file events at = safe_bus file events c.args.self.now at

pub returns-clause-ends : goal.returns-clause-ends
returns-clause-ends c file events end at asks = ends_bus file events end c.args.self.now at (sym c.wanted.ensures.value ∙ asks)
