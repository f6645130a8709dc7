use Rattle.std.proofs.Common.{◌∷◌, ◌<◌, sym, subst}
use Rattle.firmware_update.specs.declared.update.Update.{Update}
use Rattle.firmware_update.specs.Progress.{IsAt, exchange_of, left}
use Rattle.firmware_update.proofs.Fewer.{fewer}
use Rattle.firmware_update.proofs.Told.{told}
use Rattle.firmware_update.proofs.update.Update.take.Goals as goal

pub returns-clause-told : goal.returns-clause-told
returns-clause-told c history command at asks =
    let old = c.args.self.now in
    let outcome = c.args.outcome.now in
    subst (λ (u : Update). IsAt old.size (exchange_of command outcome ∷ history) u) (sym c.change.ensures) (told history command old outcome at asks)

pub returns-clause-fewer : goal.returns-clause-fewer
returns-clause-fewer c command asks =
    let old = c.args.self.now in
    subst (λ (u : Update). left u < left old) (sym c.change.ensures) (fewer command old c.args.outcome.now asks)
