use Rattle.std.proofs.Common.{sym, subst}
use Rattle.firmware_update.specs.declared.known.Known.{Known}
use Rattle.firmware_update.specs.KnownStates.{Shows}
use Rattle.firmware_update.proofs.Above.{come_shows}
use Rattle.firmware_update.proofs.update.Update.known.Goals as goal

pub returns-clause-shown : goal.returns-clause-shown
returns-clause-shown c history at =
    let old = c.args.self.now in
    subst (λ (k : Known). Shows k history) (sym c.state.ensures) (come_shows old.size old.fault old.stage old.closing history at.come)
