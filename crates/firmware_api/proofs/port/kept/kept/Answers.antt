use Rattle.std.proofs.Common.{refl}
use Rattle.firmware_api.proofs.KeptLaws.{keeps_in}
use Rattle.firmware_api.proofs.port.kept.kept.Goals as goal

pub returns-clause-same : goal.returns-clause-same
returns-clause-same c fits known =
    keeps_in _ c.args.port.now 0 _ c.save-numbers.ensures.halves refl fits (λ read. c.save-numbers.ensures.same _ read known)
