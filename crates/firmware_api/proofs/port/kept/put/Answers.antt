use Rattle.std.proofs.Common.{take, refl, ◌∙◌}
use Rattle.firmware_api.specs.Halves.{memory_of}
use Rattle.firmware_api.specs.KeptPorts.{count_of}
use Rattle.firmware_api.proofs.KeptLaws.{keeps_in}
use Rattle.firmware_api.proofs.port.kept.put.Goals as goal

pub returns-clause-same : goal.returns-clause-same
returns-clause-same c fits known =
    let count = count_of c.args.port.now c.args.kept.now.numbers.half_count in
    let halves = c.args.kept.now.halves in
    keeps_in _ c.args.port.now count halves (c.save-numbers.ensures.halves ∙ c.count_of-count.ensures) refl fits
    (λ read. c.save-numbers.ensures.same (memory_of (take count halves)) read known)
