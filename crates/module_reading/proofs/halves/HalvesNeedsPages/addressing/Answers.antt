use Rattle.std.proofs.Common.{ap, ◌∙◌}
use Rattle.module_reading.specs.declared.halves.Halves.{Halves}
use Rattle.module_reading.specs.ImageReading.{addressing}
use Rattle.module_reading.proofs.HalvesLaws.{steady}
use Rattle.module_reading.proofs.halves.HalvesNeedsPages.addressing.Goals as goal

pub returns-in_default-clause-steady : goal.returns-in_default-clause-steady
returns-in_default-clause-steady c event events by told known = ap (λ (h : Halves). addressing h) told.is ∙ steady _ event events by known
