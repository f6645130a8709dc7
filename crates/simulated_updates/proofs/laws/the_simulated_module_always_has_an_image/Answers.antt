use Rattle.firmware_laws.proofs.PowerLoss.{boots_image}
use Rattle.simulated_updates.specs.Seen.{firmware_of}
use Rattle.simulated_updates.proofs.Composed.{comes, ends_well, keeps_image, keeps_whole}
use Rattle.simulated_updates.proofs.laws.the_simulated_module_always_has_an_image.Goals as goal

pub returns-clause-always : goal.returns-clause-always
returns-clause-always c file old new run updated has quiet = keeps_image file old new run has quiet (comes file old new run updated)

pub returns-clause-boots : goal.returns-clause-boots
returns-clause-boots c file old new run after updated has quiet loses =
    boots_image (firmware_of new.module.firmware) after loses (keeps_image file old new run has quiet (comes file old new run updated))

pub returns-clause-whole : goal.returns-clause-whole
returns-clause-whole c file old new run updated quiet = keeps_whole file old new run quiet (comes file old new run updated)

pub returns-clause-ends : goal.returns-clause-ends
returns-clause-ends c file old new run known updated quiet well = ends_well file old new run known quiet well (comes file old new run updated)
