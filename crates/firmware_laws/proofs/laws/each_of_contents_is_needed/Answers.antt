use Rattle.firmware_laws.proofs.NeededContents.{starts_needed}
use Rattle.firmware_laws.proofs.NeededMemory.{blocks_needed, completes_needed, others_needed}
use Rattle.firmware_laws.proofs.laws.each_of_contents_is_needed.Goals as goal

pub returns-clause-starts : goal.returns-clause-starts
returns-clause-starts c = starts_needed

pub returns-clause-blocks : goal.returns-clause-blocks
returns-clause-blocks c = blocks_needed

pub returns-clause-others : goal.returns-clause-others
returns-clause-others c = others_needed

pub returns-clause-completes : goal.returns-clause-completes
returns-clause-completes c = completes_needed
