use Rattle.paged_memory.proofs.WindowRuns.{same_memory}
use Rattle.paged_memory.proofs.laws.memory_stays.Goals as goal

pub returns : goal.returns
returns c = same_memory
