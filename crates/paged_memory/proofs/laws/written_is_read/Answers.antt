use Rattle.paged_memory.proofs.Writing.{written_lines}
use Rattle.paged_memory.proofs.laws.written_is_read.Goals as goal

pub returns : goal.returns
returns c = written_lines
