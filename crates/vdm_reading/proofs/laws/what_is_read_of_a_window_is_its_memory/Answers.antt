use Rattle.vdm_reading.proofs.WindowLaws.{same, whole}
use Rattle.vdm_reading.proofs.laws.what_is_read_of_a_window_is_its_memory.Goals as goal

pub returns-clause-same : goal.returns-clause-same
returns-clause-same c = same

pub returns-clause-whole : goal.returns-clause-whole
returns-clause-whole c = whole
