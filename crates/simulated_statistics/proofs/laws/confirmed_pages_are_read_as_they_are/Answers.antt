use Rattle.simulated_statistics.proofs.AsWindow.{reads_elsewhere, reads_unasked}
use Rattle.simulated_statistics.proofs.laws.confirmed_pages_are_read_as_they_are.Goals as goal

pub returns-clause-elsewhere : goal.returns-clause-elsewhere
returns-clause-elsewhere c = reads_elsewhere

pub returns-clause-unasked : goal.returns-clause-unasked
returns-clause-unasked c = reads_unasked
