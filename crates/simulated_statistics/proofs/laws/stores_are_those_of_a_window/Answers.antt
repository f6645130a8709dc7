use Rattle.simulated_statistics.proofs.StoreLaws.{same_image, same_window}
use Rattle.simulated_statistics.proofs.laws.stores_are_those_of_a_window.Goals as goal

pub returns-clause-window : goal.returns-clause-window
returns-clause-window c = same_window

pub returns-clause-memory : goal.returns-clause-memory
returns-clause-memory c = same_image
