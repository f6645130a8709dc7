use Rattle.simulated_updates.proofs.Succeeds.{comes_to_an_end}
use Rattle.simulated_updates.proofs.laws.the_simulated_module_can_be_updated.Goals as goal

pub returns : goal.returns
returns c old image file more few = comes_to_an_end old image file more few
