use Rattle.std.specs.Prelude.{true}
use Rattle.command_block.specs.Deliveries.{needed_after}
use Rattle.simulated_updates.proofs.Courses.{happens, unpaged, unpaused}
use Rattle.simulated_updates.proofs.Stands.{stands}
use Rattle.simulated_updates.proofs.laws.the_simulated_module_shows_what_is_its_own.Goals as goal

pub returns : goal.returns
returns c sent timing patience own paged events next due idle old new each selects pauses becomes =
    stands sent old timing own new each
    (unpaged true true (λ before. needed_after sent timing before) paged own old new selects
    (unpaused patience events paged next due idle old new pauses (happens events old new becomes)))
