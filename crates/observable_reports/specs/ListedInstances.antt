-- What a CMIS module lists itself and advertises. (OIF-CMIS-05.0, "Versatile Diagnostics Monitoring"; this project's own numbers)
use Rattle.std.specs.Prelude.{ℕ, zero, suc, ◌+◌, if◌then◌else◌, List, [], ◌∷◌, ◌++◌, Option, Some, None}
use Rattle.paged_memory.specs.Images.{Memory}
use Rattle.observables.specs.Observations.{instance_places, monitor_places, observation_at}
use Rattle.observables.specs.declared.observation.Observation.{Observation}
use Rattle.observable_reports.specs.declared.listed_instances.Seen.{Seen}

-- if the module advertises it
abbrev pub listed : ℕ → Option Observation → List Seen
listed number None = []
listed number (Some observation) = if observation.advertised then record { number = number; observation = observation } ∷ [] else []

-- of the instances of four banks, of which the first is 1; in the list of what is measured they come after the monitors
unfoldable pub listed_before : Memory → ℕ → List Seen
listed_before memory zero = []
listed_before memory (suc n) = listed_before memory n ++ listed (suc n) (observation_at memory (monitor_places + n))

abbrev pub all_listed : Memory → List Seen
all_listed memory = listed_before memory instance_places
