-- One observable more is told, or there is none.
use Rattle.std.proofs.Common.{◌≡◌, inl, inr, ℕ, ◌+◌, ◌<◌, ◌≤◌, None}
use Rattle.paged_memory.specs.Images.{Memory}
use Rattle.observables.specs.declared.observation.Observation.{Observation}
use Rattle.observables.specs.Observations.{IsNextObservation, all_places, observation_at}
use Rattle.firmware_api.specs.declared.observable_numbers.ObservableNumbers.{ObservableNumbers}
use Rattle.firmware_api.specs.ObservableNumbers.{IsNext, observable_in}

pub filled : (memory : Memory) (from after found : ℕ) (seen : Observation) (before told : ObservableNumbers) → IsNextObservation memory from (found, seen)
    → told ≡ observable_in seen → after ≡ found + 1 → IsNext memory from after before told
filled memory from after found seen before told first numbers next =
    inl (record { found = found; seen = seen; first = first; numbers = numbers; next = next })

pub last : (memory : Memory) (from after : ℕ) (before told : ObservableNumbers) → ((k : ℕ) → from ≤ k → k < all_places → observation_at memory k ≡ None)
    → told ≡ before → after ≡ 0 → IsNext memory from after before told
last memory from after before told nothing kept next = inr (record { nothing = nothing; kept = kept; next = next })
