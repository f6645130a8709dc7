-- The first observation, after places that have none.
use Rattle.std.proofs.Common.{◌≡◌, ◌<◌, ◌≤◌, ℕ, None, Some}
use Rattle.paged_memory.specs.Images.{Memory}
use Rattle.observables.specs.declared.observation.Observation.{Observation}
use Rattle.observables.specs.Observations.{IsNextObservation, all_places, observation_at}

pub next : (memory : Memory) (from place : ℕ) (found : Observation) → observation_at memory place ≡ Some found → from ≤ place → place < all_places
    → ((k : ℕ) → from ≤ k → k < place → observation_at memory k ≡ None) → IsNextObservation memory from (place, found)
next memory from place found value above within before = record { is_there = value; not_before = above; within = within; first = before }
