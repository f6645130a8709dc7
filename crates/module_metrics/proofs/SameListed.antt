-- What a module lists itself is the same of memories that have the same instances.
use Rattle.std.proofs.Common.{◌≡◌, ◌≤◌, ℕ}
use Rattle.observables.specs.Observations.{monitor_places, observation_at}
use Rattle.paged_memory.specs.Images.{Memory}
use Rattle.reports.specs.Families.{detail_fault}
use Rattle.observable_reports.proofs.ListedInstances as instances
use Rattle.module_metrics.specs.Unless.{unless}
use Rattle.module_metrics.specs.VdmMetrics.{vdm_seen}

module _ (a b : Memory) (same : (place : ℕ) → monitor_places ≤ place → observation_at a place ≡ observation_at b place) where
  pub listed_same : detail_fault a ≡ detail_fault b → vdm_seen a ≡ vdm_seen b
  unfolding vdm_seen
  listed_same fault = λ i. unless (fault i) (instances.listed_same a b same i)
