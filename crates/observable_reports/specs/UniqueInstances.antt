-- That no two instances that a module lists itself have the same key in its details, and none has that of another line.
-- (docs/formats.md, "details"; this project's own)
use Rattle.std.specs.Prelude.{◌≢◌, ℕ, List, map}
use Rattle.std.specs.List.{AllByRecursion, AllPairs}
use Rattle.paged_memory.specs.Images.{Memory}
use Rattle.report_entries.specs.Entries.{Entry}
use Rattle.reports.specs.Details.{details_entries}
use Rattle.reports.specs.UniqueDetails.{entry_key}
use Rattle.observable_reports.specs.Details.{instance_key}
use Rattle.observable_reports.specs.ListedInstances.{all_listed}
use Rattle.observable_reports.specs.declared.listed_instances.Seen.{Seen}

pub record InstancesHaveUniqueKeys : Type 0 where
  pub among : (memory : Memory) → AllPairs (λ (one other : List ℕ). one ≢ other) (map instance_key (all_listed memory))
  pub beside : (memory : Memory) (seen : Seen) → AllByRecursion (λ (e : Entry). entry_key e ≢ instance_key seen) (details_entries memory)
