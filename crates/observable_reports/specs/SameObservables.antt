-- That what a module measures is told over a bus as it is told of the image.
-- (docs/formats.md, "observables"; docs/observables.md, "Frozen statistics"; docs/bus.md, "Reading an image"; this project's own)
use Rattle.std.specs.Prelude.{◌≡◌, ℕ, ◌<◌, List, [], Ok}
use Rattle.bus_model.specs.declared.script.Directive.{Directive}
use Rattle.bus_model.specs.Runs.{Seen}
use Rattle.bus_model.specs.ScriptedBus.{script_rules}
use Rattle.observables.specs.Observations.{monitor_places, observation_at}
use Rattle.paged_memory.specs.Images.{Memory}
use Rattle.paged_memory.specs.ImageText.{IsImage}
use Rattle.paged_memory.specs.Windows.{Windowed, started, window_conduct}
use Rattle.reports.specs.Families.{detail_fault}
use Rattle.observable_reports.specs.Answered.{json_of}
use Rattle.observable_reports.specs.FetchedObservables.{IsObserving}
use Rattle.observable_reports.specs.ObservationText.{observables_lines}
use Rattle.observable_reports.specs.OwnHalves.{own_halves}
use Rattle.observable_reports.specs.SameStatistics.{HasOwnStatistics}

-- whatever a script refuses: each monitor at a fixed place is as in the image
abbrev pub MonitorsSame : Type 0
MonitorsSame =
    (old new : Seen (List Directive × Windowed)) (memory all : Memory) → IsImage memory → old.state.1 ≡ started memory
    → IsObserving (script_rules window_conduct) old new (Ok all)
    → (place : ℕ) → place < monitor_places → observation_at (own_halves all) place ≡ observation_at (own_halves memory) place

-- the same is refused, or else the same lines and the same JSON are told, whatever is absent
pub record AreToldAlike (memory other : Memory) : Type 0 where
  pub fault : detail_fault memory ≡ detail_fault other
  pub lines : observables_lines memory ≡ observables_lines other
  pub json : json_of memory ≡ json_of other

-- without a script, all that a module measures is told as of the image
abbrev pub ObservablesWhole : Type 0
ObservablesWhole =
    (old new : Seen (List Directive × Windowed)) (memory all : Memory) → IsImage memory → HasOwnStatistics memory → old.state ≡ ([], started memory)
    → IsObserving (script_rules window_conduct) old new (Ok all) → AreToldAlike all memory
