-- A module that is left alone is read and judged anew. (this project's own)
use Rattle.std.specs.Prelude.{◌≡◌, ◌≤◌, ◌==◌, ℕ, false}
use Rattle.bus_model.specs.declared.operation.Op.{Op}
use Rattle.conversations.specs.declared.next.Next.TheVariants.{Do}
use Rattle.port_manager.specs.declared.deciding.LeftBecause.{LeftBecause}
use Rattle.port_manager.specs.declared.port.Outstanding.TheVariants as outstanding
use Rattle.port_manager.specs.declared.port.Port.{Port}
use Rattle.port_manager.specs.declared.port.Stage.TheVariants as stages
use Rattle.port_manager.specs.Ports.{next_at, rechecked}
use Rattle.port_manager.specs.Runs.{Reaches}
use Rattle.port_manager.specs.Stories.{Story}

-- once the moment has come, unless the port is to hold still, or only somebody can ask for it: then an operation is asked for
abbrev pub IsReadAgain : Type 0
IsReadAgain =
    (story : Story) (port : Port) (reason : LeftBecause) (now : ℕ) → Reaches story port → port.stage ≡ stages.Left reason → port.outstanding ≡ outstanding.Nothing → port.held ≡ false
    → (port.times.recheck == 0) ≡ false → port.recheck_at ≤ now → port.due ≤ now
    → (op : Op) × (next_at (rechecked now port) now ≡ Do op)
