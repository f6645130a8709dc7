-- What becomes of a port by a story: each of its calls gives exactly this. (this project's own)
use Rattle.std.specs.Prelude.{◌≡◌, ◌⊎◌, false, [], ◌∷◌, Some}
use Rattle.port_manager.specs.declared.port.Port.{Port}
use Rattle.port_manager.specs.declared.port.Outstanding.TheVariants as outstanding
use Rattle.conversations.specs.declared.next.Next.TheVariants.{Do}
use Rattle.port_manager.specs.declared.times.Times.{Times}
use Rattle.port_manager.specs.Ports.{IsAwaited, IsTaken, absent, acknowledged_to, answered, asked_for, asking, awaited, holding, silent, next_at, plugged, pulled, reconsidered}
use Rattle.port_manager.specs.Flags.{no_flags}
use Rattle.port_manager.specs.Stories.{Event, Story, plug, pull, reconsider, acknowledge, ask, make, drop, hold, demand, hear}

abbrev pub IsWaitedFor : Port → Type 0
IsWaitedFor port = (port.outstanding ≡ outstanding.Awaited) ⊎ (port.outstanding ≡ outstanding.Stale)

-- one port becomes another by an event
abbrev pub Becomes : Port → Event → Port → Type 0
Becomes port (plug now) later = later ≡ plugged now port
Becomes port pull later = later ≡ pulled port
Becomes port reconsider later = later ≡ reconsidered port
Becomes port (hold held) later = later ≡ holding held port
Becomes port (demand request) later = later ≡ asked_for request port
Becomes port (acknowledge past) later = later ≡ acknowledged_to past port
Becomes port (hear alive began) later = later ≡ silent alive began port
Becomes port (ask op moment) later = (next_at port moment ≡ Do op) × (later ≡ asking port (Do op))
Becomes port (make op reply wanted now result) later =
    IsWaitedFor port × (awaited port ≡ Some op) × IsAwaited port reply × IsTaken port reply wanted now result later
Becomes port drop later = (port.outstanding ≡ outstanding.Forsaken) × (later ≡ answered port)

-- it becomes another by a story
abbrev pub Runs : Port → Story → Port → Type 0
Runs port [] later = later ≡ port
Runs port (event ∷ before) later = (between : Port) × Runs port before between × Becomes between event later

-- an empty port does
abbrev pub Reaches : Story → Port → Type 0
Reaches story port = (times : Times) × Runs (absent times outstanding.Nothing no_flags false) story port
