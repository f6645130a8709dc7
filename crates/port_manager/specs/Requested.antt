-- What somebody asks of a port is done, or something fails. (this project's own)
use Rattle.std.specs.Prelude.{◌≡◌, ◌<◌, ◌+◌, ◌*◌, true, false}
use Rattle.port_manager.specs.declared.port.Outstanding.TheVariants as outstanding
use Rattle.port_manager.specs.declared.port.Port.{Port}
use Rattle.port_manager.specs.declared.request.Request.{Request}
use Rattle.port_manager.specs.Ports.{asked_for, is_there}
use Rattle.port_manager.specs.Progress.{IsGoingOn, IsUpStage, made_in, paused_in}
use Rattle.port_manager.specs.Requests.{is_sleep}
use Rattle.port_manager.specs.Runs.{Runs}
use Rattle.port_manager.specs.Stories.{Story}

-- unless something fails, or the module is left alone, which ends a story that goes on: once so many operations were made, the module is
-- up; and if it was to be in low power, so many are never made
abbrev pub IsRequestDone : Type 0
IsRequestDone =
    (port later : Port) (request : Request) (story : Story) → is_there port.stage ≡ true → port.outstanding ≡ outstanding.Nothing → Runs (asked_for request port) story later → IsGoingOn story
    → 65 + 3 * paused_in story < made_in story → IsUpStage later.stage × (is_sleep request ≡ false)
