-- Where the half lies that the operation of a port fetches. (docs/bus.md, "Reading an image"; this project's own)
use Rattle.std.specs.Prelude.{◌||◌, Bool, ℕ, Option, None, Some, is_some, if◌then◌else◌}
use Rattle.std.specs.Option.{option_map}
use Rattle.bus_model.specs.declared.device.Dev.TheVariants.{A0}
use Rattle.conversations.specs.declared.on_page.OnPage.{OnPage}
use Rattle.paged_memory.specs.declared.key.Key.{Key}
use Rattle.paged_memory.specs.declared.page_addressing.KnownPage.{KnownPage}
use Rattle.paged_memory.specs.Keys.{lower_key, upper_key}
use Rattle.paged_memory.specs.KnownPages.{is_awaited, missing_page}
use Rattle.module_reading.specs.declared.halves.Halves.{Halves}
use Rattle.module_reading.specs.ImageReading as reading
use Rattle.module_reading.specs.Regions.{key_of}
use Rattle.port_manager.specs.declared.job.Job.{Job}
use Rattle.port_manager.specs.declared.job.Job.TheVariants.{Reading, Waking, Sleeping, Provisioning, Activating, Confirming, Watching}
use Rattle.port_manager.specs.declared.look.Look.{Look}
use Rattle.port_manager.specs.declared.look.LookStage.{LookStage}
use Rattle.port_manager.specs.declared.look.LookStage.TheVariants.{Lower, Lanes, Seen}
use Rattle.port_manager.specs.declared.port.Port.{Port}
use Rattle.port_manager.specs.declared.port.Stage.{Stage}
use Rattle.port_manager.specs.declared.port.Stage.TheVariants.{Absent, Left, Working}
use Rattle.port_manager.specs.Looks as looks

-- first the page is read back or selected
abbrev pub selects : KnownPage → Option ℕ → Bool
selects selection page = is_awaited selection || is_some (missing_page selection page)

abbrev pub place_of_reading : OnPage Halves → Option Key
place_of_reading on =
    if selects on.selection (reading.page_by (reading.in_hand on.conversation)) then None else option_map key_of (reading.in_hand on.conversation)

abbrev pub key_at : LookStage → Option Key
key_at Lower = Some (lower_key A0)
key_at Lanes = Some (upper_key A0 0 0x11)
key_at (Seen wanted) = None

abbrev pub place_of_look : OnPage Look → Option Key
place_of_look on = if selects on.selection (looks.needed on.conversation) then None else key_at on.conversation.stage

abbrev pub place_in : Job → Option Key
place_in (Reading job woken) = place_of_reading job.conversation.conversation
place_in (Waking job) = None
place_in (Sleeping job) = None
place_in (Provisioning job goal) = None
place_in (Activating job goal) = None
place_in (Confirming job) = place_of_look job.conversation.conversation
place_in (Watching job) = place_of_look job.conversation.conversation

abbrev pub place_at : Stage → Option Key
place_at Absent = None
place_at (Left reason) = None
place_at (Working job) = place_in job

-- the place of the half that the operation to be made fetches, if it fetches a whole one
abbrev pub place_of : Port → Option Key
place_of port = place_at port.stage
