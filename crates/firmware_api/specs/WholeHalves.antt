-- The half that a reply to a reading makes whole. (docs/bus.md, "Reading an image"; this project's own)
use Rattle.std.specs.Prelude.{◌≡◌, ◌≤◌, ◌||◌, Option, None, is_some, if◌then◌else◌}
use Rattle.std.specs.FinMap as map
use Rattle.std.specs.Option.{option_map}
use Rattle.bus_model.specs.declared.operation.Reply.{Reply}
use Rattle.bus_model.specs.declared.operation.Reply.TheVariants.{Bytes}
use Rattle.paged_memory.specs.declared.key.Key.{Key}
use Rattle.paged_memory.specs.KnownPages.{is_awaited, missing_page}
use Rattle.module_reading.specs.ImageReading.{in_hand}
use Rattle.module_reading.specs.Regions.{key_of}
use Rattle.firmware_api.specs.declared.half.HalfBytes.{HalfBytes}
use Rattle.firmware_api.specs.declared.kept.Kept.{Kept}
use Rattle.firmware_api.specs.declared.kept.Kept.TheVariants.{OfReading}
use Rattle.port_manager.specs.Jobs.{paged_halves}
use Rattle.firmware_api.specs.KeptConversations.{OnHalves, halves_of, pieces_after}
use Rattle.firmware_api.specs.SavedConversations.{HasHalf}

abbrev pub if_bytes : Option Key → Reply → Option Key
if_bytes key (Bytes bytes) = key
if_bytes key reply = None

-- the place of the half that a reply gives; none if it gives none, or is one to the selection of a page
abbrev pub kept : OnHalves → Reply → Option Key
kept on reply =
    if is_awaited on.selection || is_some (missing_page on.selection (paged_halves.page on.conversation)) then None
    else if_bytes (option_map key_of (in_hand on.conversation)) reply

-- no more than a reading reads
abbrev pub HasFewHalves : Kept → Type 0
HasFewHalves (OfReading read) = map.len (halves_of read).image ≤ 5
HasFewHalves other = Unit {0}

-- the half is what the reply adds to a reading; to others it adds none
abbrev pub IsHalfBy : Option HalfBytes → Kept → Reply → Type 0
IsHalfBy half (OfReading read) reply =
    HasHalf half (halves_of read) (pieces_after read.conversation.conversation reply).conversation.conversation
IsHalfBy half other reply = half ≡ None
