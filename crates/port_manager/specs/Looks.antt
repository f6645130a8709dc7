-- A look at a module that came up, or is as it is wanted: its lower memory, and page 11h. (OIF-CMIS-05.0, chapter 8 "Module Management Memory
-- Map": module state of the lower memory; page 11h)
use Rattle.std.specs.Prelude.{◌≡◌, ◌==◌, ◌&&◌, ℕ, Bool, false, List, [], ◌∷◌, slice_index, Option, Some, None, if◌then◌else◌}
use Rattle.bus_model.specs.declared.device.Dev.TheVariants.{A0}
use Rattle.bus_model.specs.declared.operation.Op.{Op}
use Rattle.bus_model.specs.declared.operation.Op.TheVariants.{Fetch}
use Rattle.bus_model.specs.declared.operation.Reply.{Reply}
use Rattle.bus_model.specs.declared.operation.Reply.TheVariants.{Bytes, Done, Refused}
use Rattle.conversations.specs.declared.event.Event.TheVariants.{Made, Waited, Lacked, Asked}
use Rattle.conversations.specs.declared.next.Next.{Next}
use Rattle.conversations.specs.declared.next.Next.TheVariants.{Do, End}
use Rattle.conversations.specs.Events.{Events}
use Rattle.field_tables.specs.declared.field.Field.TheVariants as fields
use Rattle.field_tables.specs.declared.table.cmis.CmisField.TheVariants as cmis
use Rattle.field_tables.specs.FieldValues.{number_in_byte}
use Rattle.port_manager.specs.declared.deciding.Goal.{Goal}
use Rattle.port_manager.specs.declared.look.Look.{Look}
use Rattle.port_manager.specs.declared.look.LookStage.{LookStage}
use Rattle.port_manager.specs.declared.look.LookStage.TheVariants.{Lower, Lanes, Seen}
use Rattle.port_manager.specs.Goals.{are_up, has_all}

abbrev pub begun : Goal → Look
begun goal = record { goal = goal; stage = Lower }

abbrev pub fetch_half : ℕ → Op
fetch_half offset = Fetch A0 offset 128

abbrev pub wants_at : LookStage → Next Bool
wants_at Lower = Do (fetch_half 0)
wants_at Lanes = Do (fetch_half 128)
wants_at (Seen wanted) = End wanted

abbrev pub wants : Look → Next Bool
wants look = wants_at look.stage

abbrev pub page_at : LookStage → Option ℕ
page_at Lower = None
page_at Lanes = Some 0x11
page_at (Seen wanted) = None

abbrev pub needed : Look → Option ℕ
needed look = page_at look.stage

-- a module that is no longer ready is not as it is wanted
abbrev pub below : List ℕ → LookStage
below lower = if number_in_byte (fields.Cmis cmis.ModuleState) (slice_index lower 3) == 3 then Lanes else Seen false

-- all lanes have their control bytes, and those of the goal are up
abbrev pub above : Goal → List ℕ → LookStage
above goal page = Seen (has_all page goal.control && are_up page goal.control goal.lanes)

abbrev pub stage_after : Goal → LookStage → Reply → LookStage
stage_after goal Lower (Bytes bytes) = below bytes.items
stage_after goal Lower Done = Lower
stage_after goal Lower Refused = Lower
stage_after goal Lanes (Bytes bytes) = above goal bytes.items
stage_after goal Lanes Done = Lanes
stage_after goal Lanes Refused = Lanes
stage_after goal (Seen wanted) reply = Seen wanted

abbrev pub after : Look → Reply → Look
after look reply = record { goal = look.goal; stage = stage_after look.goal look.stage reply }

-- after these events
abbrev pub looked : Goal → Events → Look
looked goal [] = begun goal
looked goal (Made step ∷ before) = after (looked goal before) step.reply
looked goal (Waited time ∷ before) = looked goal before
looked goal (Lacked page ∷ before) = looked goal before
looked goal (Asked number ∷ before) = looked goal before

abbrev pub IsTold : Events → Look → Type 0
IsTold events look = look ≡ looked look.goal events

abbrev pub ends_after : Goal → Events → Bool → Type 0
ends_after goal events end = wants (looked goal events) ≡ End end

abbrev pub goes_on_after : Goal → Events → Type 0
goes_on_after goal events = (op : Op) × (wants (looked goal events) ≡ Do op)

abbrev pub needed_after : Goal → Events → Option ℕ
needed_after goal events = needed (looked goal events)
