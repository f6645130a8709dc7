-- The Applications of a CMIS module, by name. (docs/details.md; OIF-CMIS-05.0, "Applications Advertising" and "Media Type
-- Encodings")
use Rattle.std.specs.Prelude.{ℕ, ◌==◌, ◌&&◌, not, nat_lt, Bool, if◌then◌else◌, is_some, List, [], ◌∷◌, ◌++◌, codes}
use Rattle.std.specs.List.{flat_map}
use Rattle.applications.specs.Descriptors.{apps_of}
use Rattle.applications.specs.Refusals.{page_fault}
use Rattle.applications.specs.declared.app.App.{App}
use Rattle.code_names.specs.MediaInterfaces.{media_interface_name}
use Rattle.code_names.specs.Rows.{text_of}
use Rattle.code_names.specs.declared.table.Table.TheVariants.{HostInterfaces}
use Rattle.field_tables.specs.declared.field.Field.TheVariants as fields
use Rattle.field_tables.specs.declared.table.cmis.CmisField.TheVariants as cmis
use Rattle.field_tables.specs.Readings.{number}
use Rattle.module_decoding.specs.CmisPages.{is_flat}
use Rattle.paged_memory.specs.Images.{Memory}
use Rattle.report_entries.specs.Entries.{Entry, entry, fact}
use Rattle.report_entries.specs.Facts as facts
use Rattle.report_entries.specs.Facts.{Fact}
use Rattle.report_entries.specs.declared.fact.Place.TheVariants as place
use Rattle.module_details.specs.Details.{named_fact}

abbrev pub medium : ℕ → ℕ → Fact
medium media code = facts.named code (text_of (media_interface_name media code))

-- an entry of an Application
unfoldable pub app_entry : List ℕ → App → Fact → Entry
app_entry name app f = entry name (fact (place.App app.number) f)

unfoldable pub host_entry : App → Entry
host_entry app = app_entry (codes "host-interface") app (named_fact HostInterfaces app.host_id)

unfoldable pub medium_entry : ℕ → App → Entry
medium_entry media app = app_entry (codes "media-interface") app (medium media app.media_id)

unfoldable pub interface_entries : ℕ → App → List Entry
interface_entries media app = host_entry app ∷ medium_entry media app ∷ []

unfoldable pub lane_entries : App → List Entry
lane_entries app =
    app_entry (codes "host-lanes") app (facts.number app.host_lanes)
    ∷ app_entry (codes "media-lanes") app (facts.number app.media_lanes)
    ∷ []

-- page 01h says on which media lanes it may begin
abbrev pub media_start_entries : Bool → App → List Entry
media_start_entries flat app = if flat then [] else app_entry (codes "media-starts") app (facts.lane_set app.media_starts) ∷ []

unfoldable pub start_entries : Bool → App → List Entry
start_entries flat app = app_entry (codes "host-starts") app (facts.lane_set app.host_starts) ∷ media_start_entries flat app

-- lower memory, all that describes those of a module with flat memory, has those of numbers 1 to 8
unfoldable pub app_entries : Bool → ℕ → App → List Entry
app_entries flat media app =
    if flat && nat_lt 8 app.number then [] else interface_entries media app ++ (lane_entries app ++ start_entries flat app)

-- they are on pages that are not read
abbrev pub are_unread : Memory → Bool
are_unread memory = not (is_flat memory) && is_some (page_fault memory)

unfoldable pub apps_entries : Memory → List Entry
apps_entries memory =
    if are_unread memory then [] else flat_map (app_entries (is_flat memory) (number memory (fields.Cmis cmis.MediaType))) (apps_of memory)
