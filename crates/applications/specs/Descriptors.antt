-- The Applications of a module, from its descriptors: numbers 1 to 8 are described in lower memory, 9 to 15 on page
-- 01h, and the first HostInterfaceID FFh ends the list. (docs/fields.md, "Applications"; OIF-CMIS-05.0, chapter 8 "Module
-- Management Memory Map", "Applications Advertising", "Additional Application Descriptors" and "Media Lane Assignment
-- Advertising")
use Rattle.std.specs.Prelude.{ℕ, ◌-◌, ◌==◌, ◌&&◌, Bool, not, nat_le, if◌then◌else◌, List, map, take_while}
use Rattle.std.specs.List.{range_with_len}
use Rattle.paged_memory.specs.Images.{Memory}
use Rattle.field_tables.specs.declared.field.Field.TheVariants as fields
use Rattle.field_tables.specs.declared.table.cmis.CmisField.{CmisField}
use Rattle.field_tables.specs.declared.table.cmis.CmisField.TheVariants as cmis
use Rattle.field_tables.specs.CmisRows.{row_of}
use Rattle.field_tables.specs.LaneSets.{lanes_in}
use Rattle.field_tables.specs.Readings.{is_of_bytes, number_at}
use Rattle.applications.specs.declared.app.App.{App}

-- what the descriptor of this number has in a column: of numbers 1 to 8 in the first field, of 9 to 15 in the other
abbrev pub described : Memory → CmisField → CmisField → ℕ → ℕ
described memory first more number = if nat_le number 8 then number_at memory (fields.Cmis first) number else number_at memory (fields.Cmis more) (number - 8)

-- so many numbers of at most a byte
abbrev pub is_column : CmisField → ℕ → Bool
is_column field count = is_of_bytes (row_of field) && (row_of field).count == count

unfoldable pub app_at : Memory → ℕ → App
app_at memory number = record {
  number = number;
  host_id = described memory cmis.AppHost cmis.AppHostMore number;
  media_id = described memory cmis.AppMedia cmis.AppMediaMore number;
  host_lanes = described memory cmis.AppHostLanes cmis.AppHostLanesMore number;
  media_lanes = described memory cmis.AppMediaLanes cmis.AppMediaLanesMore number;
  host_starts = lanes_in (described memory cmis.AppHostStarts cmis.AppHostStartsMore number);
  media_starts = lanes_in (number_at memory (fields.Cmis cmis.MediaStarts) number);
}

-- FFh ends the list
abbrev pub is_listed : App → Bool
is_listed app = not (app.host_id == 255)

unfoldable pub apps_of : Memory → List App
apps_of memory = take_while is_listed (map (app_at memory) (range_with_len 1 15))
