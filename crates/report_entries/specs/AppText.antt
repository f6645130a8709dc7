-- How an Application is shown. (docs/formats.md, "apps"; OIF-CMIS-05.0, chapter 8 "Module Management Memory Map",
-- "Applications Advertising")
use Rattle.std.specs.Prelude.{ℕ, Bool, if◌then◌else◌, List, ◌∷◌, ◌++◌, codes}
use Rattle.std.specs.Fmt.{decimal}
use Rattle.field_tables.specs.LaneSets.{byte_of}
use Rattle.applications.specs.Usable.{is_usable}
use Rattle.applications.specs.declared.app.App.{App}
use Rattle.report_entries.specs.Lines.{line}
use Rattle.report_entries.specs.Shown.{byte_code}

abbrev pub usable_word : Bool → List ℕ
usable_word usable = if usable then codes "usable" else codes "unusable"

-- what an Application is
unfoldable pub kind_text : App → List ℕ
kind_text app = decimal app.number ++ codes " host " ++ byte_code app.host_id ++ codes " media " ++ byte_code app.media_id

-- how many lanes it takes
unfoldable pub lanes_text : App → List ℕ
lanes_text app = codes "host-lanes " ++ decimal app.host_lanes ++ codes " media-lanes " ++ decimal app.media_lanes

-- where it may begin
unfoldable pub starts_text : App → List ℕ
starts_text app = codes "host-starts " ++ byte_code (byte_of app.host_starts) ++ codes " media-starts " ++ byte_code (byte_of app.media_starts)

unfoldable pub app_text : App → List ℕ
app_text app = kind_text app ++ 32 ∷ lanes_text app ++ 32 ∷ starts_text app ++ 32 ∷ usable_word (is_usable app)

unfoldable pub app_line : List ℕ → App → List ℕ
app_line name app = line name (app_text app)
