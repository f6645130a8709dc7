-- The Applications that a plan uses, with the names of their interfaces. (SFF-8024, section 4; the lines are this
-- project's own)
use Rattle.std.specs.Prelude.{ℕ, ◌==◌, Bool, List, [], ◌∷◌, ◌++◌, codes, filter, map}
use Rattle.std.specs.List.{list_any}
use Rattle.std.specs.Fmt.{decimal}
use Rattle.hex.specs.Hex.{encode_lower}
use Rattle.applications.specs.declared.app.App.{App}
use Rattle.plan_certificate.specs.declared.path.Path.{Path}
use Rattle.code_names.specs.declared.table.Table.TheVariants.{HostInterfaces}
use Rattle.code_names.specs.MediaInterfaces.{media_interface_name}
use Rattle.code_names.specs.Names.{name_in}
use Rattle.code_names.specs.Rows.{Said, named, reserved, vendor_specific, not_listed, text_of}

-- a code, and why it has no name
unfoldable pub unnamed_text : Said → ℕ → List ℕ
unnamed_text said code = encode_lower (code ∷ []) ++ codes "h (" ++ text_of said ++ codes ")"

-- an interface by its name, if it has one
abbrev pub interface_text : Said → ℕ → List ℕ
interface_text (named text) code = text
interface_text reserved code = unnamed_text reserved code
interface_text vendor_specific code = unnamed_text vendor_specific code
interface_text not_listed code = unnamed_text not_listed code

unfoldable pub app_line : ℕ → App → List ℕ
app_line media_type app =
    codes "app "
    ++ decimal app.number
    ++ codes ": "
    ++ interface_text (name_in HostInterfaces app.host_id) app.host_id
    ++ codes " to "
    ++ interface_text (media_interface_name media_type app.media_id) app.media_id

-- some path is of the Application
abbrev pub is_used : List Path → App → Bool
is_used paths app = list_any (λ (path : Path). path.app == app.number) paths

unfoldable pub app_lines : ℕ → List Path → List App → List (List ℕ)
app_lines media_type paths apps = map (app_line media_type) (filter (is_used paths) apps)
