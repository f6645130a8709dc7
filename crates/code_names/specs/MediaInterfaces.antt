-- What is said of a media interface: its module's media type says which table has its name. (OIF-CMIS-05.0, "Media Type
-- Encodings"; SFF-8024, section 4)
use Rattle.std.specs.Prelude.{ℕ, ◌==◌, if◌then◌else◌, Option, Some, None}
use Rattle.code_names.specs.declared.table.Table.{Table}
use Rattle.code_names.specs.declared.table.Table.TheVariants.{MultiModeMedia, SingleModeMedia, PassiveCopper, ActiveCables, BaseTMedia}
use Rattle.code_names.specs.Names.{name_in}
use Rattle.code_names.specs.Rows.{Said, not_listed}

-- by MediaType
abbrev pub media_interface_table : ℕ → Option Table
media_interface_table media_type =
    if media_type == 1 then Some MultiModeMedia
    else if media_type == 2 then Some SingleModeMedia
    else if media_type == 3 then Some PassiveCopper
    else if media_type == 4 then Some ActiveCables
    else if media_type == 5 then Some BaseTMedia
    else None

-- without a table no code is listed
abbrev pub said_in : Option Table → ℕ → Said
said_in (Some table) code = name_in table code
said_in None code = not_listed

abbrev pub media_interface_name : ℕ → ℕ → Said
media_interface_name media_type code = said_in (media_interface_table media_type) code
