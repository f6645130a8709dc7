-- The names of codes for C: of a table by its number, of media interfaces by the media type of their module. (include/dovecounter.h,
-- "Names of codes"; this project's own)
use Rattle.std.specs.Prelude.{ℕ, ◌==◌, if◌then◌else◌, List, Option, Some, None, option_map}
use Rattle.code_names.specs.MediaInterfaces.{media_interface_name}
use Rattle.code_names.specs.Names.{name_in}
use Rattle.code_names.specs.Rows.{text_of}
use Rattle.code_names.specs.declared.table.Table.{Table}
use Rattle.code_names.specs.declared.table.Table.TheVariants.{Identifiers, Connectors, Sff8472Encodings, Sff8636Encodings, ExtendedCompliance, HostInterfaces, MultiModeMedia, SingleModeMedia, PassiveCopper, ActiveCables, BaseTMedia, MediaTypes, MediaTechnologies, ModuleFaults, Durations, SquelchMethods, OutputEqualizers, Sff8636Revisions, Sff8636RateSelects, Sff8636Compliance, InfinibandSpeeds, Sff8472ExtendedIdentifiers, Sff8472Revisions, Sff8472RateSelects, Sff8472Compliance, SfpPassiveCables, SfpActiveCables}

unfoldable pub table_by : ℕ → Option Table
table_by number =
    if number == 1 then Some Identifiers
    else if number == 2 then Some Connectors
    else if number == 3 then Some Sff8472Encodings
    else if number == 4 then Some Sff8636Encodings
    else if number == 5 then Some ExtendedCompliance
    else if number == 6 then Some HostInterfaces
    else if number == 7 then Some MultiModeMedia
    else if number == 8 then Some SingleModeMedia
    else if number == 9 then Some PassiveCopper
    else if number == 10 then Some ActiveCables
    else if number == 11 then Some BaseTMedia
    else if number == 12 then Some MediaTypes
    else if number == 13 then Some MediaTechnologies
    else if number == 14 then Some ModuleFaults
    else if number == 15 then Some Durations
    else if number == 16 then Some SquelchMethods
    else if number == 17 then Some OutputEqualizers
    else if number == 18 then Some Sff8636Revisions
    else if number == 19 then Some Sff8636RateSelects
    else if number == 20 then Some Sff8636Compliance
    else if number == 21 then Some InfinibandSpeeds
    else if number == 22 then Some Sff8472ExtendedIdentifiers
    else if number == 23 then Some Sff8472Revisions
    else if number == 24 then Some Sff8472RateSelects
    else if number == 25 then Some Sff8472Compliance
    else if number == 26 then Some SfpPassiveCables
    else if number == 27 then Some SfpActiveCables
    else None

-- what a table says of a code, in words; nothing if there is no such table
abbrev pub code_text : ℕ → ℕ → Option (List ℕ)
code_text table code = option_map (λ (t : Table). text_of (name_in t code)) (table_by table)

-- what is said of a media interface, in words
abbrev pub media_text : ℕ → ℕ → List ℕ
media_text media_type code = text_of (media_interface_name media_type code)
