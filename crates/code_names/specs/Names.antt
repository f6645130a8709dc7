-- What is said of a code: the tables by what they name, and a code's row in one. (SFF-8024, section 4; this project's own, what is
-- said of a code that no row has)
use Rattle.std.specs.Prelude.{◌≡◌, ℕ, List, true, find, option_map, Contains}
use Rattle.std.specs.Option.{unwrap_or}
use Rattle.code_names.specs.declared.table.Table.{Table}
use Rattle.code_names.specs.declared.table.Table.TheVariants.{Identifiers, Connectors, Sff8472Encodings, Sff8636Encodings, ExtendedCompliance, HostInterfaces, MultiModeMedia, SingleModeMedia, PassiveCopper, ActiveCables, BaseTMedia, MediaTypes, MediaTechnologies, ModuleFaults, Durations, SquelchMethods, OutputEqualizers, Sff8636Revisions, Sff8636RateSelects, Sff8636Compliance, InfinibandSpeeds, Sff8472ExtendedIdentifiers, Sff8472Revisions, Sff8472RateSelects, Sff8472Compliance, SfpPassiveCables, SfpActiveCables}
use Rattle.code_names.specs.Rows.{Row, Said, not_listed, row_has}
use Rattle.code_names.specs.Identifiers.{identifier_names}
use Rattle.code_names.specs.Connectors.{connector_names}
use Rattle.code_names.specs.Sff8472Encodings.{sff8472_encoding_names}
use Rattle.code_names.specs.Sff8636Encodings.{sff8636_encoding_names}
use Rattle.code_names.specs.ExtendedCompliance.{extended_compliance_names}
use Rattle.code_names.specs.HostInterfaces.{host_interface_names}
use Rattle.code_names.specs.MultiModeMedia.{multi_mode_media_names}
use Rattle.code_names.specs.SingleModeMedia.{single_mode_media_names}
use Rattle.code_names.specs.PassiveCopper.{passive_copper_names}
use Rattle.code_names.specs.ActiveCables.{active_cable_names}
use Rattle.code_names.specs.BaseTMedia.{base_t_media_names}
use Rattle.code_names.specs.MediaTypes.{media_type_names}
use Rattle.code_names.specs.MediaTechnologies.{media_technology_names}
use Rattle.code_names.specs.ModuleFaults.{module_fault_names}
use Rattle.code_names.specs.Durations.{duration_names}
use Rattle.code_names.specs.SquelchMethods.{squelch_method_names}
use Rattle.code_names.specs.OutputEqualizers.{output_equalizer_names}
use Rattle.code_names.specs.Sff8636Revisions.{sff8636_revision_names}
use Rattle.code_names.specs.Sff8636RateSelects.{sff8636_rate_select_names}
use Rattle.code_names.specs.Sff8636Compliance.{sff8636_compliance_names}
use Rattle.code_names.specs.InfinibandSpeeds.{infiniband_speed_names}
use Rattle.code_names.specs.Sff8472ExtendedIdentifiers.{sff8472_extended_identifier_names}
use Rattle.code_names.specs.Sff8472Revisions.{sff8472_revision_names}
use Rattle.code_names.specs.Sff8472RateSelects.{sff8472_rate_select_names}
use Rattle.code_names.specs.Sff8472Compliance.{sff8472_compliance_names}
use Rattle.code_names.specs.SfpPassiveCables.{sfp_passive_cable_names}
use Rattle.code_names.specs.SfpActiveCables.{sfp_active_cable_names}

abbrev pub rows_of : Table → List Row
rows_of Identifiers = identifier_names
rows_of Connectors = connector_names
rows_of Sff8472Encodings = sff8472_encoding_names
rows_of Sff8636Encodings = sff8636_encoding_names
rows_of ExtendedCompliance = extended_compliance_names
rows_of HostInterfaces = host_interface_names
rows_of MultiModeMedia = multi_mode_media_names
rows_of SingleModeMedia = single_mode_media_names
rows_of PassiveCopper = passive_copper_names
rows_of ActiveCables = active_cable_names
rows_of BaseTMedia = base_t_media_names
rows_of MediaTypes = media_type_names
rows_of MediaTechnologies = media_technology_names
rows_of ModuleFaults = module_fault_names
rows_of Durations = duration_names
rows_of SquelchMethods = squelch_method_names
rows_of OutputEqualizers = output_equalizer_names
rows_of Sff8636Revisions = sff8636_revision_names
rows_of Sff8636RateSelects = sff8636_rate_select_names
rows_of Sff8636Compliance = sff8636_compliance_names
rows_of InfinibandSpeeds = infiniband_speed_names
rows_of Sff8472ExtendedIdentifiers = sff8472_extended_identifier_names
rows_of Sff8472Revisions = sff8472_revision_names
rows_of Sff8472RateSelects = sff8472_rate_select_names
rows_of Sff8472Compliance = sff8472_compliance_names
rows_of SfpPassiveCables = sfp_passive_cable_names
rows_of SfpActiveCables = sfp_active_cable_names

-- what the row of the code says
abbrev pub name_in : Table → ℕ → Said
name_in table code = unwrap_or (option_map (λ row. row.said) (find (row_has code) (rows_of table))) not_listed

-- no code has two rows in a table
abbrev pub EachCodeHasOneRow : Type 0
EachCodeHasOneRow = (table : Table) (code : ℕ) (one other : Row) → Contains (rows_of table) one → Contains (rows_of table) other
    → row_has code one ≡ true → row_has code other ≡ true → one ≡ other
