-- No name of a code is longer than 256 bytes.
use Rattle.std.proofs.Common.{ℕ, Bool, true, false, not, List, [], ◌∷◌, length, Option, Some, None, refl, cond, find, nat_lt, option_map, ◌≤◌}
use Rattle.std.specs.Prelude.{◌≡◌, ◌≢◌, IfSome, IsTrue}
use Rattle.std.specs.Borrow.{Bor}
use Rattle.std.specs.List.{list_all}
use Rattle.std.specs.Option.{unwrap_or}
use Rattle.std.proofs.lemmas.Bool.{and_parts}
use Rattle.code_names.specs.Identifiers.{identifier_names}
use Rattle.code_names.specs.Connectors.{connector_names}
use Rattle.code_names.specs.Sff8472Encodings.{sff8472_encoding_names}
use Rattle.code_names.specs.Sff8636Encodings.{sff8636_encoding_names}
use Rattle.code_names.specs.ExtendedCompliance.{extended_compliance_names}
use Rattle.code_names.specs.HostInterfaces.{host_interface_names}
use Rattle.code_names.specs.MultiModeMedia.{multi_mode_media_names}
use Rattle.code_names.specs.SingleModeMedia.{single_mode_media_names}
use Rattle.code_names.specs.PassiveCopper.{passive_copper_names}
use Rattle.code_names.specs.ActiveCables.{active_cable_names}
use Rattle.code_names.specs.BaseTMedia.{base_t_media_names}
use Rattle.code_names.specs.MediaTypes.{media_type_names}
use Rattle.code_names.specs.MediaTechnologies.{media_technology_names}
use Rattle.code_names.specs.ModuleFaults.{module_fault_names}
use Rattle.code_names.specs.Durations.{duration_names}
use Rattle.code_names.specs.SquelchMethods.{squelch_method_names}
use Rattle.code_names.specs.OutputEqualizers.{output_equalizer_names}
use Rattle.code_names.specs.Sff8636Revisions.{sff8636_revision_names}
use Rattle.code_names.specs.Sff8636RateSelects.{sff8636_rate_select_names}
use Rattle.code_names.specs.Sff8636Compliance.{sff8636_compliance_names}
use Rattle.code_names.specs.InfinibandSpeeds.{infiniband_speed_names}
use Rattle.code_names.specs.Sff8472ExtendedIdentifiers.{sff8472_extended_identifier_names}
use Rattle.code_names.specs.Sff8472Revisions.{sff8472_revision_names}
use Rattle.code_names.specs.Sff8472RateSelects.{sff8472_rate_select_names}
use Rattle.code_names.specs.Sff8472Compliance.{sff8472_compliance_names}
use Rattle.code_names.specs.SfpPassiveCables.{sfp_passive_cable_names}
use Rattle.code_names.specs.SfpActiveCables.{sfp_active_cable_names}
use Rattle.code_names.specs.MediaInterfaces.{media_interface_table, said_in}
use Rattle.code_names.specs.Names.{name_in, rows_of}
use Rattle.code_names.specs.Rows.{Row, Said, not_listed, row_has, text_of}
use Rattle.code_names.specs.declared.table.Table.{Table}
use Rattle.code_names.specs.declared.table.Table.TheVariants.{Identifiers, Connectors, Sff8472Encodings, Sff8636Encodings, ExtendedCompliance, HostInterfaces, MultiModeMedia, SingleModeMedia, PassiveCopper, ActiveCables, BaseTMedia, MediaTypes, MediaTechnologies, ModuleFaults, Durations, SquelchMethods, OutputEqualizers, Sff8636Revisions, Sff8636RateSelects, Sff8636Compliance, InfinibandSpeeds, Sff8472ExtendedIdentifiers, Sff8472Revisions, Sff8472RateSelects, Sff8472Compliance, SfpPassiveCables, SfpActiveCables}
use Rattle.firmware_api.specs.declared.status.Refusal.TheVariants.{TooSmall}
use Rattle.firmware_api.specs.CodeTexts.{code_text, media_text, table_by}
use Rattle.firmware_api.specs.Texts.{text_refusal}
use Rattle.firmware_api.proofs.ShortTexts.{given, has_room, is_short}

abbrev said_is_short : Said → Bool
said_is_short said = not (nat_lt 256 (length (text_of said)))

abbrev are_short : List Row → Bool
are_short rows = list_all (λ row. said_is_short row.said) rows

all_short : (table : Table) → IsTrue (are_short (rows_of table))
unfolding identifier_names connector_names sff8472_encoding_names sff8636_encoding_names extended_compliance_names host_interface_names multi_mode_media_names single_mode_media_names passive_copper_names active_cable_names base_t_media_names media_type_names media_technology_names module_fault_names duration_names squelch_method_names output_equalizer_names sff8636_revision_names sff8636_rate_select_names sff8636_compliance_names infiniband_speed_names sff8472_extended_identifier_names sff8472_revision_names sff8472_rate_select_names sff8472_compliance_names sfp_passive_cable_names sfp_active_cable_names
all_short Identifiers = refl
all_short Connectors = refl
all_short Sff8472Encodings = refl
all_short Sff8636Encodings = refl
all_short ExtendedCompliance = refl
all_short HostInterfaces = refl
all_short MultiModeMedia = refl
all_short SingleModeMedia = refl
all_short PassiveCopper = refl
all_short ActiveCables = refl
all_short BaseTMedia = refl
all_short MediaTypes = refl
all_short MediaTechnologies = refl
all_short ModuleFaults = refl
all_short Durations = refl
all_short SquelchMethods = refl
all_short OutputEqualizers = refl
all_short Sff8636Revisions = refl
all_short Sff8636RateSelects = refl
all_short Sff8636Compliance = refl
all_short InfinibandSpeeds = refl
all_short Sff8472ExtendedIdentifiers = refl
all_short Sff8472Revisions = refl
all_short Sff8472RateSelects = refl
all_short Sff8472Compliance = refl
all_short SfpPassiveCables = refl
all_short SfpActiveCables = refl

found : (code : ℕ) (rows : List Row) → IsTrue (are_short rows) → IsTrue (said_is_short (unwrap_or (option_map (λ (row : Row). row.said) (find (row_has code) rows)) not_listed))
found code [] all = refl
found code (row ∷ rows) all =
    elim (row_has code row) as (λ b. IsTrue (said_is_short (unwrap_or (option_map (λ (r : Row). r.said) (cond b (Some row) (find (row_has code) rows))) not_listed))) [
      | true ↦ (and_parts (said_is_short row.said) (are_short rows) all).0
      | false ↦ found code rows (and_parts (said_is_short row.said) (are_short rows) all).1
    ]

in_table : (table : Table) (code : ℕ) → IsTrue (said_is_short (name_in table code))
in_table table code = found code (rows_of table) (all_short table)

in_tables : (table : Option Table) (code : ℕ) → IsTrue (is_short (option_map (λ (t : Table). text_of (name_in t code)) table))
in_tables None code = refl
in_tables (Some table) code = in_table table code

of_media : (table : Option Table) (code : ℕ) → IsTrue (is_short (Some (text_of (said_in table code))))
of_media None code = refl
of_media (Some table) code = in_table table code

pub of_codes : (table code : ℕ) → text_refusal (code_text table code) 256 ≢ Some TooSmall
of_codes table code = has_room (code_text table code) (in_tables (table_by table) code)

pub of_media_codes : (media_type code : ℕ) → text_refusal (Some (media_text media_type code)) 256 ≢ Some TooSmall
of_media_codes media_type code = has_room (Some (media_text media_type code)) (of_media (media_interface_table media_type) code)

pub given_of_codes : (table code : ℕ) (text : Option (Bor (List ℕ))) → option_map (λ (t : Bor (List ℕ)). t.now) text ≡ code_text table code → IfSome text (λ t. length t.now ≤ 256)
given_of_codes table code text is = given text (code_text table code) is (of_codes table code)

pub given_of_media_codes : (media_type code : ℕ) (text : Option (Bor (List ℕ))) → option_map (λ (t : Bor (List ℕ)). t.now) text ≡ Some (media_text media_type code) → IfSome text (λ t. length t.now ≤ 256)
given_of_media_codes media_type code text is = given text (Some (media_text media_type code)) is (of_media_codes media_type code)
