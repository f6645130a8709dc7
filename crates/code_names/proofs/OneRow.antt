-- No code has two rows in a table: a computed test of each table, and what it says.
use Rattle.std.proofs.Common.{◌≡◌, ◌∙◌, ℕ, zero, suc, ◌≤◌, ◌&&◌, Bool, true, List, [], ◌∷◌, refl, sym, ap, arith}
use Rattle.std.specs.Prelude.{Contains, nat_lt, nat_le}
use Rattle.std.specs.List.{list_all}
use Rattle.std.proofs.lemmas.Bool.{and_parts, leb-true, ltb-true}
use Rattle.code_names.specs.declared.table.Table.{Table}
use Rattle.code_names.specs.declared.table.Table.TheVariants.{Identifiers, Connectors, Sff8472Encodings, Sff8636Encodings, ExtendedCompliance, HostInterfaces, MultiModeMedia, SingleModeMedia, PassiveCopper, ActiveCables, BaseTMedia, MediaTypes, MediaTechnologies, ModuleFaults, Durations, SquelchMethods, OutputEqualizers, Sff8636Revisions, Sff8636RateSelects, Sff8636Compliance, InfinibandSpeeds, Sff8472ExtendedIdentifiers, Sff8472Revisions, Sff8472RateSelects, Sff8472Compliance, SfpPassiveCables, SfpActiveCables}
use Rattle.code_names.specs.Rows.{Row, row_has}
use Rattle.code_names.specs.Identifiers.{identifier_names}
use Rattle.code_names.specs.Connectors.{connector_names}
use Rattle.code_names.specs.Sff8472Encodings.{sff8472_encoding_names}
use Rattle.code_names.specs.Sff8636Encodings.{sff8636_encoding_names}
use Rattle.code_names.specs.ExtendedCompliance.{extended_compliance_names}
use Rattle.code_names.specs.HostInterfaces.{host_interface_names}
use Rattle.code_names.specs.MultiModeMedia.{multi_mode_media_names}
use Rattle.code_names.specs.SingleModeMedia.{single_mode_media_names}
use Rattle.code_names.specs.PassiveCopper.{passive_copper_names}
use Rattle.code_names.specs.ActiveCables.{active_cable_names}
use Rattle.code_names.specs.BaseTMedia.{base_t_media_names}
use Rattle.code_names.specs.MediaTypes.{media_type_names}
use Rattle.code_names.specs.MediaTechnologies.{media_technology_names}
use Rattle.code_names.specs.ModuleFaults.{module_fault_names}
use Rattle.code_names.specs.Durations.{duration_names}
use Rattle.code_names.specs.SquelchMethods.{squelch_method_names}
use Rattle.code_names.specs.OutputEqualizers.{output_equalizer_names}
use Rattle.code_names.specs.Sff8636Revisions.{sff8636_revision_names}
use Rattle.code_names.specs.Sff8636RateSelects.{sff8636_rate_select_names}
use Rattle.code_names.specs.Sff8636Compliance.{sff8636_compliance_names}
use Rattle.code_names.specs.InfinibandSpeeds.{infiniband_speed_names}
use Rattle.code_names.specs.Sff8472ExtendedIdentifiers.{sff8472_extended_identifier_names}
use Rattle.code_names.specs.Sff8472Revisions.{sff8472_revision_names}
use Rattle.code_names.specs.Sff8472RateSelects.{sff8472_rate_select_names}
use Rattle.code_names.specs.Sff8472Compliance.{sff8472_compliance_names}
use Rattle.code_names.specs.SfpPassiveCables.{sfp_passive_cable_names}
use Rattle.code_names.specs.SfpActiveCables.{sfp_active_cable_names}
use Rattle.code_names.specs.Names.{rows_of, EachCodeHasOneRow}

-- each row ends before the later ones begin
abbrev apart : List Row → Bool
apart [] = true
apart (row ∷ rows) = list_all (λ later. nat_lt row.last later.first) rows && apart rows

identifier_names_apart : apart identifier_names ≡ true
unfolding identifier_names
identifier_names_apart = refl

connector_names_apart : apart connector_names ≡ true
unfolding connector_names
connector_names_apart = refl

sff8472_encoding_names_apart : apart sff8472_encoding_names ≡ true
unfolding sff8472_encoding_names
sff8472_encoding_names_apart = refl

sff8636_encoding_names_apart : apart sff8636_encoding_names ≡ true
unfolding sff8636_encoding_names
sff8636_encoding_names_apart = refl

extended_compliance_names_apart : apart extended_compliance_names ≡ true
unfolding extended_compliance_names
extended_compliance_names_apart = refl

host_interface_names_apart : apart host_interface_names ≡ true
unfolding host_interface_names
host_interface_names_apart = refl

multi_mode_media_names_apart : apart multi_mode_media_names ≡ true
unfolding multi_mode_media_names
multi_mode_media_names_apart = refl

single_mode_media_names_apart : apart single_mode_media_names ≡ true
unfolding single_mode_media_names
single_mode_media_names_apart = refl

passive_copper_names_apart : apart passive_copper_names ≡ true
unfolding passive_copper_names
passive_copper_names_apart = refl

active_cable_names_apart : apart active_cable_names ≡ true
unfolding active_cable_names
active_cable_names_apart = refl

base_t_media_names_apart : apart base_t_media_names ≡ true
unfolding base_t_media_names
base_t_media_names_apart = refl

media_type_names_apart : apart media_type_names ≡ true
unfolding media_type_names
media_type_names_apart = refl

media_technology_names_apart : apart media_technology_names ≡ true
unfolding media_technology_names
media_technology_names_apart = refl

module_fault_names_apart : apart module_fault_names ≡ true
unfolding module_fault_names
module_fault_names_apart = refl

duration_names_apart : apart duration_names ≡ true
unfolding duration_names
duration_names_apart = refl

squelch_method_names_apart : apart squelch_method_names ≡ true
unfolding squelch_method_names
squelch_method_names_apart = refl

output_equalizer_names_apart : apart output_equalizer_names ≡ true
unfolding output_equalizer_names
output_equalizer_names_apart = refl

sff8636_revision_names_apart : apart sff8636_revision_names ≡ true
unfolding sff8636_revision_names
sff8636_revision_names_apart = refl

sff8636_rate_select_names_apart : apart sff8636_rate_select_names ≡ true
unfolding sff8636_rate_select_names
sff8636_rate_select_names_apart = refl

sff8636_compliance_names_apart : apart sff8636_compliance_names ≡ true
unfolding sff8636_compliance_names
sff8636_compliance_names_apart = refl

infiniband_speed_names_apart : apart infiniband_speed_names ≡ true
unfolding infiniband_speed_names
infiniband_speed_names_apart = refl

sff8472_extended_identifier_names_apart : apart sff8472_extended_identifier_names ≡ true
unfolding sff8472_extended_identifier_names
sff8472_extended_identifier_names_apart = refl

sff8472_revision_names_apart : apart sff8472_revision_names ≡ true
unfolding sff8472_revision_names
sff8472_revision_names_apart = refl

sff8472_rate_select_names_apart : apart sff8472_rate_select_names ≡ true
unfolding sff8472_rate_select_names
sff8472_rate_select_names_apart = refl

sff8472_compliance_names_apart : apart sff8472_compliance_names ≡ true
unfolding sff8472_compliance_names
sff8472_compliance_names_apart = refl

sfp_passive_cable_names_apart : apart sfp_passive_cable_names ≡ true
unfolding sfp_passive_cable_names
sfp_passive_cable_names_apart = refl

sfp_active_cable_names_apart : apart sfp_active_cable_names ≡ true
unfolding sfp_active_cable_names
sfp_active_cable_names_apart = refl

all_apart : (table : Table) → apart (rows_of table) ≡ true
all_apart Identifiers = identifier_names_apart
all_apart Connectors = connector_names_apart
all_apart Sff8472Encodings = sff8472_encoding_names_apart
all_apart Sff8636Encodings = sff8636_encoding_names_apart
all_apart ExtendedCompliance = extended_compliance_names_apart
all_apart HostInterfaces = host_interface_names_apart
all_apart MultiModeMedia = multi_mode_media_names_apart
all_apart SingleModeMedia = single_mode_media_names_apart
all_apart PassiveCopper = passive_copper_names_apart
all_apart ActiveCables = active_cable_names_apart
all_apart BaseTMedia = base_t_media_names_apart
all_apart MediaTypes = media_type_names_apart
all_apart MediaTechnologies = media_technology_names_apart
all_apart ModuleFaults = module_fault_names_apart
all_apart Durations = duration_names_apart
all_apart SquelchMethods = squelch_method_names_apart
all_apart OutputEqualizers = output_equalizer_names_apart
all_apart Sff8636Revisions = sff8636_revision_names_apart
all_apart Sff8636RateSelects = sff8636_rate_select_names_apart
all_apart Sff8636Compliance = sff8636_compliance_names_apart
all_apart InfinibandSpeeds = infiniband_speed_names_apart
all_apart Sff8472ExtendedIdentifiers = sff8472_extended_identifier_names_apart
all_apart Sff8472Revisions = sff8472_revision_names_apart
all_apart Sff8472RateSelects = sff8472_rate_select_names_apart
all_apart Sff8472Compliance = sff8472_compliance_names_apart
all_apart SfpPassiveCables = sfp_passive_cable_names_apart
all_apart SfpActiveCables = sfp_active_cable_names_apart

-- a test of all rows
of_each : (test : Row → Bool) (rows : List Row) (row : Row) → list_all test rows ≡ true → Contains rows row → test row ≡ true
of_each test [] row all (k, below, is) = absurd (omega arith)
of_each test (other ∷ rows) row all (zero, below, is) = ap test (sym is) ∙ (and_parts (test other) (list_all test rows) all).0
of_each test (other ∷ rows) row all (suc k, below, is) = of_each test rows row (and_parts (test other) (list_all test rows) all).1 (k, omega arith, is)

-- where a row has a code
bounds : (code : ℕ) (row : Row) → row_has code row ≡ true → (row.first ≤ code) × (code ≤ row.last)
bounds code row has =
    let parts = and_parts (nat_le row.first code) (nat_le code row.last) has in
    (leb-true row.first code parts.0, leb-true code row.last parts.1)

-- a row that has a code, and a later one that has it too
not_both : (code : ℕ) (row later : Row) (rows : List Row) → list_all (λ other. nat_lt row.last other.first) rows ≡ true → Contains rows later
    → row_has code row ≡ true → row_has code later ≡ true → ⊥
not_both code row later rows all among has also =
    let less = ltb-true row.last later.first (of_each (λ other. nat_lt row.last other.first) rows later all among) in
    omega (arith, less, (bounds code row has).1, (bounds code later also).0)

one_row : (rows : List Row) (code : ℕ) (one other : Row) → apart rows ≡ true → Contains rows one → Contains rows other
    → row_has code one ≡ true → row_has code other ≡ true → one ≡ other
one_row [] code one other test (k, below, is) among has also = absurd (omega arith)
one_row (row ∷ rows) code one other test (zero, below, is) (zero, under, equals) has also = sym is ∙ equals
one_row (row ∷ rows) code one other test (zero, below, is) (suc k, under, equals) has also =
    let parts = and_parts (list_all (λ later. nat_lt row.last later.first) rows) (apart rows) test in
    let had : row_has code row ≡ true = ap (row_has code) is ∙ has in
    absurd (not_both code row other rows parts.0 (k, omega arith, equals) had also)
one_row (row ∷ rows) code one other test (suc k, below, is) (zero, under, equals) has also =
    let parts = and_parts (list_all (λ later. nat_lt row.last later.first) rows) (apart rows) test in
    let had : row_has code row ≡ true = ap (row_has code) equals ∙ also in
    absurd (not_both code row one rows parts.0 (k, omega arith, is) had has)
one_row (row ∷ rows) code one other test (suc k, below, is) (suc l, under, equals) has also =
    let parts = and_parts (list_all (λ later. nat_lt row.last later.first) rows) (apart rows) test in
    one_row rows code one other parts.1 (k, omega arith, is) (l, omega arith, equals) has also

pub each_code_has_one_row : EachCodeHasOneRow
each_code_has_one_row table code one other first second has also = one_row (rows_of table) code one other (all_apart table) first second has also
