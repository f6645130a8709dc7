-- The details of modules, by their families. (docs/formats.md, "details"; this project's own)
use Rattle.std.specs.Prelude.{◌++◌, ◌&&◌, not, ℕ, Bool, false, List, []}
use Rattle.std.specs.List.{flat_map}
use Rattle.field_tables.specs.declared.field.Field.TheVariants as fields
use Rattle.field_tables.specs.declared.table.sff8472.Sff8472Field.TheVariants as sff8472
use Rattle.field_tables.specs.Readings.{bit}
use Rattle.module_decoding.specs.CmisPages.{is_flat}
use Rattle.paged_memory.specs.Images.{Memory}
use Rattle.report_entries.specs.Banks.{further_banks}
use Rattle.report_entries.specs.Entries.{Entry}
use Rattle.module_details.specs.AppDetails.{apps_entries}
use Rattle.module_details.specs.CmisDetails as cmis
use Rattle.module_details.specs.Details.{rows_entries}
use Rattle.module_details.specs.QsfpDetails as qsfp
use Rattle.module_details.specs.Rows.{Row}
use Rattle.module_details.specs.SfpDetails as sfp

-- the rows of these tables, one after another, with the lanes of bank 0 and of these further banks
abbrev pub tables_entries : Memory → List ℕ → Bool → List (List Row) → List Entry
tables_entries memory banks flat tables = flat_map (rows_entries memory banks flat) tables

unfoldable pub cmis_entries : Memory → List Entry
cmis_entries memory = tables_entries memory (further_banks (is_flat memory) memory) (is_flat memory) cmis.tables_of_rows ++ apps_entries memory

unfoldable pub qsfp_entries : Memory → List Entry
qsfp_entries memory = tables_entries memory [] false qsfp.tables_of_rows

-- there are no diagnostics, or not without an address change
abbrev pub lacks_diagnostics : Memory → Bool
lacks_diagnostics memory = not (bit memory (fields.Sff8472 sff8472.DiagPresent) && not (bit memory (fields.Sff8472 sff8472.AddressChange)))

-- rows for a module with paged memory are here those for one with diagnostics
unfoldable pub sfp_entries : Memory → List Entry
sfp_entries memory = tables_entries memory [] (lacks_diagnostics memory) sfp.tables_of_rows
