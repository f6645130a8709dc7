-- What a module is, what it measures and what it warns of: what the rows of its family say. (docs/formats.md, "inventory", "monitors" and
-- "flags"; this project's own)
use Rattle.std.specs.Prelude.{ℕ, Bool, true, false, if◌then◌else◌, List, [], ◌∷◌, ◌++◌, Option, option_map}
use Rattle.paged_memory.specs.declared.family.Family.{Family}
use Rattle.paged_memory.specs.declared.family.Family.TheVariants as families
use Rattle.paged_memory.specs.Images.{Memory}
use Rattle.field_tables.specs.declared.field.Field.TheVariants as fields
use Rattle.field_tables.specs.declared.table.sff8636.Sff8636Field.TheVariants as sff8636
use Rattle.field_tables.specs.Readings.{bit}
use Rattle.module_decoding.specs.declared.report.Report.{Report}
use Rattle.module_decoding.specs.declared.report.Report.TheVariants.{Inventory, Monitors, Flags}
use Rattle.module_decoding.specs.CmisPages.{is_flat}
use Rattle.module_decoding.specs.ModuleFamilies.{family_of}
use Rattle.module_decoding.specs.Reports.{fault_of}
use Rattle.report_entries.specs.declared.flag.Flag.{Flag}
use Rattle.report_entries.specs.declared.flag_rows.FlagRow.{FlagRow}
use Rattle.report_entries.specs.Banks.{further_banks}
use Rattle.report_entries.specs.Entries.{Entry}
use Rattle.report_entries.specs.EntryText.{entries_lines}
use Rattle.report_entries.specs.FlagRows.{flags_entry, rows_flags}
use Rattle.report_entries.specs.Flags.{raised}
use Rattle.report_entries.specs.Rows.{Row, rows_entries}
use Rattle.reports.specs.declared.fault.ReportFault.{ReportFault}
use Rattle.reports.specs.Families.{reported}
use Rattle.reports.specs.FlagRows as flags
use Rattle.reports.specs.InventoryRows.{inventory_rows}
use Rattle.reports.specs.MonitorRows as monitors

-- ---- the rows

abbrev pub rows_of : Report → Family → List Row
rows_of Inventory family = inventory_rows family
rows_of Monitors families.Cmis = monitors.cmis_rows
rows_of Monitors families.Sff8636 = monitors.qsfp_rows
rows_of Monitors families.Sff8472 = monitors.sfp_rows
rows_of Flags families.Cmis = flags.state_rows
rows_of report family = []

abbrev pub flag_rows_of : Family → List FlagRow
flag_rows_of families.Cmis = flags.cmis_rows
flag_rows_of families.Sff8636 = flags.qsfp_rows
flag_rows_of families.Sff8472 = flags.sfp_rows

-- ---- of a module of this family

abbrev pub is_flat_in : Family → Memory → Bool
is_flat_in families.Cmis memory = is_flat memory
is_flat_in families.Sff8636 memory = bit memory (fields.Sff8636 sff8636.FlatMemory)
is_flat_in family memory = false

-- the further banks whose lanes are reported: all that a CMIS module has, or none
abbrev pub banks_in : Bool → Family → Memory → List ℕ
banks_in all_lanes families.Cmis memory = if all_lanes then further_banks (is_flat memory) memory else []
banks_in all_lanes family memory = []

abbrev pub family_entries : Bool → Report → Family → Memory → List Entry
family_entries all_lanes report family memory = rows_entries memory (banks_in all_lanes family memory) (is_flat_in family memory) (rows_of report family)

abbrev pub family_flags : Bool → Family → Memory → List (Flag × Bool)
family_flags all_lanes family memory = rows_flags memory (banks_in all_lanes family memory) (is_flat_in family memory) (flag_rows_of family)

abbrev pub entries_in : Bool → Report → Family → Memory → List Entry
entries_in all_lanes Inventory family memory = family_entries all_lanes Inventory family memory
entries_in all_lanes Monitors family memory = family_entries all_lanes Monitors family memory
entries_in all_lanes Flags family memory = family_entries all_lanes Flags family memory ++ flags_entry (raised (family_flags all_lanes family memory)) ∷ []

-- ---- by its family

unfoldable pub report_fault : Report → Memory → Option ReportFault
report_fault report memory = option_map (λ fault. reported fault) (fault_of report memory)

unfoldable pub entries_of : Report → Memory → List Entry
entries_of report memory = entries_in false report (family_of memory) memory

unfoldable pub report_lines : Report → Memory → List (List ℕ)
report_lines report memory = entries_lines (entries_of report memory)

-- the same with the lanes of all banks
unfoldable pub all_lanes_entries : Report → Memory → List Entry
all_lanes_entries report memory = entries_in true report (family_of memory) memory

-- all flags, each with whether it is raised
unfoldable pub all_lanes_flag_states : Memory → List (Flag × Bool)
all_lanes_flag_states memory = family_flags true (family_of memory) memory

-- ---- each of them

abbrev pub inventory_fault : Memory → Option ReportFault
inventory_fault memory = report_fault Inventory memory

abbrev pub inventory_entries : Memory → List Entry
inventory_entries memory = entries_of Inventory memory

abbrev pub monitors_fault : Memory → Option ReportFault
monitors_fault memory = report_fault Monitors memory

abbrev pub monitors_entries : Memory → List Entry
monitors_entries memory = entries_of Monitors memory

abbrev pub flags_fault : Memory → Option ReportFault
flags_fault memory = report_fault Flags memory

abbrev pub flags_entries : Memory → List Entry
flags_entries memory = entries_of Flags memory
