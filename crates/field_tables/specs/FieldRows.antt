-- The memory map: the row of each field, and the standard that it belongs to. (docs/fields.md, "Fields"; this project's own)
use Rattle.paged_memory.specs.declared.family.Family.{Family}
use Rattle.paged_memory.specs.declared.family.Family.TheVariants as standards
use Rattle.field_tables.specs.declared.field.Field.{Field}
use Rattle.field_tables.specs.declared.field.Field.TheVariants.{Cmis, Sff8636, Sff8472}
use Rattle.field_tables.specs.declared.layout.Row.{Row}
use Rattle.field_tables.specs.CmisRows as cmis
use Rattle.field_tables.specs.Sff8636Rows as sff8636
use Rattle.field_tables.specs.Sff8472Rows as sff8472

abbrev pub standard_of : Field → Family
standard_of (Cmis field) = standards.Cmis
standard_of (Sff8636 field) = standards.Sff8636
standard_of (Sff8472 field) = standards.Sff8472

abbrev pub row_of : Field → Row
row_of (Cmis field) = cmis.row_of field
row_of (Sff8636 field) = sff8636.row_of field
row_of (Sff8472 field) = sff8472.row_of field
