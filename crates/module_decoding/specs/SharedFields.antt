-- Where each family keeps what modules of every family say of themselves. (docs/fields.md; OIF-CMIS-05.0, "Administrative Information
-- (Page 00h)"; SFF-8636, "Upper Page 00h"; SFF-8472, "Serial ID: Data Fields")
use Rattle.std.specs.Prelude.{◌≡◌, ℕ, IsTrue, Option, Some, None}
use Rattle.paged_memory.specs.declared.family.Family.{Family}
use Rattle.paged_memory.specs.declared.family.Family.TheVariants as families
use Rattle.field_tables.specs.declared.field.Field.{Field}
use Rattle.field_tables.specs.declared.field.Field.TheVariants as fields
use Rattle.field_tables.specs.declared.table.cmis.CmisField.TheVariants as cmis
use Rattle.field_tables.specs.declared.table.sff8636.Sff8636Field.TheVariants as sff8636
use Rattle.field_tables.specs.declared.table.sff8472.Sff8472Field.TheVariants as sff8472
use Rattle.field_tables.specs.declared.field.Sum.{Sum}
use Rattle.field_tables.specs.declared.field.Sum.TheVariants as sums
use Rattle.field_tables.specs.declared.field.CmisSum.TheVariants as cmis_sums
use Rattle.field_tables.specs.declared.field.Sff8472Sum.TheVariants as sff8472_sums
use Rattle.field_tables.specs.declared.field.Sff8636Sum.TheVariants as sff8636_sums
use Rattle.field_tables.specs.declared.field.TextField.{TextField}
use Rattle.field_tables.specs.declared.field.TextField.TheVariants as texts
use Rattle.field_tables.specs.declared.field.CmisText.TheVariants as cmis_texts
use Rattle.field_tables.specs.declared.field.SffText.{SffText}
use Rattle.field_tables.specs.declared.field.SffText.TheVariants as sff
use Rattle.field_tables.specs.FieldRows.{row_of}
use Rattle.field_tables.specs.Readings.{is_of_bytes}
use Rattle.module_decoding.specs.declared.shared.SharedFields.{SharedFields}

abbrev line : Field → Field → Field → Sum → Option Sum → TextField → TextField → TextField → TextField → TextField → SharedFields
line identifier connector oui base ext vendor part revision serial date = record {
  identifier = identifier;
  connector = connector;
  oui = oui;
  sum_base = base;
  sum_ext = ext;
  vendor = vendor;
  part = part;
  part_revision = revision;
  serial = serial;
  date = date;
}

-- the texts of SFF, each of its standard
abbrev sff_line : (SffText → TextField) → Field → Field → Field → Sum → Sum → SharedFields
sff_line text identifier connector oui base ext =
    line identifier connector oui base (Some ext) (text sff.Vendor) (text sff.Part) (text sff.PartRevision) (text sff.Serial) (text sff.Date)

-- identifier, connector, OUI; the sum of the base fields, and of those after them; vendor, part, its revision, serial number, date
abbrev pub shared_fields : Family → SharedFields
shared_fields families.Cmis = line (fields.Cmis cmis.Identifier) (fields.Cmis cmis.Connector) (fields.Cmis cmis.Oui) (sums.Cmis cmis_sums.Sum00) None
    (texts.Cmis cmis_texts.Vendor) (texts.Cmis cmis_texts.Part) (texts.Cmis cmis_texts.PartRevision) (texts.Cmis cmis_texts.Serial) (texts.Cmis cmis_texts.Date)
shared_fields families.Sff8636 = sff_line (λ text. texts.Sff8636 text) (fields.Sff8636 sff8636.Identifier) (fields.Sff8636 sff8636.Connector) (fields.Sff8636 sff8636.Oui)
    (sums.Sff8636 sff8636_sums.SumBase) (sums.Sff8636 sff8636_sums.SumExt)
shared_fields families.Sff8472 = sff_line (λ text. texts.Sff8472 text) (fields.Sff8472 sff8472.Identifier) (fields.Sff8472 sff8472.Connector) (fields.Sff8472 sff8472.Oui)
    (sums.Sff8472 sff8472_sums.SumBase) (sums.Sff8472 sff8472_sums.SumExt)

-- a field of so many numbers, each of one byte at most
pub record HasNumbers (count : ℕ) (field : Field) : Type 0 where
  pub of_bytes : IsTrue (is_of_bytes (row_of field))
  pub all : count ≡ (row_of field).count

-- one identifier, one connector, and three bytes of the OUI
pub record SharedFieldsFit (at : SharedFields) : Type 0 where
  pub identifier : HasNumbers 1 at.identifier
  pub connector : HasNumbers 1 at.connector
  pub oui : HasNumbers 3 at.oui
