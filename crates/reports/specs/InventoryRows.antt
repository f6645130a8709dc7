-- What a module is, line by line. (docs/formats.md, "inventory"; OIF-CMIS-05.0, "Lower Memory" and "Administrative Information (Page
-- 00h)"; SFF-8636, "Upper Page 00h"; SFF-8472, "Serial ID: Data Fields")
use Rattle.std.specs.Prelude.{ℕ, List, [], ◌∷◌, Option, Some, None, codes}
use Rattle.paged_memory.specs.declared.family.Family.{Family}
use Rattle.paged_memory.specs.declared.family.Family.TheVariants as families
use Rattle.field_tables.specs.declared.field.Field.TheVariants as fields
use Rattle.field_tables.specs.declared.table.cmis.CmisField.TheVariants as cmis
use Rattle.field_tables.specs.declared.field.Sum.{Sum}
use Rattle.field_tables.specs.declared.field.Sum.TheVariants as sums
use Rattle.field_tables.specs.declared.field.CmisSum.TheVariants as cmis_sums
use Rattle.field_tables.specs.declared.field.TextField.TheVariants as texts
use Rattle.field_tables.specs.declared.field.CmisText.TheVariants as cmis_texts
use Rattle.module_decoding.specs.SharedFields.{shared_fields}
use Rattle.module_decoding.specs.declared.shared.SharedFields.{SharedFields}
use Rattle.report_entries.specs.Rows.{Row, Word, Either, Code, Revision, Next, Text, Oui, Right, Amount, Length, always}

abbrev cmis_rows : List Row
cmis_rows =
    always (codes "family") (Word (codes "CMIS"))
    ∷ always (codes "identifier") (Code (fields.Cmis cmis.Identifier))
    ∷ always (codes "revision") (Revision (fields.Cmis cmis.Revision))
    ∷ always (codes "memory") (Either (fields.Cmis cmis.FlatMemory) (codes "flat") (codes "paged"))
    ∷ always (codes "media-type") (Code (fields.Cmis cmis.MediaType))
    ∷ always (codes "vendor") (Text (texts.Cmis cmis_texts.Vendor))
    ∷ always (codes "oui") (Oui (fields.Cmis cmis.Oui))
    ∷ always (codes "part") (Text (texts.Cmis cmis_texts.Part))
    ∷ always (codes "part-revision") (Text (texts.Cmis cmis_texts.PartRevision))
    ∷ always (codes "serial") (Text (texts.Cmis cmis_texts.Serial))
    ∷ always (codes "date") (Text (texts.Cmis cmis_texts.Date))
    ∷ always (codes "power-class") (Next (fields.Cmis cmis.PowerClass))
    ∷ always (codes "max-power") (Amount (fields.Cmis cmis.MaxPower))
    ∷ always (codes "length") (Length (fields.Cmis cmis.LengthBase) (fields.Cmis cmis.LengthMultiplier))
    ∷ always (codes "connector") (Code (fields.Cmis cmis.Connector))
    ∷ always (codes "technology") (Code (fields.Cmis cmis.Technology))
    ∷ always (codes "sum-00h") (Right (sums.Cmis cmis_sums.Sum00))
    ∷ []

-- the sum after the base fields, if there is one
abbrev extended_rows : Option Sum → List Row
extended_rows (Some sum) = always (codes "sum-ext") (Right sum) ∷ []
extended_rows None = []

-- modules of SFF say the same, each by the fields of its standard
abbrev sff_rows : List ℕ → SharedFields → List Row
sff_rows standard at =
    always (codes "family") (Word standard)
    ∷ always (codes "identifier") (Code at.identifier)
    ∷ always (codes "vendor") (Text at.vendor)
    ∷ always (codes "oui") (Oui at.oui)
    ∷ always (codes "part") (Text at.part)
    ∷ always (codes "part-revision") (Text at.part_revision)
    ∷ always (codes "serial") (Text at.serial)
    ∷ always (codes "date") (Text at.date)
    ∷ always (codes "connector") (Code at.connector)
    ∷ always (codes "sum-base") (Right at.sum_base)
    ∷ extended_rows at.sum_ext

unfoldable pub inventory_rows : Family → List Row
inventory_rows families.Cmis = cmis_rows
inventory_rows families.Sff8636 = sff_rows (codes "SFF-8636") (shared_fields families.Sff8636)
inventory_rows families.Sff8472 = sff_rows (codes "SFF-8472") (shared_fields families.Sff8472)
