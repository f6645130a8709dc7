-- What a module is, and who made it. (docs/fields.md, "What is read of SFF modules"; SFF-8472, "Serial ID: Data Fields")
use Rattle.paged_memory.specs.Images.{Memory}
use Rattle.field_tables.specs.declared.field.Field.TheVariants as fields
use Rattle.field_tables.specs.declared.table.sff8472.Sff8472Field.TheVariants as sff8472
use Rattle.field_tables.specs.declared.field.TextField.TheVariants as texts
use Rattle.field_tables.specs.declared.field.SffText.TheVariants as sff_texts
use Rattle.field_tables.specs.declared.field.Sum.TheVariants as sums
use Rattle.field_tables.specs.declared.field.Sff8472Sum.TheVariants as sff8472_sums
use Rattle.field_tables.specs.Readings.{all_numbers, is_sum_right, number, text}
use Rattle.sff8472_map.specs.declared.identity.Identity.{Identity}

abbrev pub identity_of : Memory → Identity
identity_of memory = record {
  identifier = number memory (fields.Sff8472 sff8472.Identifier);
  vendor = record { items = text memory (texts.Sff8472 sff_texts.Vendor) };
  oui = all_numbers memory (fields.Sff8472 sff8472.Oui);
  part = record { items = text memory (texts.Sff8472 sff_texts.Part) };
  part_revision = record { items = text memory (texts.Sff8472 sff_texts.PartRevision) };
  serial = record { items = text memory (texts.Sff8472 sff_texts.Serial) };
  date = record { items = text memory (texts.Sff8472 sff_texts.Date) };
  connector = number memory (fields.Sff8472 sff8472.Connector);
  sum_base = is_sum_right memory (sums.Sff8472 sff8472_sums.SumBase);
  sum_ext = is_sum_right memory (sums.Sff8472 sff8472_sums.SumExt);
}
