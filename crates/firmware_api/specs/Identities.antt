-- What a module is, as C sees it. (docs/firmware.md, "Decoders"; OIF-CMIS-05.0, "Administrative Information
-- (Page 00h)"; SFF-8636, "Upper Page 00h"; SFF-8472, "Serial ID: Data Fields")
use Rattle.std.specs.Prelude.{ℕ, ◌+◌, pos, Option, Some, None}
use Rattle.paged_memory.specs.declared.family.Family.{Family}
use Rattle.paged_memory.specs.declared.family.Family.TheVariants as families
use Rattle.paged_memory.specs.Images.{Memory}
use Rattle.field_tables.specs.declared.field.Field.TheVariants as fields
use Rattle.field_tables.specs.declared.table.cmis.CmisField.TheVariants as cmis
use Rattle.field_tables.specs.declared.field.Sum.{Sum}
use Rattle.field_tables.specs.Readings.{all_numbers, is_sum_right, number, text}
use Rattle.module_decoding.specs.Amounts.{amount_at, length_in}
use Rattle.module_decoding.specs.CmisPages.{is_flat}
use Rattle.module_decoding.specs.ModuleFamilies.{family_of}
use Rattle.module_decoding.specs.SharedFields.{shared_fields}
use Rattle.module_decoding.specs.declared.shared.SharedFields.{SharedFields}
use Rattle.firmware_api.specs.declared.identity.ModuleIdentity.{ModuleIdentity}
use Rattle.firmware_api.specs.ShownTexts.{shown_text}
use Rattle.firmware_api.specs.Statuses.{family_number, number_of}

-- a sum that the family doesn't have is not right
abbrev pub sum_number : Memory → Option Sum → ℕ
sum_number memory None = 0
sum_number memory (Some sum) = number_of (is_sum_right memory sum)

-- what modules of every family say, by the fields that have it; what only some say is 0
abbrev identity_at : Memory → Family → SharedFields → ModuleIdentity
identity_at memory family at = record {
  max_power = pos 0;
  length = pos 0;
  family = family_number family;
  identifier = number memory at.identifier;
  revision = 0;
  flat = 0;
  media_type = 0;
  power_class = 0;
  connector = number memory at.connector;
  technology = 0;
  sum_base = number_of (is_sum_right memory at.sum_base);
  sum_ext = sum_number memory at.sum_ext;
  oui = all_numbers memory at.oui;
  vendor = shown_text (text memory at.vendor);
  part = shown_text (text memory at.part);
  part_revision = shown_text (text memory at.part_revision);
  serial = shown_text (text memory at.serial);
  date = shown_text (text memory at.date);
}

abbrev pub shared_identity : Memory → Family → ModuleIdentity
shared_identity memory family = identity_at memory family (shared_fields family)

abbrev pub cmis_identity : Memory → ModuleIdentity
cmis_identity memory = record (shared_identity memory families.Cmis) {
  max_power = amount_at memory (fields.Cmis cmis.MaxPower) None 1;
  length = length_in memory (fields.Cmis cmis.LengthBase) (fields.Cmis cmis.LengthMultiplier);
  revision = number memory (fields.Cmis cmis.Revision);
  flat = number_of (is_flat memory);
  media_type = number memory (fields.Cmis cmis.MediaType);
  power_class = number memory (fields.Cmis cmis.PowerClass) + 1;
  technology = number memory (fields.Cmis cmis.Technology);
}

abbrev pub identity_of : Family → Memory → ModuleIdentity
identity_of families.Cmis memory = cmis_identity memory
identity_of family memory = shared_identity memory family

-- by its family
unfoldable pub identity_in : Memory → ModuleIdentity
identity_in memory = identity_of (family_of memory) memory
