-- The sums of the memory map: the low 8 bits of the sum of bytes. (docs/fields.md, "Sums"; OIF-CMIS-05.0, chapter 8
-- "Module Management Memory Map", the page checksums; SFF-8636, CC_BASE and CC_EXT; SFF-8472, CC_BASE, CC_EXT and CC_DMI)
use Rattle.std.specs.Prelude.{ℕ, ◌%◌, ◌==◌, Bool, ◌&&◌, sum, List, Option, option_map}
use Rattle.std.specs.FinMap as map
use Rattle.bus_model.specs.declared.device.Dev.TheVariants.{A0, A2}
use Rattle.paged_memory.specs.declared.family.Family.{Family}
use Rattle.paged_memory.specs.declared.family.Family.TheVariants as standards
use Rattle.paged_memory.specs.declared.key.Half.TheVariants.{Lower, Upper}
use Rattle.paged_memory.specs.declared.key.Key.{Key}
use Rattle.paged_memory.specs.Images.{Memory}
use Rattle.field_tables.specs.declared.field.CmisSum.TheVariants as cmis
use Rattle.field_tables.specs.declared.field.Sff8636Sum.TheVariants as sff8636
use Rattle.field_tables.specs.declared.field.Sff8472Sum.TheVariants as sff8472
use Rattle.field_tables.specs.declared.field.Sum.{Sum}
use Rattle.field_tables.specs.declared.field.Sum.TheVariants as sums
use Rattle.field_tables.specs.declared.spans.Span.{Span}
use Rattle.field_tables.specs.Halves.{address_fits, byte_in, half_key}
use Rattle.field_tables.specs.Spans.{span, bytes_in, span_fits}

-- device, half and page, first and last byte of those that are summed; the address of the sum
abbrev pub sum_row : Sum → Span × ℕ
sum_row (sums.Cmis cmis.Sum00) = (span A0 Upper 0x00 128 221, 222)
sum_row (sums.Cmis cmis.Sum01) = (span A0 Upper 0x01 130 254, 255)
sum_row (sums.Cmis cmis.Sum02) = (span A0 Upper 0x02 128 254, 255)
sum_row (sums.Sff8636 sff8636.SumBase) = (span A0 Upper 0x00 128 190, 191)
sum_row (sums.Sff8636 sff8636.SumExt) = (span A0 Upper 0x00 192 222, 223)
sum_row (sums.Sff8472 sff8472.SumBase) = (span A0 Lower 0x00 0 62, 63)
sum_row (sums.Sff8472 sff8472.SumExt) = (span A0 Lower 0x00 64 94, 95)
sum_row (sums.Sff8472 sff8472.SumDmi) = (span A2 Lower 0x00 0 94, 95)

abbrev pub standard_of_sum : Sum → Family
standard_of_sum (sums.Cmis s) = standards.Cmis
standard_of_sum (sums.Sff8636 s) = standards.Sff8636
standard_of_sum (sums.Sff8472 s) = standards.Sff8472

abbrev pub sum_key : Sum → Key
sum_key s = half_key (sum_row s).0.dev (sum_row s).0.half (sum_row s).0.page

abbrev pub sum_fits : Span × ℕ → Bool
sum_fits row = span_fits row.0 && address_fits row.0.half row.1

-- whether the sum in a half is right
abbrev pub sum_matches : List ℕ → Span × ℕ → Bool
sum_matches bytes row = sum (bytes_in bytes row.0) % 256 == byte_in bytes row.1

-- whether a sum is right, if memory has its half
abbrev pub sum_right_of : Memory → Sum → Option Bool
sum_right_of memory s = option_map (λ bytes. sum_matches bytes (sum_row s)) (map.get memory (sum_key s))
