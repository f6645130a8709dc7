-- The texts of the memory map, each as its bytes. (docs/fields.md, "Texts"; OIF-CMIS-05.0, chapter 8 "Module Management
-- Memory Map", page 00h; SFF-8636, "Upper Page 00h"; SFF-8472, "Serial ID: Data Fields")
use Rattle.std.specs.Prelude.{ℕ, suc, ◌-◌, Bool, ◌&&◌, nat_le, List, Option, option_map}
use Rattle.std.specs.FinMap as map
use Rattle.bus_model.specs.declared.device.Dev.TheVariants.{A0}
use Rattle.paged_memory.specs.declared.family.Family.{Family}
use Rattle.paged_memory.specs.declared.family.Family.TheVariants as standards
use Rattle.paged_memory.specs.declared.key.Half.{Half}
use Rattle.paged_memory.specs.declared.key.Half.TheVariants.{Lower, Upper}
use Rattle.paged_memory.specs.declared.key.Key.{Key}
use Rattle.paged_memory.specs.Images.{Memory}
use Rattle.field_tables.specs.declared.field.CmisText.{CmisText}
use Rattle.field_tables.specs.declared.field.CmisText.TheVariants as cmis
use Rattle.field_tables.specs.declared.field.SffText.{SffText}
use Rattle.field_tables.specs.declared.field.SffText.TheVariants as sff
use Rattle.field_tables.specs.declared.field.TextField.{TextField}
use Rattle.field_tables.specs.declared.field.TextField.TheVariants as texts
use Rattle.field_tables.specs.declared.spans.Span.{Span}
use Rattle.field_tables.specs.Halves.{half_key}
use Rattle.field_tables.specs.Spans.{span, bytes_in, span_fits}

-- first and last byte of each
abbrev cmis_bytes : CmisText → ℕ × ℕ
cmis_bytes cmis.Vendor = (129, 144)
cmis_bytes cmis.Part = (148, 163)
cmis_bytes cmis.PartRevision = (164, 165)
cmis_bytes cmis.Serial = (166, 181)
cmis_bytes cmis.Date = (182, 189)
cmis_bytes cmis.Clei = (190, 199)

abbrev sff_bytes : ℕ × ℕ → ℕ × ℕ → ℕ × ℕ → ℕ × ℕ → ℕ × ℕ → SffText → ℕ × ℕ
sff_bytes vendor part part_revision serial date sff.Vendor = vendor
sff_bytes vendor part part_revision serial date sff.Part = part
sff_bytes vendor part part_revision serial date sff.PartRevision = part_revision
sff_bytes vendor part part_revision serial date sff.Serial = serial
sff_bytes vendor part part_revision serial date sff.Date = date

-- of device A0
abbrev in_half : Half → ℕ → ℕ × ℕ → Span
in_half half page bytes = span A0 half page bytes.0 bytes.1

-- half and page, first and last byte of each
abbrev pub text_span : TextField → Span
text_span (texts.Cmis text) = in_half Upper 0x00 (cmis_bytes text)
text_span (texts.Sff8636 text) = in_half Upper 0x00 (sff_bytes (148, 163) (168, 183) (184, 185) (196, 211) (212, 219) text)
text_span (texts.Sff8472 text) = in_half Lower 0x00 (sff_bytes (20, 35) (40, 55) (56, 59) (68, 83) (84, 91) text)

abbrev pub standard_of_text : TextField → Family
standard_of_text (texts.Cmis text) = standards.Cmis
standard_of_text (texts.Sff8636 text) = standards.Sff8636
standard_of_text (texts.Sff8472 text) = standards.Sff8472

abbrev pub text_key : TextField → Key
text_key text = half_key (text_span text).dev (text_span text).half (text_span text).page

-- at most 16 bytes
abbrev pub text_fits : Span → Bool
text_fits s = span_fits s && nat_le (suc s.last - s.first) 16

-- the bytes of a text, if memory has its half
abbrev pub bytes_of_text : Memory → TextField → Option (List ℕ)
bytes_of_text memory text = option_map (λ bytes. bytes_in bytes (text_span text)) (map.get memory (text_key text))
