-- The registers of the memory map: bytes that a host reads or stores as a whole. (docs/fields.md, "Registers"; OIF-CMIS-05.0,
-- chapter 8 "Module Management Memory Map")
use Rattle.std.specs.Prelude.{ℕ, Bool, ◌&&◌, nat_le, Option}
use Rattle.bus_model.specs.declared.device.Dev.TheVariants.{A0}
use Rattle.paged_memory.specs.declared.key.Half.TheVariants.{Lower, Upper}
use Rattle.field_tables.specs.declared.field.Register.{Register}
use Rattle.field_tables.specs.declared.field.Register.TheVariants as registers
use Rattle.field_tables.specs.declared.spans.Span.{Span}
use Rattle.field_tables.specs.Spans.{page_of_half, span, span_fits, span_len}

-- device, half and page, first and last byte
abbrev pub span_of : Register → Span
span_of registers.GlobalStatus = span A0 Lower 0x00 3 3
span_of registers.ModuleFlags = span A0 Lower 0x00 9 9
span_of registers.GlobalControls = span A0 Lower 0x00 26 26
span_of registers.PageMapping = span A0 Lower 0x00 126 127
span_of registers.DPDeinit = span A0 Upper 0x10 128 128
span_of registers.ApplyDPInit = span A0 Upper 0x10 143 143
span_of registers.StagedControl = span A0 Upper 0x10 145 152
span_of registers.PathStates = span A0 Upper 0x11 128 131
span_of registers.LaneFlags = span A0 Upper 0x11 134 152
span_of registers.ConfigStatus = span A0 Upper 0x11 202 205
span_of registers.ActiveControl = span A0 Upper 0x11 206 213

-- where it begins
abbrev pub first_byte : Register → ℕ
first_byte register = (span_of register).first

-- how many bytes it has
abbrev pub byte_count : Register → ℕ
byte_count register = span_len (span_of register)

-- the page that has to be selected for it, if any
abbrev pub page_of : Register → Option ℕ
page_of register = page_of_half (span_of register).half (span_of register).page

-- it is within its half, and one operation can read it
abbrev pub register_fits : Span → Bool
register_fits s = span_fits s && nat_le (span_len s) 128
