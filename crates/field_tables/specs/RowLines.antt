-- How a row of the memory map is written, and the words for it. (docs/fields.md, "Fields"; this project's own)
use Rattle.std.specs.Prelude.{ℕ, ◌+◌, Option}
pub use Rattle.std.specs.Prelude.{Some, None}
use Rattle.bus_model.specs.declared.device.Dev.{Dev}
pub use Rattle.bus_model.specs.declared.device.Dev.TheVariants.{A0, A2}
use Rattle.paged_memory.specs.declared.key.Half.{Half}
pub use Rattle.paged_memory.specs.declared.key.Half.TheVariants.{Lower, Upper}
use Rattle.field_tables.specs.declared.field.Register.{Register}
use Rattle.field_tables.specs.declared.layout.Layout.{Layout}
pub use Rattle.field_tables.specs.declared.layout.Layout.TheVariants.{Single, Every, Bits, Down, Nibbles, Quad}
use Rattle.field_tables.specs.declared.layout.Part.{Part}
pub use Rattle.field_tables.specs.declared.layout.Part.TheVariants.{Byte, Word, Range}
pub use Rattle.field_tables.specs.declared.layout.Row.{Row}
use Rattle.field_tables.specs.declared.layout.Sign.{Sign}
pub use Rattle.field_tables.specs.declared.layout.Sign.TheVariants.{Unsigned, Signed}
use Rattle.field_tables.specs.declared.units.Unit.{Unit}
pub use Rattle.field_tables.specs.declared.units.Unit.TheVariants.{Temperature, Voltage, OpticalPower, Bias, ModulePower}
use Rattle.field_tables.specs.Registers.{span_of}

abbrev pub line : Dev → Half → ℕ → ℕ → Part → Layout → ℕ → Sign → Option Unit → Row
line dev half page offset part layout count sign unit =
    record { dev = dev; half = half; page = page; offset = offset; bits = part; layout = layout; count = count; sign = sign; unit = unit }

-- a line of numbers that stand in a register: from which of its bytes on, bits, layout, number of values
abbrev pub part : Register → ℕ → Part → Layout → ℕ → Row
part register byte bits layout count =
    let s = span_of register in
    line s.dev s.half s.page (s.first + byte) bits layout count Unsigned None
