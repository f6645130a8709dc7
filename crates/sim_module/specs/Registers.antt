-- The places of the registers that a module serves itself, by the rows of the memory map. (docs/fields.md, "Registers";
-- OIF-CMIS-05.0, chapter 8 "Module Management Memory Map"; which registers are served is this project's own)
use Rattle.std.specs.Prelude.{ℕ, ◌+◌, ◌==◌, ◌&&◌, Bool, nat_le, nat_lt}
use Rattle.field_tables.specs.FieldRows.{row_of}
use Rattle.field_tables.specs.Registers.{byte_count, first_byte}
use Rattle.field_tables.specs.declared.field.Field.{Field}
use Rattle.field_tables.specs.declared.field.Register.{Register}
use Rattle.field_tables.specs.declared.field.Register.TheVariants as registers

-- the address is one of so many from a first one on
abbrev pub is_from : ℕ → ℕ → ℕ → Bool
is_from first count address = nat_le first address && nat_lt address (first + count)

-- a register begins there
abbrev pub is_at : Register → ℕ → Bool
is_at register address = address == first_byte register

-- a field of one byte is there
abbrev pub is_field_at : Field → ℕ → Bool
is_field_at field address = address == (row_of field).offset

-- one of a register's bytes is there
abbrev pub is_in : Register → ℕ → Bool
is_in register address = is_from (first_byte register) (byte_count register) address

-- how many bytes have flags of the lanes
abbrev pub lane_flag_bytes : ℕ
lane_flag_bytes = byte_count registers.LaneFlags
