-- Operations on the whole of a register. (docs/fields.md, "Registers"; this project's own)
use Rattle.std.specs.Prelude.{◌≡◌, ◌⊎◌, ℕ, ◌==◌, Bool, false, List, length}
use Rattle.bus_model.specs.declared.device.Dev.TheVariants.{A0, A2}
use Rattle.bus_model.specs.declared.operation.Op.{Op}
use Rattle.bus_model.specs.declared.operation.Op.TheVariants.{Fetch, Store}
use Rattle.field_tables.specs.declared.field.Register.{Register}
use Rattle.field_tables.specs.declared.field.Register.TheVariants as registers
use Rattle.field_tables.specs.Registers.{byte_count, first_byte, span_of}

-- all its bytes are read
abbrev pub read_of : Register → Op
read_of register = Fetch (span_of register).dev (first_byte register) (byte_count register)

-- these bytes are stored from its first one on
abbrev pub store_to : Register → List ℕ → Op
store_to register bytes = Store (span_of register).dev (first_byte register) (record { items = bytes })

-- the operation reads all its bytes, or stores all of them
abbrev pub IsWholly : Register → Op → Type 0
IsWholly register op =
    (op ≡ read_of register)
    ⊎ ((bytes : List ℕ) × (length bytes ≡ byte_count register) × (op ≡ store_to register bytes))

-- it stores ApplyDPInit, where page 10h shows (OIF-CMIS-05.0, page 10h)
abbrev pub is_apply : Op → Bool
is_apply (Fetch dev offset count) = false
is_apply (Store A0 offset bytes) = offset == first_byte registers.ApplyDPInit
is_apply (Store A2 offset bytes) = false
