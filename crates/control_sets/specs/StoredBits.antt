-- Which lanes the stores of a procedure tell to DPDeinit and to ApplyDPInit. (docs/bus.md, "Outcomes"; OIF-CMIS-05.0,
-- DPDeinit and ApplyDPInit of page 10h)
use Rattle.std.specs.Prelude.{◌≡◌, ◌⊎◌, ℕ, ◌-◌, false, nat_le, Option, Some, None, if◌then◌else◌, slice_get}
use Rattle.std.specs.FinSet as set
use Rattle.bus_model.specs.declared.operation.Op.{Op}
use Rattle.bus_model.specs.declared.operation.Op.TheVariants.{Fetch, Store}
use Rattle.bus_model.specs.declared.operation.Step.{Step}
use Rattle.field_tables.specs.declared.field.Register.TheVariants as registers
use Rattle.field_tables.specs.Registers.{first_byte}
use Rattle.field_tables.specs.LaneSets.{IsLane, Lanes, lanes_in}

-- the byte that a store has for an address
abbrev pub byte_for : ℕ → Op → Option ℕ
byte_for address (Store dev offset bytes) = if nat_le offset address then slice_get bytes.items (address - offset) else None
byte_for address (Fetch dev offset count) = None

-- the operation has these bits for DPDeinit or for ApplyDPInit
abbrev pub Sets : ℕ → Op → Type 0
Sets bits op = (byte_for (first_byte registers.DPDeinit) op ≡ Some bits) ⊎ (byte_for (first_byte registers.ApplyDPInit) op ≡ Some bits)

-- whatever became of the step: if it has bits, the bit of each of these lanes is set, and the bit of each other lane is clear
abbrev pub HasBitsOf : Lanes → Step → Type 0
HasBitsOf lanes step = (bits lane : ℕ) → Sets bits step.op → IsLane lane → set.contains (lanes_in bits) lane ≡ set.contains lanes lane

-- whatever became of it, the step sets no DPDeinit bit and no ApplyDPInit bit of a lane outside of these
abbrev pub LeavesOthers : Lanes → Step → Type 0
LeavesOthers lanes step = (bits lane : ℕ) → Sets bits step.op → IsLane lane → set.contains lanes lane ≡ false → set.contains (lanes_in bits) lane ≡ false
