-- The byte of global controls by which a host wakes a module up, or puts it to sleep. (docs/bus.md, "Waking and sleeping";
-- OIF-CMIS-05.0, Module State Machine, and Module Global Controls, byte 26 of the lower memory)
use Rattle.std.specs.Prelude.{ℕ, ◌+◌, ◌-◌, ◌^◌, [], ◌∷◌, if◌then◌else◌}
use Rattle.bus_model.specs.declared.operation.Op.{Op}
use Rattle.field_tables.specs.declared.field.Field.{Field}
use Rattle.field_tables.specs.declared.field.Field.TheVariants as fields
use Rattle.field_tables.specs.declared.table.cmis.CmisField.TheVariants as cmis
use Rattle.field_tables.specs.declared.field.Register.TheVariants as registers
use Rattle.field_tables.specs.FieldRows.{row_of}
use Rattle.field_tables.specs.FieldValues.{is_set}
use Rattle.field_tables.specs.Parts.{low_of}
use Rattle.module_states.specs.declared.state.ModuleState.{ModuleState}
use Rattle.module_states.specs.declared.state.ModuleState.TheVariants.{LowPwr, Ready}
use Rattle.control_sets.specs.RegisterOperations.{read_of, store_to}
use Rattle.control_sets.specs.declared.procedures.power.Power.{Power}
use Rattle.control_sets.specs.declared.procedures.power.Power.TheVariants.{Awake, Asleep}

-- what the bit of a field adds to its byte
abbrev pub bit_of : Field → ℕ
bit_of field = 2 ^ low_of (row_of field).bits

abbrev pub cleared : Field → ℕ → ℕ
cleared field byte = if is_set field byte then byte - bit_of field else byte

abbrev pub set_in : Field → ℕ → ℕ
set_in field byte = if is_set field byte then byte else byte + bit_of field

-- what is stored if this byte was read: neither the pin nor software asks for low power, or software does; nothing is reset, and
-- the other bits stay
unfoldable pub wanted_controls : Power → ℕ → ℕ
wanted_controls Awake byte = cleared (fields.Cmis cmis.SoftwareReset) (cleared (fields.Cmis cmis.LowPwrRequestSW) (cleared (fields.Cmis cmis.LowPwrAllowHW) byte))
wanted_controls Asleep byte = cleared (fields.Cmis cmis.SoftwareReset) (set_in (fields.Cmis cmis.LowPwrRequestSW) byte)

-- the state that a module is to come to
abbrev pub wanted_state : Power → ModuleState
wanted_state Awake = Ready
wanted_state Asleep = LowPwr

abbrev pub read_controls : Op
read_controls = read_of registers.GlobalControls

abbrev pub set_controls : ℕ → Op
set_controls byte = store_to registers.GlobalControls (byte ∷ [])
