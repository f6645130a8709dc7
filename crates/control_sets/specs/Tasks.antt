-- The tasks of provisioning and activation: the operation of each, and the page that it needs. (docs/bus.md,
-- "Procedures"; OIF-CMIS-05.0, chapter 8 "Module Management Memory Map": module state of the lower memory, Data Path
-- Initialization Control and Staged Control Set 0 of page 10h, data path states, configuration statuses and the Active
-- Control Set of page 11h)
use Rattle.std.specs.Prelude.{ℕ, ◌-◌, List, [], ◌∷◌, Option}
use Rattle.field_tables.specs.LaneSets.{Lanes, byte_of}
use Rattle.bus_model.specs.declared.operation.Op.{Op}
use Rattle.field_tables.specs.declared.field.Register.TheVariants as registers
use Rattle.field_tables.specs.Registers as places
use Rattle.control_sets.specs.RegisterOperations.{read_of, store_to}
use Rattle.control_sets.specs.declared.procedures.task.Task.{Task}
use Rattle.control_sets.specs.declared.procedures.task.Task.TheVariants.{FindReady, Deinitialize, AwaitDeactivated, Stage, CheckStaged, Apply, AwaitApplied, CheckActive, AwaitActivated}

abbrev pub operation : Task → Op
operation FindReady = read_of registers.GlobalStatus
operation (Deinitialize bits) = store_to registers.DPDeinit (bits ∷ [])
operation (AwaitDeactivated lanes) = read_of registers.PathStates
operation (Stage control) = store_to registers.StagedControl control
operation (CheckStaged control) = read_of registers.StagedControl
operation (Apply bits) = store_to registers.ApplyDPInit (bits ∷ [])
operation (AwaitApplied lanes) = read_of registers.ConfigStatus
operation (CheckActive control) = read_of registers.ActiveControl
operation (AwaitActivated lanes) = read_of registers.PathStates

-- none for the lower memory
abbrev pub page_of : Task → Option ℕ
page_of FindReady = places.page_of registers.GlobalStatus
page_of (Deinitialize bits) = places.page_of registers.DPDeinit
page_of (AwaitDeactivated lanes) = places.page_of registers.PathStates
page_of (Stage control) = places.page_of registers.StagedControl
page_of (CheckStaged control) = places.page_of registers.StagedControl
page_of (Apply bits) = places.page_of registers.ApplyDPInit
page_of (AwaitApplied lanes) = places.page_of registers.ConfigStatus
page_of (CheckActive control) = places.page_of registers.ActiveControl
page_of (AwaitActivated lanes) = places.page_of registers.PathStates

-- these control bytes become active; data paths are taken down, and bytes applied, on these lanes alone
abbrev pub provisioning : List ℕ → Lanes → List Task
provisioning control lanes =
    FindReady
    ∷ Deinitialize (byte_of lanes) ∷ AwaitDeactivated lanes
    ∷ Stage control ∷ CheckStaged control
    ∷ Apply (byte_of lanes) ∷ AwaitApplied lanes
    ∷ CheckActive control
    ∷ []

-- if these control bytes are active, the data paths of the lanes come up and those of the others are taken down
abbrev pub activation : List ℕ → Lanes → List Task
activation control lanes =
    FindReady ∷ CheckActive control ∷ Deinitialize (255 - byte_of lanes) ∷ AwaitActivated lanes ∷ []
