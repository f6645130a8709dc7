-- A module is left alone only for what it was just found to be. (this project's own)
use Rattle.std.specs.Prelude.{◌≡◌, ◌⊎◌, ℕ, Some, ◌∷◌}
use Rattle.arrayvec.specs.ArrayVec.{ArrayVec}
use Rattle.bus_model.specs.declared.operation.Op.{Op}
use Rattle.bus_model.specs.declared.operation.Reply.{Reply}
use Rattle.bus_model.specs.declared.operation.Reply.TheVariants.{Bytes}
use Rattle.control_sets.specs.OutcomeCodes.{module_code}
use Rattle.control_sets.specs.OutcomeOperations.{read_module_state}
use Rattle.module_states.specs.declared.state.ModuleState.TheVariants.{LowPwr}
use Rattle.module_states.specs.Codes.{state_at}
use Rattle.paged_memory.specs.Images.{Memory}
use Rattle.paged_memory.specs.PageAddressing.{History}
use Rattle.port_manager.specs.declared.deciding.Decision.TheVariants.{Leave}
use Rattle.port_manager.specs.declared.deciding.LeftBecause.{LeftBecause}
use Rattle.port_manager.specs.declared.deciding.LeftBecause.TheVariants.{Asleep}
use Rattle.port_manager.specs.declared.deciding.Wanted.{Wanted}
use Rattle.port_manager.specs.declared.port.Outcome.{Outcome}
use Rattle.port_manager.specs.declared.port.Outcome.TheVariants as outcome
use Rattle.port_manager.specs.Decisions.{IsDecision}
use Rattle.port_manager.specs.MadeOperations.{EachMade}
use Rattle.port_manager.specs.Readings.{IsJustRead, SleepsIn}
use Rattle.port_manager.specs.Requests.{granted}
use Rattle.port_manager.specs.Stories.{Story, request_in, step_with, steps_of}

-- a reading has just read the module, of which that is decided
abbrev pub IsLeftAsRead : Wanted → History → LeftBecause → Type 0
IsLeftAsRead wanted history reason = (image : Memory) × IsJustRead history image × IsDecision wanted image (Leave reason)

-- the module's state was just read as low power
abbrev pub IsReadAsleep : Op → Reply → Type 0
IsReadAsleep op reply = (bytes : ArrayVec ℕ) × (op ≡ read_module_state) × (reply ≡ Bytes bytes) × (state_at (module_code bytes.items) ≡ Some LowPwr)

-- to which it was put by the last reading
abbrev pub IsPutToSleep : Story → Op → Reply → LeftBecause → Type 0
IsPutToSleep before op reply reason = (reason ≡ Asleep) × SleepsIn before × IsReadAsleep op reply

abbrev pub IfLeft : Outcome → (LeftBecause → Type 0) → Type 0
IfLeft outcome.Dropped P = Unit {0}
IfLeft (outcome.Went note) P = Unit {0}
IfLeft (outcome.Paused moment) P = Unit {0}
IfLeft (outcome.Failed fault moment) P = Unit {0}
IfLeft (outcome.Left reason) P = P reason

-- by what was wanted with that reply, and asked by then
abbrev pub IsLeftSo : Story → Op → Reply → Wanted → ℕ → Outcome → Type 0
IsLeftSo before op reply wanted now result =
    IfLeft result (λ reason. IsLeftAsRead (granted (request_in before) wanted) (step_with op reply ∷ steps_of before) reason ⊎ IsPutToSleep before op reply reason)

-- each time
abbrev pub LeftAsFound : Story → Type 0
LeftAsFound = EachMade IsLeftSo
