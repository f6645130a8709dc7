-- What a device keeps, whatever a script does with the operations on the bus. (docs/bus.md, "Scripted bus"; this project's
-- own)
use Rattle.std.specs.Prelude.{ℕ, Bool, take}
use Rattle.bus_model.specs.declared.operation.Op.{Op}
use Rattle.bus_model.specs.declared.operation.Op.TheVariants.{Fetch, Store}
use Rattle.bus_model.specs.declared.script.Directive.{Directive}
use Rattle.bus_model.specs.declared.script.Directive.TheVariants.{Pass, Nack, Cut, Tick, LowPower}
use Rattle.bus_model.specs.Conduct.{Conduct}

-- the low-power pin is set to one of these settings only
abbrev pub AllowsPins : (Bool → Type 0) → Directive → Type 0
AllowsPins Pins (Pass count) = Unit {0}
AllowsPins Pins (Nack count) = Unit {0}
AllowsPins Pins (Cut kept) = Unit {0}
AllowsPins Pins (Tick count) = Unit {0}
AllowsPins Pins (LowPower on) = Pins on

-- time, and the pin at these settings, lead from a state of which P holds to another
pub record IsKeptInTime {S : Type 0} (conduct : Conduct S) (Pins : Bool → Type 0) (P : S → Type 0) : Type 0 where
  pub tick : (state : S) → P state → P (conduct.tick state)
  pub low_power_pin : (state : S) (on : Bool) → Pins on → P state → P (conduct.low_power_pin state on)

-- so does an operation, made whole or, if it is a store, cut short
abbrev pub IsKeptBy : {S : Type 0} → Conduct S → (S → Type 0) → Op → Type 0
IsKeptBy {S} conduct P (Fetch dev offset count) =
    (state : S) → P state → P (conduct.fetch state dev offset count).1
IsKeptBy {S} conduct P (Store dev offset bytes) =
    ((state : S) → P state → P (conduct.store state dev offset bytes.items).1)
    × ((state : S) (kept : ℕ) → P state → P (conduct.store state dev offset (take kept bytes.items)).1)
