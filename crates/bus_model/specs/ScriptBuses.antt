-- What a scripted bus is seen as. (docs/bus.md, "Scripted bus"; this project's own)
use Rattle.std.specs.Prelude.{ℕ, List}
use Rattle.bus_model.specs.declared.operation.Step.{Step}
use Rattle.bus_model.specs.declared.script.Directive.{Directive}
use Rattle.bus_model.specs.Runs.{Seen}

pub record Scripted (D : Type 0) : Type 0 where
  pub device : D
  pub script : List Directive
  pub steps : List Step
  pub room : ℕ

-- what a bus with a device of this state is, if the device is its own state
abbrev pub seen_at : {D : Type 0} → Scripted D → Seen (List Directive × D)
seen_at bus = record { steps = bus.steps; room = bus.room; state = (bus.script, bus.device) }
