use Rattle.std.proofs.Common.{◌≡◌, ◌+◌, drop}
use Rattle.sim_module.specs.Stores.{stored_bytes}
use Rattle.sim_module.specs.Record.{module_of}
use Rattle.sim_module.proofs.moving.Moving.store_bytes.Given as goal

-- what is left to store makes of the module what the whole store does
abbrev pub invariant-loop-index : goal.invariant-loop-index
invariant-loop-index l = stored_bytes (module_of l.fixed l.self) (l.address + l.index) (drop l.index l.bytes) ≡ stored_bytes (module_of l.fixed l.initial.self) l.address l.bytes
