use Rattle.std.proofs.Common.{◌≡◌, ◌+◌, drop}
use Rattle.simulated_statistics.specs.FreezingModules.{stored_bytes}
use Rattle.simulated_statistics.proofs.module.FreezingModule.store_bytes.Given as goal

-- what is left to store makes of the module what the whole store does
abbrev pub invariant-loop-index : goal.invariant-loop-index
invariant-loop-index l = stored_bytes l.self l.dev (l.address + l.index) (drop l.index l.bytes) ≡ stored_bytes l.initial.self l.dev l.address l.bytes
