use Rattle.std.proofs.Common.{◌≡◌, ◌≤◌, ◌+◌, ◌∷◌, ◌++◌, drop, length}
use Rattle.bus_model.specs.declared.device.Dev.TheVariants.{A0}
use Rattle.module_reading.specs.declared.region.Region.TheVariants.{Lower}
use Rattle.module_reading.specs.Regions.{requested}
use Rattle.module_reading.proofs.asked.requested.Given as goal

-- the lower half and those that were requested so far, and those that are requested of the halves that are left
abbrev pub invariant-loop-bit : goal.invariant-loop-bit
invariant-loop-bit l =
    (l.regions.items ++ requested l.request (drop l.bit-index l.halves) ≡ Lower A0 ∷ requested l.request l.halves)
    × (length l.regions.items ≤ l.bit-index + 1)
