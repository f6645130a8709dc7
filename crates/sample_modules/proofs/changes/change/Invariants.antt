use Rattle.std.proofs.Common.{◌≡◌, drop}
use Rattle.sample_modules.specs.Changes.{changed}
use Rattle.sample_modules.proofs.changes.change.Given as goal

-- what is left to change makes of the half what the whole does
abbrev pub invariant-loop-address : goal.invariant-loop-address
invariant-loop-address l = changed l.half (drop l.address-index l.changes) ≡ changed l.fn.half l.changes
