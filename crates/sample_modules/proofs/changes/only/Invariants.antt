use Rattle.std.proofs.Common.{◌≡◌, drop}
use Rattle.std.specs.FinMap as map
use Rattle.sample_modules.specs.Changes.{gathered}
use Rattle.sample_modules.proofs.changes.only.Given as goal

-- what is left to gather makes of the halves what the whole does
abbrev pub invariant-loop-key : goal.invariant-loop-key
invariant-loop-key l = gathered l.image l.halves (drop l.key-index l.keys) ≡ gathered l.image map.empty l.keys
