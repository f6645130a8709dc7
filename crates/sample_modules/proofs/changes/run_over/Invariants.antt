use Rattle.std.proofs.Common.{◌≡◌, ◌+◌, drop}
use Rattle.sample_modules.specs.Changes.{run_over}
use Rattle.sample_modules.proofs.changes.run_over.Given as goal

-- what is left to write makes of the half what the whole run does
abbrev pub invariant-loop-index : goal.invariant-loop-index
invariant-loop-index l = run_over l.half (l.place + l.index) (drop l.index l.bytes) ≡ run_over l.fn.half l.place l.bytes
