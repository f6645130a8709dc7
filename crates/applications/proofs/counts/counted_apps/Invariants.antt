use Rattle.std.proofs.Common.{◌≡◌, length, map, take}
use Rattle.applications.specs.CountsById.{counted}
use Rattle.applications.proofs.counts.counted_apps.Given as goal

-- the Applications so far
abbrev pub invariant-loop-app : goal.invariant-loop-app
invariant-loop-app l = (l.counted.items ≡ map (counted l.media_type) (take l.app-index l.apps)) × (length l.counted.items ≡ l.app-index)
