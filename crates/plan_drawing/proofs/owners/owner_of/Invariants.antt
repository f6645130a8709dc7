use Rattle.std.proofs.Common.{◌≡◌, ◌+◌, drop}
use Rattle.plan_drawing.specs.Owners.{lanes_on, owner_from}
use Rattle.plan_drawing.proofs.owners.owner_of.Given as goal

-- none of the paths so far takes the lane
abbrev pub invariant-loop-index : goal.invariant-loop-index
invariant-loop-index l = owner_from (lanes_on l.side l.advert) l.lane 1 l.paths ≡ owner_from (lanes_on l.side l.advert) l.lane (l.index + 1) (drop l.index l.paths)
