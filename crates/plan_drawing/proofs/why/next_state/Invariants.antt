use Rattle.std.proofs.Common.{◌≡◌, drop}
use Rattle.plan_drawing.specs.Walks.{path_at}
use Rattle.plan_drawing.proofs.why.next_state.Given as goal

-- none of the paths so far begins at the lane
abbrev pub invariant-loop-path : goal.invariant-loop-path
invariant-loop-path l = path_at l.paths l.lane ≡ path_at (drop l.path-index l.paths) l.lane
