use Rattle.std.proofs.Common.{◌≡◌, drop, find}
use Rattle.lane_planner.specs.Tables.{move_keeps_gain}
use Rattle.lane_planner.proofs.choices.chosen.Given as goal

-- none so far keeps the gain
abbrev pub invariant-loop-one : goal.invariant-loop-one
invariant-loop-one l = find (move_keeps_gain l.kept l.table l.state) (drop l.one-index l.moves) ≡ find (move_keeps_gain l.kept l.table l.state) l.moves
