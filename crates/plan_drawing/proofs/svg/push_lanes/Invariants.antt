use Rattle.std.proofs.Common.{◌≡◌, ◌++◌, drop, map}
use Rattle.text_lines.specs.Lines.{text_of}
use Rattle.plan_drawing.specs.Svg.{lane_elements}
use Rattle.plan_drawing.proofs.svg.push_lanes.Given as goal

-- what is there, and the lanes that are left, are the whole
abbrev pub invariant-loop-lane : goal.invariant-loop-lane
invariant-loop-lane l =
    l.initial.out.items ++ text_of (map lane_elements l.lanes) ≡ l.out.items ++ text_of (map lane_elements (drop l.lane-index l.lanes))
