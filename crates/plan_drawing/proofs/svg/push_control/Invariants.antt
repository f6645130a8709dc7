use Rattle.std.proofs.Common.{◌≡◌, ◌+◌, ◌++◌, drop, map}
use Rattle.std.specs.List.{enumerate_from}
use Rattle.text_lines.specs.Lines.{text_of}
use Rattle.plan_drawing.specs.Svg.{control_element}
use Rattle.plan_drawing.proofs.svg.push_control.Given as goal

-- what is there, and the lanes that are left, are the whole
abbrev pub invariant-loop-index : goal.invariant-loop-index
invariant-loop-index l =
    l.initial.out.items ++ text_of (map control_element (enumerate_from 1 l.control))
    ≡ l.out.items ++ text_of (map control_element (enumerate_from (l.index + 1) (drop l.index l.control)))
