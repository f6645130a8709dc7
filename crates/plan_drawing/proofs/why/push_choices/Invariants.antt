use Rattle.std.proofs.Common.{◌≡◌, ◌++◌, drop, map}
use Rattle.text_lines.specs.Lines.{text_of}
use Rattle.plan_drawing.specs.Why.{choice_line}
use Rattle.plan_drawing.proofs.why.push_choices.Given as goal

-- what is there, and the lines that are left, are the whole
abbrev pub invariant-loop-choice : goal.invariant-loop-choice
invariant-loop-choice l =
    l.initial.out.items ++ text_of (map (choice_line l.paths l.lane l.gain) l.choices)
    ≡ l.out.items ++ text_of (map (choice_line l.paths l.lane l.gain) (drop l.choice-index l.choices))
