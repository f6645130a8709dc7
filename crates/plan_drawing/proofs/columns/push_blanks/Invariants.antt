use Rattle.std.proofs.Common.{◌≡◌, ◌++◌}
use Rattle.plan_drawing.specs.Why.{blanks}
use Rattle.plan_drawing.proofs.columns.push_blanks.Given as goal

-- so many are there
abbrev pub invariant-loop-column : goal.invariant-loop-column
invariant-loop-column l = l.out.items ≡ l.initial.out.items ++ blanks l._column
