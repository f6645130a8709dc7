use Rattle.std.proofs.Common.{◌≡◌, ◌≤◌, ◌++◌, drop}
use Rattle.text_lines.specs.Lines.{text_of}
use Rattle.plan_certificate.specs.States.{start}
use Rattle.plan_drawing.specs.Walks.{basis_of}
use Rattle.plan_drawing.specs.Why.{reasons_on}
use Rattle.plan_drawing.proofs.why.push_why.Given as goal

-- what is there, and what the host lanes that are left add, are the whole
abbrev pub invariant-loop-lane : goal.invariant-loop-lane
invariant-loop-lane l = record {
  whole : l.initial.out.items ++ text_of (reasons_on (basis_of l.problem l.gains) l.paths start l.lanes)
      ≡ l.out.items ++ text_of (reasons_on (basis_of l.problem l.gains) l.paths l.state (drop l.lane-index l.lanes));
  within : l.state.boundary ≤ 8;
}
