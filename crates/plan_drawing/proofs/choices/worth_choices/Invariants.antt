use Rattle.std.proofs.Common.{◌≡◌, ◌+◌, ◌≤◌, ◌++◌, drop, length, map}
use Rattle.plan_drawing.specs.Choices.{path_on, worth_choices}
use Rattle.plan_drawing.specs.Walks.{basis_of}
use Rattle.plan_drawing.proofs.choices.worth_choices.Given as goal

-- those so far, and those of the media lanes that are left, are the whole
abbrev pub invariant-loop-lane : goal.invariant-loop-lane
invariant-loop-lane l = record {
  whole : worth_choices (basis_of l.problem l.gains) l.state (map (path_on (l.state.boundary + 1) l.app.number) l.lanes)
      ≡ l.choices.items
      ++ worth_choices (basis_of l.problem l.gains) l.state (map (path_on (l.state.boundary + 1) l.app.number) (drop l.lane-index l.lanes));
  few : length l.choices.items ≤ l.lane-index;
}
