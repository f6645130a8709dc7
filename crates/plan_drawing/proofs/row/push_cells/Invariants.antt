use Rattle.std.proofs.Common.{◌≡◌, ◌++◌, drop}
use Rattle.plan_drawing.specs.Picture.{cells}
use Rattle.plan_drawing.proofs.row.push_cells.Given as goal

-- what is there, and the lanes that are left, are the whole row
abbrev pub invariant-loop-index : goal.invariant-loop-index
invariant-loop-index l =
    l.initial.out.items ++ cells l.row l.contents.labels.items l.contents.control 0 0 l.owners
    ≡ l.out.items ++ cells l.row l.contents.labels.items l.contents.control l.index l.before (drop l.index l.owners)
