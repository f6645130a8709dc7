use Rattle.std.proofs.Common.{◌≡◌, ◌+◌, ◌≤◌, ◌++◌, drop, length, map}
use Rattle.std.specs.List.{enumerate_from}
use Rattle.plan_drawing.specs.Picture.{label_of, labels_of}
use Rattle.plan_drawing.proofs.picture.labels_of.Given as goal

-- the labels so far, and those of the paths that are left, are the whole
abbrev pub invariant-loop-index : goal.invariant-loop-index
invariant-loop-index l = record {
  whole : labels_of l.kept l.paths ≡ l.labels.items ++ map (label_of l.kept) (enumerate_from (l.index + 1) (drop l.index l.paths));
  few : length l.labels.items ≤ l.index;
}
