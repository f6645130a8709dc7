use Rattle.std.proofs.Common.{◌≡◌, length, map, take}
use Rattle.saved_tests.specs.SavedTests.{change_in}
use Rattle.saved_tests.proofs.lists.each_change_in.Given as goal

-- those so far
abbrev pub invariant-loop-change : goal.invariant-loop-change
invariant-loop-change l = record {
  items : l.changes.items ≡ map change_in (take l.change-index l.saved);
  count : length l.changes.items ≡ l.change-index;
}
