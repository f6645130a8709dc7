use Rattle.std.proofs.Common.{◌≡◌, length, map, take}
use Rattle.saved_tests.specs.SavedTests.{numbers_of_change}
use Rattle.saved_tests.proofs.lists.each_change.Given as goal

-- those so far
abbrev pub invariant-loop-change : goal.invariant-loop-change
invariant-loop-change l = record {
  items : l.numbers.items ≡ map numbers_of_change (take l.change-index l.changes);
  count : length l.numbers.items ≡ l.change-index;
}
