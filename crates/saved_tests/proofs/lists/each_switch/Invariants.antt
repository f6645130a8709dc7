use Rattle.std.proofs.Common.{◌≡◌, length, map, take}
use Rattle.saved_tests.specs.SavedTests.{numbers_of_switch}
use Rattle.saved_tests.proofs.lists.each_switch.Given as goal

-- those so far
abbrev pub invariant-loop-switch : goal.invariant-loop-switch
invariant-loop-switch l = record {
  items : l.numbers.items ≡ map numbers_of_switch (take l.switch-index l.switches);
  count : length l.numbers.items ≡ l.switch-index;
}
