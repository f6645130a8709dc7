use Rattle.std.proofs.Common.{◌≡◌, length, map, take}
use Rattle.saved_tests.specs.SavedTests.{switch_in}
use Rattle.saved_tests.proofs.lists.each_switch_in.Given as goal

-- those so far
abbrev pub invariant-loop-switch : goal.invariant-loop-switch
invariant-loop-switch l = record {
  items : l.switches.items ≡ map switch_in (take l.switch-index l.saved);
  count : length l.switches.items ≡ l.switch-index;
}
