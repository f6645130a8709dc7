-- What is read so far and what is left make the list.
use Rattle.std.proofs.Common.{◌≡◌, ◌+◌, ◌-◌, ◌++◌, length}
use Rattle.applications.specs.Descriptors.{apps_of}
use Rattle.applications.proofs.Listed.{apps_from}
use Rattle.applications.proofs.descriptors.apps_in.Given as goal

abbrev pub invariant-loop-before : goal.invariant-loop-before
invariant-loop-before l = record {
  read : apps_of l.image ≡ l.apps.items ++ apps_from l.image (l.before + 1) (15 - l.before);
  count : length l.apps.items ≡ l.before;
}
