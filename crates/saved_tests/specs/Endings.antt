-- How a link test ended, and what it may leave on, as numbers. (docs/lanes.md, "From C and Python"; this project's own)
use Rattle.std.specs.Prelude.{◌≡◌, ℕ, List, length, map, take, Option, Some, None}
use Rattle.conversations.specs.declared.pausing.Timed.{Timed}
use Rattle.conversations.specs.declared.pausing.Timed.TheVariants.{InTime, Overdue}
use Rattle.conversations.specs.declared.within.Spent.{Spent}
use Rattle.lane_controls.specs.declared.link_test.TestEnd.{TestEnd}
use Rattle.lane_controls.specs.declared.test_plan.Change.{Change}
use Rattle.saved_tests.specs.declared.changes.SavedChanges.{SavedChanges}
use Rattle.saved_tests.specs.declared.ending.SavedTestEnd.{SavedTestEnd}
use Rattle.saved_tests.specs.SavedTests.{numbers_of_change, numbers_of_fault}

-- it ended so, or was out of patience, or made as many operations as may be
abbrev pub numbers_of_timed : Option (Timed TestEnd) → ℕ × ℕ
numbers_of_timed (Some (InTime end)) = numbers_of_fault end.fault
numbers_of_timed (Some Overdue) = (10, 0)
numbers_of_timed None = (11, 0)

abbrev pub ending_by : ℕ × ℕ → SavedTestEnd
ending_by (end, control) = record { end = end; control = control }

abbrev pub ending_of : Spent (Timed TestEnd) → SavedTestEnd
ending_of spent = ending_by (numbers_of_timed spent.end)

-- these are their numbers
pub record AreChanges (saved : SavedChanges) (changes : List Change) : Type 0 where
  pub count : saved.count ≡ length changes
  pub each : take saved.count saved.changes ≡ map numbers_of_change changes
