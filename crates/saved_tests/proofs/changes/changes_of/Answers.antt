use Rattle.std.proofs.Common.{◌≡◌, ◌∙◌, ℕ, List, length, map, take, ap, rules}
use Rattle.lane_controls.specs.declared.test_plan.Change.{Change}
use Rattle.saved_tests.specs.SavedTests.{numbers_of_change}
use Rattle.saved_tests.proofs.changes.changes_of.Goals as goal

pub returns : goal.returns
returns c =
    let listed = c.changes-listed.ensures.value in
    let many : c.len-count.result ≡ length c.changes-listed.result.items = search rules in
    record {
      count = many ∙ ap (λ (changes : List Change). length changes) listed;
      each =
          ap (λ (n : ℕ). take n c.all_changes-changes.result) many ∙ c.all_changes-changes.ensures
          ∙ ap (λ (changes : List Change). map numbers_of_change changes) listed;
    }
