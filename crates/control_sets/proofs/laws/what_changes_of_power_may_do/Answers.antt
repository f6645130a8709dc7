use Rattle.std.proofs.Common.{◌≡◌}
use Rattle.control_sets.proofs.PowerExamples.{asleep, faulty, stores_another, stores_twice, unstored, woken}
use Rattle.control_sets.proofs.laws.what_changes_of_power_may_do.Goals as goal

pub returns : goal.returns
returns c = record {
  woken = λ made room. woken (made ≡ room);
  asleep = λ made room. asleep (made ≡ room);
  faulty = λ made room. faulty (made ≡ room);
  no_success_without_a_store = λ made room steps outcome. unstored (made ≡ room) steps outcome;
  no_other_byte = λ power made room byte answer no_zero no_sixteen outcome. stores_another power (made ≡ room) byte answer no_zero no_sixteen outcome;
  no_second_store = λ power made room byte other before answer outcome. stores_twice power (made ≡ room) byte other before answer outcome;
}
