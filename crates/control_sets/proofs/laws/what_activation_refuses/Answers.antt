use Rattle.std.proofs.Common.{◌≡◌}
use Rattle.control_sets.proofs.OutcomeActivationRefusals.{believes_refused, by_another, overlooks_lane, overlooks_reserved, reads_twice, releases_twice, releases_unread, selects_controls_first}
use Rattle.control_sets.proofs.laws.what_activation_refuses.Goals as goal

pub returns : goal.returns
returns c = record {
  success_by_another_read = λ control lanes made room step before steps other outcome. by_another control lanes (made ≡ room) step before steps other outcome;
  lane_overlooked = λ control bytes lanes made room lane before steps is other outcome. overlooks_lane control lanes (made ≡ room) bytes before steps lane is other outcome;
  reserved_code_overlooked = λ control bytes lanes made room lane before steps is reserved outcome. overlooks_reserved control lanes (made ≡ room) bytes before steps lane is reserved outcome;
  release_of_what_is_not_active = λ control lanes made room step before answer is none outcome. releases_unread control lanes (made ≡ room) step before answer is none outcome;
  refused_release_believed = λ control lanes made room step before answer is none outcome. believes_refused control lanes (made ≡ room) step before answer is none outcome;
  second_release = λ control lanes made room before answer earlier outcome. releases_twice control lanes (made ≡ room) before answer earlier outcome;
  repeated_answered_read = λ control bytes lanes made room before answer earlier outcome. reads_twice control lanes (made ≡ room) bytes before answer earlier outcome;
  selection_of_no_use = λ control lanes made room answer outcome. selects_controls_first control lanes (made ≡ room) answer outcome;
}
