use Rattle.std.proofs.Common.{◌≡◌}
use Rattle.control_sets.proofs.OutcomeRefusals.{applies_others, believes_refused, by_another, fills_too_soon, gives_up_early, goes_on_ended, goes_too_far, miscounted, names_highest, of_nothing, reads_twice, selects_again, selects_status_first, selects_twice, selects_unread, stages_others, stores_unready, trusts_selection}
use Rattle.control_sets.proofs.laws.what_provisioning_refuses.Goals as goal

pub returns : goal.returns
returns c = record {
  success_of_nothing = λ control lanes made room outcome. of_nothing control lanes (made ≡ room) outcome;
  success_by_another_read = λ control lanes made room step before steps other outcome. by_another control lanes (made ≡ room) step before steps other outcome;
  other_count = λ control lanes made room history outcome. miscounted control lanes (made ≡ room) history outcome;
  early_giving_up = λ control lanes made room step outcome. gives_up_early control lanes (made ≡ room) step outcome;
  store_on_unread_page = λ control lanes made room answer outcome. trusts_selection control lanes (made ≡ room) answer outcome;
  unread_selection = λ control lanes made room answer outcome. selects_twice control lanes (made ≡ room) answer outcome;
  selection_of_confirmed_page = λ control lanes made room answer outcome. selects_again control lanes (made ≡ room) answer outcome;
  store_before_ready = λ control lanes made room answer outcome. stores_unready control lanes (made ≡ room) answer outcome;
  repeated_answered_read = λ control lanes made room answer outcome. reads_twice control lanes (made ≡ room) answer outcome;
  refused_apply_believed = λ control lanes made room step before answer is none outcome. believes_refused control lanes (made ≡ room) step before answer is none outcome;
  highest_lane = λ lanes made room before outcome. names_highest lanes (made ≡ room) before outcome;
  unread_selection_made_again = λ control lanes made room answer outcome. selects_unread control lanes (made ≡ room) answer outcome;
  selection_of_no_use = λ control lanes made room answer outcome. selects_status_first control lanes (made ≡ room) answer outcome;
  other_bytes_staged = λ control others lanes made room step before answer is differ outcome. stages_others control lanes (made ≡ room) step before answer others is differ outcome;
  other_lanes_applied = λ control lanes made room bits step before answer is differ outcome. applies_others control lanes (made ≡ room) step before answer bits is differ outcome;
  step_after_the_end = λ control lanes made room step before answer outcome. goes_on_ended control lanes (made ≡ room) step before answer outcome;
  room_left = λ control lanes made room history left outcome. fills_too_soon control lanes (made ≡ room) history left outcome;
  too_many_steps = λ control lanes made room history answer many outcome. goes_too_far control lanes (made ≡ room) history answer many outcome;
}
