use Rattle.std.proofs.Common.{◌≡◌, refl}
use Rattle.control_sets.proofs.OutcomeAdmissions.{active_is_another, bank_was_another, controls_selected, given_up, in_low_power, in_no_state, none_made, read_after_refusals, selection_was_refused, selection_was_repeated, status_selected}
use Rattle.control_sets.proofs.OutcomeSuccesses.{all_activated, all_provisioned, provisioned_beside}
use Rattle.control_sets.proofs.laws.what_procedures_may_do.Goals as goal

pub returns : goal.returns
returns c = record {
  no_room = λ room. none_made (room ≡ room) refl;
  low_power = λ made room. in_low_power (made ≡ room);
  refused_reads = λ made room. read_after_refusals (made ≡ room);
  reserved_state = λ made room. in_no_state (made ≡ room);
  selected = λ room. controls_selected (room ≡ room) refl;
  refused_selection = λ room. selection_was_refused (room ≡ room) refl;
  repeated_selection = λ room. selection_was_repeated (room ≡ room) refl;
  other_bank = λ room. bank_was_another (room ≡ room) refl;
  active_differs = λ made room. active_is_another (made ≡ room);
  activation_without_room = λ room. status_selected (room ≡ room) refl;
  given_up = λ made room. given_up (made ≡ room);
  provisioned = λ made room. all_provisioned (made ≡ room);
  provisioned_beside_reserved_codes = λ made room. provisioned_beside (made ≡ room);
  activated = λ made room. all_activated (made ≡ room);
}
