use Rattle.std.proofs.Common.{◌∙◌, ap}
use Rattle.saved_tests.specs.declared.numbers.SavedSwitch.{SavedSwitch}
use Rattle.saved_tests.specs.SavedTests.{is_hand, switch_in}
use Rattle.saved_tests.proofs.TestsBack.{hand_known, switch_back}
use Rattle.saved_tests.proofs.saving.unread.Goals as goal

pub returns-clause-same : goal.returns-clause-same
returns-clause-same c = ap (λ (saved : SavedSwitch). switch_in saved) c.numbers_of_switch.ensures ∙ switch_back c.args.switch

pub returns-clause-known : goal.returns-clause-known
returns-clause-known c = ap (λ (saved : SavedSwitch). is_hand saved.control) c.numbers_of_switch.ensures ∙ hand_known c.args.switch.control
