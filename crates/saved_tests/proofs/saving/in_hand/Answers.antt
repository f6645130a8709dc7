use Rattle.std.proofs.Common.{◌∙◌, ap}
use Rattle.saved_tests.specs.declared.numbers.SavedChange.{SavedChange}
use Rattle.saved_tests.specs.SavedTests.{change_in, is_hand}
use Rattle.saved_tests.proofs.TestsBack.{change_back, hand_known}
use Rattle.saved_tests.proofs.saving.in_hand.Goals as goal

pub returns-clause-same : goal.returns-clause-same
returns-clause-same c = ap (λ (saved : SavedChange). change_in saved) c.numbers_of_change.ensures ∙ change_back c.args.change

pub returns-clause-known : goal.returns-clause-known
returns-clause-known c = ap (λ (saved : SavedChange). is_hand saved.switch.control) c.numbers_of_change.ensures ∙ hand_known c.args.change.switch.control
