use Rattle.std.proofs.Common.{◌∙◌, ℕ, ap}
use Rattle.saved_tests.specs.SavedControls.{control_in}
use Rattle.saved_tests.specs.SavedTests.{is_hand}
use Rattle.saved_tests.proofs.ControlsBack.{control_back}
use Rattle.saved_tests.proofs.TestsBack.{hand_known}
use Rattle.saved_tests.proofs.saving.byte_of.Goals as goal

pub returns-clause-same : goal.returns-clause-same
returns-clause-same c = ap (λ (byte : ℕ). control_in byte) c.address.ensures.value ∙ control_back c.args.control

pub returns-clause-known : goal.returns-clause-known
returns-clause-known c = ap (λ (byte : ℕ). is_hand byte) c.address.ensures.value ∙ hand_known c.args.control
