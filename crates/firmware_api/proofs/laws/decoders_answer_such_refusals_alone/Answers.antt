use Rattle.firmware_api.proofs.DecodersRefuse.{of_report}
use Rattle.firmware_api.proofs.laws.decoders_answer_such_refusals_alone.Goals as goal

pub returns : goal.returns
returns c = of_report
