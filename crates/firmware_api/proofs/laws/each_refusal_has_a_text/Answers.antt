use Rattle.firmware_api.proofs.RefusalTexts.{each_refusal_has_a_text}
use Rattle.firmware_api.proofs.laws.each_refusal_has_a_text.Goals as goal

pub returns : goal.returns
returns c = each_refusal_has_a_text
