use Rattle.vdm_reading.proofs.LostLaws.{lost_alone}
use Rattle.vdm_reading.proofs.laws.a_refusal_loses_its_page_alone.Goals as goal

pub returns : goal.returns
returns c = lost_alone
