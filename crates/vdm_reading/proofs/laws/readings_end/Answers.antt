use Rattle.vdm_reading.proofs.EndingLaws.{few}
use Rattle.vdm_reading.proofs.laws.readings_end.Goals as goal

pub returns : goal.returns
returns c = few
