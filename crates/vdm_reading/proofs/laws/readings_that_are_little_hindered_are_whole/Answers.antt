use Rattle.vdm_reading.proofs.LostLaws.{whole}
use Rattle.vdm_reading.proofs.laws.readings_that_are_little_hindered_are_whole.Goals as goal

pub returns : goal.returns
returns c = whole
