use Rattle.vdm_reading.proofs.SetLaws.{were_read, were_set}
use Rattle.vdm_reading.proofs.laws.what_is_called_frozen_belongs_together.Goals as goal

pub returns-clause-read : goal.returns-clause-read
returns-clause-read c = were_read

pub returns-clause-frozen : goal.returns-clause-frozen
returns-clause-frozen c = were_set
