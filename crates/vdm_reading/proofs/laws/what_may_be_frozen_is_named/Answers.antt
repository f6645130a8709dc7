use Rattle.vdm_reading.proofs.ReleaseLaws.{names}
use Rattle.vdm_reading.proofs.laws.what_may_be_frozen_is_named.Goals as goal

pub returns : goal.returns
returns c = names
