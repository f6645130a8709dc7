use Rattle.vdm_reading.proofs.StoreLaws.{only}
use Rattle.vdm_reading.proofs.laws.only_the_freeze_bit_is_stored.Goals as goal

pub returns : goal.returns
returns c = only
