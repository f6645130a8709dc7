use Rattle.vdm_reading.proofs.QuietLaws.{all_read}
use Rattle.vdm_reading.proofs.laws.a_window_that_nothing_hinders_is_read_whole.Goals as goal

pub returns : goal.returns
returns c old new memory events reading over none lower has told ended = all_read old new memory events reading over told ended none lower has
