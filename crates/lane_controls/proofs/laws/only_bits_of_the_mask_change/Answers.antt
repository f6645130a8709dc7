use Rattle.lane_controls.proofs.MergingLaws.{takes_bits}
use Rattle.lane_controls.proofs.laws.only_bits_of_the_mask_change.Goals as goal

pub returns : goal.returns
returns c = takes_bits
