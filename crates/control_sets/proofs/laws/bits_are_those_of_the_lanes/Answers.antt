use Rattle.control_sets.proofs.StoredBitLaws.{each_has_bits, others_left}
use Rattle.control_sets.proofs.laws.bits_are_those_of_the_lanes.Goals as goal

pub returns-clause-each : goal.returns-clause-each
returns-clause-each c doubts control lanes made room history answer outcome = each_has_bits doubts control lanes history outcome.shape

pub returns-clause-others : goal.returns-clause-others
returns-clause-others c doubts control lanes made room history answer outcome = others_left lanes history (each_has_bits doubts control lanes history outcome.shape)

pub returns-clause-unfinished : goal.returns-clause-unfinished
returns-clause-unfinished c doubts control lanes history outcome = each_has_bits doubts control lanes history outcome.shape

pub returns-clause-others_unfinished : goal.returns-clause-others_unfinished
returns-clause-others_unfinished c doubts control lanes history outcome = others_left lanes history (each_has_bits doubts control lanes history outcome.shape)
