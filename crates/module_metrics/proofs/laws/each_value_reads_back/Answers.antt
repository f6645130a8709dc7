use Rattle.module_metrics.proofs.QuotedValues.{reads_back}
use Rattle.module_metrics.proofs.laws.each_value_reads_back.Goals as goal

pub returns : goal.returns
returns c = reads_back
