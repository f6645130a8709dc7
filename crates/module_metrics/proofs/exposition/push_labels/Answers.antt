use Rattle.std.proofs.Common.{arith}
use Rattle.std.proofs.lemmas.Grind.{common_steps}
use Rattle.module_metrics.proofs.LabelTexts.{bracketed_append}
use Rattle.module_metrics.proofs.exposition.push_labels.Goals as goal

pub returns : goal.returns
returns c =
    let parts = bracketed_append c.args.common.now c.args.own.now in
    grind (arith, common_steps)
