use Rattle.std.proofs.Common.{◌≡◌, ◌+◌, arith}
use Rattle.std.proofs.lemmas.Grind.{common_steps}
use Rattle.module_details.specs.Details.{name_if_set}
use Rattle.module_details.proofs.Ranges.{flat_map_more}
use Rattle.module_details.proofs.facts.names_of.Goals as goal

pub loop-before-preserved : goal.loop-before-preserved
loop-before-preserved c =
    let more = flat_map_more (name_if_set c.args.image.now c.args.table c.args.field c.args.first) c.loop-before.before in
    grind (arith, common_steps)
