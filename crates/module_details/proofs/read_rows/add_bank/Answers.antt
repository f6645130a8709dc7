use Rattle.std.proofs.Common.{◌≡◌, ◌+◌, arith}
use Rattle.std.proofs.lemmas.Grind.{common_steps}
use Rattle.module_details.specs.Details.{lane_entries}
use Rattle.module_details.specs.Fits.{item_fits}
use Rattle.module_details.specs.RowTables.{item_in}
use Rattle.module_details.proofs.Ranges.{flat_map_more, of_range}
use Rattle.module_details.proofs.read_rows.add_bank.Goals as goal

pub loop-before-preserved : goal.loop-before-preserved
unfolding lane_entries
loop-before-preserved c =
    let row = c.args.row.now in
    let more = flat_map_more (lane_entries c.args.identifier row.name.now (item_in row.item.now) c.args.bank c.args.lanes.now) c.loop-before.before in
    grind (arith, common_steps)

pub fact_at-fact-requires-clause-item : goal.fact_at-fact-requires-clause-item
fact_at-fact-requires-clause-item c = of_range (item_fits (item_in c.args.row.now.item.now)) c.args.row.now.count (c.loop-before.before + 1) c.requires.fits (omega arith) (omega (arith, c.loop-before-test.true))
