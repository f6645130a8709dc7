use Rattle.std.proofs.Common.{arith}
use Rattle.report_entries.proofs.RowsFit.{at_fits}
use Rattle.module_details.specs.Fits.{case_fits}
use Rattle.module_details.proofs.read_rows.applies_any.Goals as goal

pub applies-requires : goal.applies-requires
applies-requires c = at_fits case_fits c.args.cases.now c.loop-case.case-index _ (omega (arith, c.loop-case-test.true)) c.requires
