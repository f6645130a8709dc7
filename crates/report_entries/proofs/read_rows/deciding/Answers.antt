use Rattle.std.proofs.Common.{sym, ◌∙◌, arith}
use Rattle.std.proofs.lemmas.List.Folds.{list_all-map}
use Rattle.report_entries.specs.Rows.{instead_fits}
use Rattle.report_entries.specs.RowTables.{case_in}
use Rattle.report_entries.proofs.RowsFit.{at_fits}
use Rattle.report_entries.proofs.read_rows.deciding.Goals as goal

pub applies-requires : goal.applies-requires
applies-requires c =
    at_fits (λ case. instead_fits (case_in case)) c.args.instead.now c.loop-case.case-index _ (omega (arith, c.loop-case-test.true)) (sym (list_all-map instead_fits case_in c.args.instead.now) ∙ c.requires)
