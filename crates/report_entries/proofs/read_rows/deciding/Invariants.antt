use Rattle.std.proofs.Common.{◌≡◌, drop}
use Rattle.report_entries.specs.RowTables.{cases_in}
use Rattle.report_entries.specs.Rows.{deciding}
use Rattle.report_entries.proofs.read_rows.deciding.Given as goal

-- none so far applies
abbrev pub invariant-loop-case : goal.invariant-loop-case
invariant-loop-case l = deciding l.image (cases_in l.instead) ≡ deciding l.image (cases_in (drop l.case-index l.instead))
