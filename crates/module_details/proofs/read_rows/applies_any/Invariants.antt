use Rattle.std.proofs.Common.{◌≡◌, drop}
use Rattle.std.specs.List.{list_any}
use Rattle.module_details.specs.Details.{applies}
use Rattle.module_details.proofs.read_rows.applies_any.Given as goal

-- none so far applies
abbrev pub invariant-loop-case : goal.invariant-loop-case
invariant-loop-case l = list_any (applies l.image) l.cases ≡ list_any (applies l.image) (drop l.case-index l.cases)
