use Rattle.std.proofs.Common.{◌≡◌, drop}
use Rattle.std.specs.List.{enumerate_from}
use Rattle.field_tables.specs.FirstFault.{first_fault}
use Rattle.plan_certificate.specs.Verdicts.{missing_flaw, missing_flaws}
use Rattle.plan_certificate.proofs.Searches.{each_alone}
use Rattle.plan_certificate.proofs.flaws.missing_flaw.Given as goal

-- the kept paths so far are in the plan
abbrev pub invariant-loop-place : goal.invariant-loop-place
invariant-loop-place l = first_fault (each_alone (missing_flaw l.paths) (drop l.place (enumerate_from 1 l.kept))) ≡ first_fault (missing_flaws l.kept l.paths)
