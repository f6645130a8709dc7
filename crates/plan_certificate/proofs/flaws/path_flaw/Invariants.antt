use Rattle.std.proofs.Common.{◌≡◌, drop}
use Rattle.std.specs.List.{enumerate_from}
use Rattle.field_tables.specs.FirstFault.{first_fault}
use Rattle.plan_certificate.specs.Verdicts.{path_flaw, path_flaws}
use Rattle.plan_certificate.proofs.Searches.{each_alone}
use Rattle.plan_certificate.proofs.flaws.path_flaw.Given as goal

-- the paths so far have no flaw
abbrev pub invariant-loop-place : goal.invariant-loop-place
invariant-loop-place l = first_fault (each_alone (path_flaw l.advert) (drop l.place (enumerate_from 1 l.paths))) ≡ first_fault (path_flaws l.advert l.paths)
