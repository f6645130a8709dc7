use Rattle.std.proofs.Common.{◌≡◌, drop}
use Rattle.std.specs.List.{enumerate_from}
use Rattle.field_tables.specs.FirstFault.{first_fault}
use Rattle.plan_certificate.specs.Verdicts.{lane_flaw, lane_flaws}
use Rattle.plan_certificate.proofs.Searches.{each_alone}
use Rattle.plan_certificate.proofs.flaws.lane_flaw.Given as goal

-- the paths so far share no lane
abbrev pub invariant-loop-place : goal.invariant-loop-place
invariant-loop-place l = first_fault (each_alone (lane_flaw l.advert l.paths) (drop l.place (enumerate_from 1 l.paths))) ≡ first_fault (lane_flaws l.advert l.paths)
