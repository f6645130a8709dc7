use Rattle.std.proofs.Common.{◌≡◌, drop, take}
use Rattle.std.specs.List.{enumerate_from}
use Rattle.field_tables.specs.FirstFault.{first_fault}
use Rattle.plan_certificate.specs.Plans.{AreAllowed}
use Rattle.plan_certificate.specs.Verdicts.{kept_flaw, kept_flaws}
use Rattle.plan_certificate.proofs.Searches.{each_alone}
use Rattle.plan_certificate.proofs.flaws.kept_flaw.Given as goal

-- the kept paths so far have no flaw
abbrev pub invariant-loop-place : goal.invariant-loop-place
invariant-loop-place l = record {
  none : first_fault (each_alone (kept_flaw l.advert l.kept) (drop l.place (enumerate_from 1 l.kept))) ≡ first_fault (kept_flaws l.advert l.kept);
  allowed : AreAllowed l.advert (take l.place l.kept);
}
