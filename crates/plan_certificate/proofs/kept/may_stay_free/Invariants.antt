use Rattle.std.proofs.Common.{◌≡◌, drop}
use Rattle.plan_certificate.specs.KeptPaths.{may_stay_free}
use Rattle.plan_certificate.proofs.kept.may_stay_free.Given as goal

-- the lane is none of the paths so far
abbrev pub invariant-loop-path : goal.invariant-loop-path
invariant-loop-path l = may_stay_free l.advert (drop l.path-index l.kept) l.lane ≡ may_stay_free l.advert l.kept l.lane
