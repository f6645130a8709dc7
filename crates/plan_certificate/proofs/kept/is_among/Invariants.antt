use Rattle.std.proofs.Common.{◌≡◌, drop}
use Rattle.plan_certificate.specs.KeptPaths.{is_among}
use Rattle.plan_certificate.proofs.kept.is_among.Given as goal

-- none of those so far is the path
abbrev pub invariant-loop-other : goal.invariant-loop-other
invariant-loop-other l = is_among (drop l.other-index l.paths) l.path ≡ is_among l.paths l.path
