use Rattle.std.proofs.Common.{◌≡◌, drop}
use Rattle.std.specs.List.{list_all}
use Rattle.plan_certificate.specs.Plans.{are_apart}
use Rattle.plan_certificate.proofs.kept.is_apart_from.Given as goal

-- those so far are apart from the path
abbrev pub invariant-loop-other : goal.invariant-loop-other
invariant-loop-other l = list_all (λ other. are_apart l.advert other l.path) (drop l.other-index l.others) ≡ list_all (λ other. are_apart l.advert other l.path) l.others
