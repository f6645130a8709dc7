use Rattle.std.proofs.Common.{◌≡◌, Option, refl, sym, subst, ap, ◌∙◌}
use Rattle.field_tables.specs.FirstFault.{first_fault}
use Rattle.plan_certificate.specs.declared.verdict.Flaw.{Flaw}
use Rattle.plan_certificate.specs.Certificates.{Claim, HasStates}
use Rattle.plan_certificate.specs.Verdicts.{all_flaws, judged, verdict}
use Rattle.plan_certificate.proofs.GoodVerdicts.{good_verdict}
use Rattle.plan_certificate.proofs.Heaviest.{good_is_best}
use Rattle.plan_certificate.proofs.checker.check.Goals as goal

pub returns-in-None-clause-verdict : goal.returns-in-None-clause-verdict
unfolding verdict
returns-in-None-clause-verdict g c =
    let of : Claim → Option Flaw = λ certificate. first_fault (all_flaws c.args.advert.now c.args.weights.now certificate) in
    let whole : record { paired = c.certificate.inside.paired; weight = c.certificate.inside.weight; kept = c.certificate.inside.kept; paths = c.certificate.inside.plan; entries = c.certificate.inside.entries.entries } ≡ c.args.certificate.now = c.certificate.view_is in
    ap judged (sym c.in-None.is ∙ c.flaw.ensures ∙ ap of whole)

pub returns-in-None-clause-good : goal.returns-in-None-clause-good
returns-in-None-clause-good g c =
    let is = returns-in-None-clause-verdict g c in
    let both = good_verdict c.args.advert.now c.args.weights.now c.args.certificate.now (subst (λ (certificate : Claim). HasStates certificate.entries) c.certificate.view_is c.certificate.invariant) in
    (λ good. both.0 (sym is), λ good. refl)

pub returns-in-None-clause-best : goal.returns-in-None-clause-best
returns-in-None-clause-best g c = λ good. good_is_best c.args.advert.now c.args.weights.now c.args.certificate.now ((returns-in-None-clause-good g c).0 refl)

pub returns-in-Some-clause-verdict : goal.returns-in-Some-clause-verdict
unfolding verdict
returns-in-Some-clause-verdict g c =
    let of : Claim → Option Flaw = λ certificate. first_fault (all_flaws c.args.advert.now c.args.weights.now certificate) in
    let whole : record { paired = c.certificate.inside.paired; weight = c.certificate.inside.weight; kept = c.certificate.inside.kept; paths = c.certificate.inside.plan; entries = c.certificate.inside.entries.entries } ≡ c.args.certificate.now = c.certificate.view_is in
    ap judged (sym c.in-Some.is ∙ c.flaw.ensures ∙ ap of whole)

pub returns-in-Some-clause-good : goal.returns-in-Some-clause-good
returns-in-Some-clause-good g c =
    let is = returns-in-Some-clause-verdict g c in
    let both = good_verdict c.args.advert.now c.args.weights.now c.args.certificate.now (subst (λ (certificate : Claim). HasStates certificate.entries) c.certificate.view_is c.certificate.invariant) in
    (λ good. both.0 (sym is ∙ good), λ good. is ∙ both.1 good)
