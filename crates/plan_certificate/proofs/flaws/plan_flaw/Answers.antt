use Rattle.std.proofs.Common.{◌≡◌, Some, sym, ◌∙◌}
use Rattle.field_tables.specs.FirstFault.{first_fault}
use Rattle.plan_certificate.specs.Verdicts.{path_flaws, lane_flaws, plan_flaws}
use Rattle.plan_certificate.proofs.Searches.{first_then, none_then}
use Rattle.plan_certificate.proofs.NoFlaw.{none_not_allowed, plan_admissible}
use Rattle.plan_certificate.proofs.flaws.plan_flaw.Goals as goal

pub returns-in-Some-clause-flaw : goal.returns-in-Some-clause-flaw
returns-in-Some-clause-flaw c =
    sym (first_then (path_flaws c.args.advert.now c.args.paths.now) (lane_flaws c.args.advert.now c.args.paths.now) c.in-Some.flaw (sym c.path_flaw.ensures ∙ c.in-Some.is))

pub returns-in-Some-clause-none : goal.returns-in-Some-clause-none
returns-in-Some-clause-none c =
    let is : first_fault (plan_flaws c.args.advert.now c.args.paths.now) ≡ Some c.in-Some.flaw = sym (returns-in-Some-clause-flaw c) in
    let parts = plan_admissible c.args.advert.now c.args.paths.now in
    (λ none. parts.0 (is ∙ none), λ plan. sym is ∙ parts.1 plan)

pub lane_flaw-requires : goal.lane_flaw-requires
lane_flaw-requires c = (none_not_allowed c.args.advert.now c.args.paths.now).0 (sym c.path_flaw.ensures ∙ c.in_default.is)

pub returns-clause-flaw : goal.returns-clause-flaw
returns-clause-flaw c = c.lane_flaw.ensures ∙ sym (none_then (path_flaws c.args.advert.now c.args.paths.now) (lane_flaws c.args.advert.now c.args.paths.now) (sym c.path_flaw.ensures ∙ c.in_default.is))

pub returns-clause-none : goal.returns-clause-none
returns-clause-none c =
    let is = returns-clause-flaw c in
    let parts = plan_admissible c.args.advert.now c.args.paths.now in
    (λ none. parts.0 (sym is ∙ none), λ plan. is ∙ parts.1 plan)
