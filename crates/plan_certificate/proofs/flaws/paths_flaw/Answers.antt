use Rattle.std.proofs.Common.{◌++◌, sym, ◌∙◌}
use Rattle.plan_certificate.specs.Verdicts.{kept_flaws, missing_flaws, plan_flaws}
use Rattle.plan_certificate.proofs.Searches.{first_then, none_then}
use Rattle.plan_certificate.proofs.flaws.paths_flaw.Goals as goal

pub returns-in-Some-clause-flaw : goal.returns-in-Some-clause-flaw
returns-in-Some-clause-flaw c =
    sym (first_then (kept_flaws c.args.advert.now c.args.kept.now) (plan_flaws c.args.advert.now c.args.paths.now ++ missing_flaws c.args.kept.now c.args.paths.now) c.in-Some.flaw (sym c.kept_flaw.ensures.flaw ∙ c.in-Some.is))

pub returns-in-Some-plan_flaw-clause-flaw : goal.returns-in-Some-plan_flaw-clause-flaw
returns-in-Some-plan_flaw-clause-flaw c =
    let plan = plan_flaws c.args.advert.now c.args.paths.now in
    let missing = missing_flaws c.args.kept.now c.args.paths.now in
    sym (none_then (kept_flaws c.args.advert.now c.args.kept.now) (plan ++ missing) (sym c.kept_flaw.ensures.flaw ∙ c.in_default.is)
    ∙ first_then plan missing c.in-Some-plan_flaw.flaw (sym c.plan_flaw.ensures.flaw ∙ c.in-Some-plan_flaw.is))

pub returns-clause-flaw : goal.returns-clause-flaw
returns-clause-flaw c =
    let plan = plan_flaws c.args.advert.now c.args.paths.now in
    let missing = missing_flaws c.args.kept.now c.args.paths.now in
    sym (none_then (kept_flaws c.args.advert.now c.args.kept.now) (plan ++ missing) (sym c.kept_flaw.ensures.flaw ∙ c.in_default.is)
    ∙ none_then plan missing (sym c.plan_flaw.ensures.flaw ∙ c.in_default-plan_flaw.is)
    ∙ sym c.missing_flaw.ensures)
