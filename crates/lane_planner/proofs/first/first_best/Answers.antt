use Rattle.std.proofs.Common.{◌≡◌, ◌∙◌, List, subst}
use Rattle.lane_planner.proofs.Words.{Path}
use Rattle.plan_certificate.proofs.Heaviest.{good_is_best}
use Rattle.lane_planner.specs.FirstBest.{IsFirstBest}
use Rattle.lane_planner.proofs.FirstLaws.{first_of_same, one_first}
use Rattle.lane_planner.proofs.first.first_best.Goals as goal

pub returns : goal.returns
returns g c =
    let advert = c.args.advert.now in
    let weights = c.args.weights.now in
    let kept : List Path = c.args.certificate.now.kept in
    let paths : List Path = c.args.certificate.now.paths in
    let others : List Path = c.first_plan-first.result in
    let ours : c.as_slice.result.now ≡ paths = (let read = c.as_slice.ensures.value in let seen = c.certificate.view_is in cc) in
    let theirs : c.as_slice-2.result.now ≡ others = (let read = c.as_slice-2.ensures.value in let seen = c.first.view_is in cc) in
    let keeps : c.certificate-inside.inside.0.1.1.0 ≡ kept = (let within = c.certificate-inside.view_is in let inside : c.certificate-inside.inside.0.1.1.0 ≡ c.certificate.inside.kept = cc in let seen = c.certificate.view_is in let outside : c.certificate.inside.kept ≡ kept = cc in inside ∙ outside) in
    let given = subst (λ (xs : List Path). IsFirstBest advert weights xs others) keeps c.first_plan-first.ensures.first in
    let best = good_is_best advert weights _ c.requires in
    let same = rw (ours, theirs) at c.have_same_paths.ensures in
    (λ is. first_of_same advert weights kept paths others best (same.0 is) given, λ first. same.1 (one_first advert weights kept paths others first given))
