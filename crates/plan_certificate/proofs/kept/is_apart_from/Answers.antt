use Rattle.std.proofs.Common.{Bool, refl, sym, ap, ◌∙◌, arith}
use Rattle.std.specs.List.{list_all}
use Rattle.plan_certificate.specs.declared.path.Path.{Path}
use Rattle.plan_certificate.specs.Plans.{are_apart}
use Rattle.plan_certificate.proofs.Searches.{all_later, not_all, none_left}
use Rattle.plan_certificate.proofs.kept.is_apart_from.Goals as goal

abbrev no_path : Path
no_path = record { app = 0; host = 0; media = 0 }

pub loop-other-init : goal.loop-other-init
loop-other-init c = refl

pub returns-then-not-is_apart : goal.returns-then-not-is_apart
returns-then-not-is_apart c =
    let test : Path → Bool = λ other. are_apart c.args.advert.now other c.args.path in
    sym (sym c.loop-other.invariant ∙ not_all test c.args.others.now c.loop-other.other-index no_path c.loop-other-test.true (sym c.is_apart.ensures ∙ c.if-not-is_apart.true))

pub loop-other-preserved : goal.loop-other-preserved
loop-other-preserved c =
    let test : Path → Bool = λ other. are_apart c.args.advert.now other c.args.path in
    sym (all_later test c.args.others.now c.loop-other.other-index no_path c.loop-other-test.true (sym c.is_apart.ensures ∙ c.if-not-is_apart.false)) ∙ c.loop-other.invariant

pub returns : goal.returns
returns c =
    let test : Path → Bool = λ other. are_apart c.args.advert.now other c.args.path in
    sym (sym c.loop-other.invariant ∙ ap (list_all test) (none_left c.args.others.now c.loop-other.other-index (omega (arith, c.loop-other-test.false))))
