use Rattle.std.proofs.Common.{Bool, not, refl, sym, ap, ◌∙◌, arith}
use Rattle.std.specs.List.{list_all}
use Rattle.std.specs.FinSet as set
use Rattle.field_tables.specs.LaneSets.{Lanes}
use Rattle.plan_certificate.specs.declared.path.Path.{Path}
use Rattle.plan_certificate.specs.Paths.{host_lanes}
use Rattle.plan_certificate.proofs.Searches.{all_later, not_all, none_left}
use Rattle.plan_certificate.proofs.kept.may_stay_free.Goals as goal

abbrev no_path : Path
no_path = record { app = 0; host = 0; media = 0 }

pub loop-path-init : goal.loop-path-init
loop-path-init c = refl

pub returns-then-contains : goal.returns-then-contains
returns-then-contains c =
    let test : Path → Bool = λ path. not (set.contains (host_lanes c.args.advert.now path) c.args.lane) in
    sym (sym c.loop-path.invariant ∙ not_all test c.args.kept.now c.loop-path.path-index no_path c.loop-path-test.true (ap (λ (lanes : Lanes). not (set.contains lanes c.args.lane)) (sym c.host_lanes.ensures) ∙ ap not (sym c.contains.ensures ∙ c.if-contains.true)))

pub loop-path-preserved : goal.loop-path-preserved
loop-path-preserved c =
    let test : Path → Bool = λ path. not (set.contains (host_lanes c.args.advert.now path) c.args.lane) in
    sym (all_later test c.args.kept.now c.loop-path.path-index no_path c.loop-path-test.true (ap (λ (lanes : Lanes). not (set.contains lanes c.args.lane)) (sym c.host_lanes.ensures) ∙ ap not (sym c.contains.ensures ∙ c.if-contains.false))) ∙ c.loop-path.invariant

pub returns : goal.returns
returns c =
    let test : Path → Bool = λ path. not (set.contains (host_lanes c.args.advert.now path) c.args.lane) in
    sym (sym c.loop-path.invariant ∙ ap (list_all test) (none_left c.args.kept.now c.loop-path.path-index (omega (arith, c.loop-path-test.false))))
