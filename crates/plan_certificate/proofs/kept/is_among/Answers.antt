use Rattle.std.proofs.Common.{refl, sym, ap, ◌∙◌, arith}
use Rattle.std.specs.List.{list_any}
use Rattle.plan_certificate.specs.declared.path.Path.{Path}
use Rattle.plan_certificate.specs.KeptPaths.{is_path}
use Rattle.plan_certificate.proofs.Searches.{any_here, any_later, none_left}
use Rattle.plan_certificate.proofs.kept.is_among.Goals as goal

abbrev no_path : Path
no_path = record { app = 0; host = 0; media = 0 }

pub loop-other-init : goal.loop-other-init
loop-other-init c = refl

pub returns-then-is_path : goal.returns-then-is_path
returns-then-is_path c =
    sym (sym c.loop-other.invariant ∙ any_here (is_path c.args.path) c.args.paths.now c.loop-other.other-index no_path c.loop-other-test.true (sym c.is_path.ensures ∙ c.if-is_path.true))

pub loop-other-preserved : goal.loop-other-preserved
loop-other-preserved c =
    sym (any_later (is_path c.args.path) c.args.paths.now c.loop-other.other-index no_path c.loop-other-test.true (sym c.is_path.ensures ∙ c.if-is_path.false)) ∙ c.loop-other.invariant

pub returns : goal.returns
returns c = sym (sym c.loop-other.invariant ∙ ap (list_any (is_path c.args.path)) (none_left c.args.paths.now c.loop-other.other-index (omega (arith, c.loop-other-test.false))))
