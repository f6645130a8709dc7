use Rattle.std.proofs.Common.{◌≡◌, Bool, true, false, not, get_or, ◌+◌, sym, ap, ◌∙◌, arith}
use Rattle.std.specs.List.{enumerate_from}
use Rattle.field_tables.specs.FirstFault.{first_fault}
use Rattle.plan_certificate.specs.declared.path.Path.{Path}
use Rattle.plan_certificate.specs.declared.verdict.Reason.TheVariants.{PathNotAllowed}
use Rattle.plan_certificate.specs.Paths.{is_allowed}
use Rattle.plan_certificate.specs.Verdicts.{flaw, path_flaw, path_flaws}
use Rattle.plan_certificate.proofs.Searches.{alone, flaw_here, flaw_later, flaws_end}
use Rattle.plan_certificate.proofs.flaws.path_flaw.Goals as goal

abbrev no_path : Path
no_path = record { app = 0; host = 0; media = 0 }

pub loop-place-init : goal.loop-place-init
unfolding path_flaws
loop-place-init c = ap first_fault (alone (path_flaw c.args.advert.now) (enumerate_from 1 c.args.paths.now))

pub returns-then-not-is_allowed : goal.returns-then-not-is_allowed
returns-then-not-is_allowed c =
    let at : is_allowed c.args.advert.now (get_or c.args.paths.now c.loop-place.place no_path) ≡ false = sym c.is_allowed.ensures ∙ c.if-not-is_allowed.true in
    sym (sym c.loop-place.invariant ∙ flaw_here (path_flaw c.args.advert.now) c.args.paths.now c.loop-place.place no_path _ c.loop-place-test.true (ap (λ (b : Bool). (not b, flaw PathNotAllowed (c.loop-place.place + 1))) at))

pub loop-place-preserved : goal.loop-place-preserved
loop-place-preserved c =
    let at : is_allowed c.args.advert.now (get_or c.args.paths.now c.loop-place.place no_path) ≡ true = sym c.is_allowed.ensures ∙ c.if-not-is_allowed.false in
    sym (flaw_later (path_flaw c.args.advert.now) c.args.paths.now c.loop-place.place no_path c.loop-place-test.true (ap not at)) ∙ c.loop-place.invariant

pub returns : goal.returns
returns c = sym (sym c.loop-place.invariant ∙ flaws_end (path_flaw c.args.advert.now) c.args.paths.now c.loop-place.place (omega (arith, c.loop-place-test.false)))
