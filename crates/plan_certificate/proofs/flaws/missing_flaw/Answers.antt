use Rattle.std.proofs.Common.{◌≡◌, Bool, true, false, not, get_or, ◌+◌, sym, ap, ◌∙◌, arith}
use Rattle.std.specs.List.{enumerate_from}
use Rattle.field_tables.specs.FirstFault.{first_fault}
use Rattle.plan_certificate.specs.declared.path.Path.{Path}
use Rattle.plan_certificate.specs.declared.verdict.Reason.TheVariants.{KeptMissing}
use Rattle.plan_certificate.specs.KeptPaths.{is_among}
use Rattle.plan_certificate.specs.Verdicts.{flaw, missing_flaw, missing_flaws}
use Rattle.plan_certificate.proofs.Searches.{alone, flaw_here, flaw_later, flaws_end}
use Rattle.plan_certificate.proofs.flaws.missing_flaw.Goals as goal

abbrev no_path : Path
no_path = record { app = 0; host = 0; media = 0 }

pub loop-place-init : goal.loop-place-init
unfolding missing_flaws
loop-place-init c = ap first_fault (alone (missing_flaw c.args.paths.now) (enumerate_from 1 c.args.kept.now))

pub returns-then-not-is_among : goal.returns-then-not-is_among
returns-then-not-is_among c =
    let at : is_among c.args.paths.now (get_or c.args.kept.now c.loop-place.place no_path) ≡ false = sym c.is_among.ensures ∙ c.if-not-is_among.true in
    sym (sym c.loop-place.invariant ∙ flaw_here (missing_flaw c.args.paths.now) c.args.kept.now c.loop-place.place no_path _ c.loop-place-test.true (ap (λ (b : Bool). (not b, flaw KeptMissing (c.loop-place.place + 1))) at))

pub loop-place-preserved : goal.loop-place-preserved
loop-place-preserved c =
    let at : is_among c.args.paths.now (get_or c.args.kept.now c.loop-place.place no_path) ≡ true = sym c.is_among.ensures ∙ c.if-not-is_among.false in
    sym (flaw_later (missing_flaw c.args.paths.now) c.args.kept.now c.loop-place.place no_path c.loop-place-test.true (ap not at)) ∙ c.loop-place.invariant

pub returns : goal.returns
returns c = sym (sym c.loop-place.invariant ∙ flaws_end (missing_flaw c.args.paths.now) c.args.kept.now c.loop-place.place (omega (arith, c.loop-place-test.false)))
