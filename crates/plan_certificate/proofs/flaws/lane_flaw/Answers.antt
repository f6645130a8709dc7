use Rattle.std.proofs.Common.{◌≡◌, ℕ, ◌-◌, List, take, Bool, true, false, not, get_or, ◌+◌, sym, ap, ◌∙◌, arith}
use Rattle.std.specs.List.{enumerate_from, list_all}
use Rattle.field_tables.specs.FirstFault.{first_fault}
use Rattle.plan_certificate.specs.declared.path.Path.{Path}
use Rattle.plan_certificate.specs.declared.verdict.Reason.TheVariants.{LaneTwice}
use Rattle.applications.specs.Advertised.{Advertised}
use Rattle.plan_certificate.specs.Plans.{are_apart}
use Rattle.plan_certificate.specs.Verdicts.{flaw, lane_flaw, lane_flaws}
use Rattle.plan_certificate.proofs.Searches.{alone, flaw_here, flaw_later, flaws_end}
use Rattle.plan_certificate.proofs.flaws.lane_flaw.Goals as goal

abbrev no_path : Path
no_path = record { app = 0; host = 0; media = 0 }

abbrev alone_at : Advertised → List Path → ℕ → Bool
alone_at advert paths place = list_all (λ earlier. are_apart advert earlier (get_or paths place no_path)) (take (place + 1 - 1) paths)

pub loop-place-init : goal.loop-place-init
unfolding lane_flaws
loop-place-init c = ap first_fault (alone (lane_flaw c.args.advert.now c.args.paths.now) (enumerate_from 1 c.args.paths.now))

pub returns-then-not-is_apart_from : goal.returns-then-not-is_apart_from
returns-then-not-is_apart_from c =
    let place : c.loop-place.place + 1 - 1 ≡ c.loop-place.place = omega arith in
    let among = ap (λ (n : ℕ). list_all (λ (earlier : Path). are_apart c.args.advert.now earlier (get_or c.args.paths.now c.loop-place.place no_path)) (take n c.args.paths.now)) place in
    let at : alone_at c.args.advert.now c.args.paths.now c.loop-place.place ≡ false = among ∙ sym c.is_apart_from.ensures ∙ c.if-not-is_apart_from.true in
    sym (sym c.loop-place.invariant ∙ flaw_here (lane_flaw c.args.advert.now c.args.paths.now) c.args.paths.now c.loop-place.place no_path _ c.loop-place-test.true (ap (λ (b : Bool). (not b, flaw LaneTwice (c.loop-place.place + 1))) at))

pub loop-place-preserved : goal.loop-place-preserved
loop-place-preserved c =
    let place : c.loop-place.place + 1 - 1 ≡ c.loop-place.place = omega arith in
    let among = ap (λ (n : ℕ). list_all (λ (earlier : Path). are_apart c.args.advert.now earlier (get_or c.args.paths.now c.loop-place.place no_path)) (take n c.args.paths.now)) place in
    let at : alone_at c.args.advert.now c.args.paths.now c.loop-place.place ≡ true = among ∙ sym c.is_apart_from.ensures ∙ c.if-not-is_apart_from.false in
    sym (flaw_later (lane_flaw c.args.advert.now c.args.paths.now) c.args.paths.now c.loop-place.place no_path c.loop-place-test.true (ap not at)) ∙ c.loop-place.invariant

pub returns : goal.returns
returns c = sym (sym c.loop-place.invariant ∙ flaws_end (lane_flaw c.args.advert.now c.args.paths.now) c.args.paths.now c.loop-place.place (omega (arith, c.loop-place-test.false)))
