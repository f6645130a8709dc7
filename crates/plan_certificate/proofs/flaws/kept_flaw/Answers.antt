use Rattle.std.proofs.Common.{◌≡◌, ℕ, ◌-◌, ◌+◌, Bool, true, false, not, get_or, take, sym, ap, ◌∙◌, arith}
use Rattle.std.specs.List.{enumerate_from}
use Rattle.std.proofs.lemmas.Bool.{and_parts}
use Rattle.std.proofs.lemmas.List.Elements.{All-more}
use Rattle.field_tables.specs.FirstFault.{first_fault}
use Rattle.plan_certificate.specs.declared.path.Path.{Path}
use Rattle.plan_certificate.specs.declared.verdict.Reason.TheVariants.{KeptNotAdmissible}
use Rattle.plan_certificate.specs.Paths.{is_allowed}
use Rattle.plan_certificate.specs.KeptPaths.{may_join}
use Rattle.plan_certificate.specs.Verdicts.{flaw, kept_flaw, kept_flaws}
use Rattle.plan_certificate.proofs.NoFlaw.{kept_admissible}
use Rattle.plan_certificate.proofs.Searches.{alone, flaw_here, flaw_later, flaws_end}
use Rattle.plan_certificate.proofs.flaws.kept_flaw.Goals as goal

abbrev no_path : Path
no_path = record { app = 0; host = 0; media = 0 }

pub loop-place-init : goal.loop-place-init
unfolding kept_flaws
loop-place-init c = record {
  none = ap first_fault (alone (kept_flaw c.args.advert.now c.args.kept.now) (enumerate_from 1 c.args.kept.now));
  allowed = λ k d below. absurd (omega (arith, below));
}

pub returns-then-not-may_join-clause-flaw : goal.returns-then-not-may_join-clause-flaw
returns-then-not-may_join-clause-flaw c =
    let place : c.loop-place.place + 1 - 1 ≡ c.loop-place.place = omega arith in
    let joins : ℕ → Bool = λ n. may_join c.args.advert.now (take n c.args.kept.now) (get_or c.args.kept.now c.loop-place.place no_path) in
    let at : joins (c.loop-place.place + 1 - 1) ≡ false = ap joins place ∙ sym c.may_join.ensures ∙ c.if-not-may_join.true in
    sym (sym c.loop-place.invariant.none ∙ flaw_here (kept_flaw c.args.advert.now c.args.kept.now) c.args.kept.now c.loop-place.place no_path _ c.loop-place-test.true (ap (λ (b : Bool). (not b, flaw KeptNotAdmissible (c.loop-place.place + 1))) at))

pub returns-then-not-may_join-clause-none : goal.returns-then-not-may_join-clause-none
returns-then-not-may_join-clause-none c =
    let is = sym (returns-then-not-may_join-clause-flaw c) in
    let parts = kept_admissible c.args.advert.now c.args.kept.now in
    (λ none. parts.0 (is ∙ none), λ plan. sym is ∙ parts.1 plan)

pub loop-place-preserved : goal.loop-place-preserved
loop-place-preserved c =
    let place : c.loop-place.place + 1 - 1 ≡ c.loop-place.place = omega arith in
    let joins : ℕ → Bool = λ n. may_join c.args.advert.now (take n c.args.kept.now) (get_or c.args.kept.now c.loop-place.place no_path) in
    let here : joins c.loop-place.place ≡ true = sym c.may_join.ensures ∙ c.if-not-may_join.false in
    let at : joins (c.loop-place.place + 1 - 1) ≡ true = ap joins place ∙ here in
    record {
      none = sym (flaw_later (kept_flaw c.args.advert.now c.args.kept.now) c.args.kept.now c.loop-place.place no_path c.loop-place-test.true (ap not at)) ∙ c.loop-place.invariant.none;
      allowed = All-more (λ (path : Path). is_allowed c.args.advert.now path ≡ true) c.args.kept.now c.loop-place.place no_path c.loop-place-test.true c.loop-place.invariant.allowed (and_parts _ _ here).0;
    }

pub returns-clause-flaw : goal.returns-clause-flaw
returns-clause-flaw c = sym (sym c.loop-place.invariant.none ∙ flaws_end (kept_flaw c.args.advert.now c.args.kept.now) c.args.kept.now c.loop-place.place (omega (arith, c.loop-place-test.false)))

pub returns-clause-none : goal.returns-clause-none
returns-clause-none c =
    let is = sym (returns-clause-flaw c) in
    let parts = kept_admissible c.args.advert.now c.args.kept.now in
    (λ none. parts.0 (is ∙ none), λ plan. sym is ∙ parts.1 plan)
