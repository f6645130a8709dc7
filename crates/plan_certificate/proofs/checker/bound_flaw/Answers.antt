use Rattle.std.proofs.Common.{◌≡◌, ◌==◌, ◌++◌, ◌∷◌, [], ℕ, true, false, not, Option, Some, None, sym, ap, ◌∙◌}
use Rattle.std.specs.Option.{is_none, unwrap_or}
use Rattle.std.proofs.lemmas.Bool.{eq-eqb, ne_eqb}
use Rattle.plan_certificate.specs.declared.verdict.Reason.TheVariants.{NoStart, StartNotWeight}
use Rattle.plan_certificate.specs.States.{start}
use Rattle.plan_certificate.specs.Verdicts.{Flaws, bound_flaws, entries_flaws, flaw, potential_of}
use Rattle.plan_certificate.proofs.Searches.{applies, passes, first_then, none_then}
use Rattle.plan_certificate.proofs.checker.bound_flaw.Goals as goal

abbrev last_flaws : Option ℕ → ℕ → Flaws
last_flaws found weight = (not (unwrap_or found 0 == weight), flaw StartNotWeight 0) ∷ []

pub returns-in_default : goal.returns-in_default
unfolding bound_flaws
returns-in_default g c =
    let found = potential_of c.args.entries.now.entries start in
    let none : found ≡ None = ap (potential_of c.args.entries.now.entries) (sym c.start.ensures) ∙ sym c.potential_of.ensures ∙ c.in_default.is in
    sym (applies (is_none found) (flaw NoStart 0) (entries_flaws c.args.advert.now c.args.weights.now c.args.kept.now c.args.entries.now.entries ++ last_flaws found c.args.weight) (ap is_none none))

pub returns-in-Some-entries_flaw : goal.returns-in-Some-entries_flaw
unfolding bound_flaws
returns-in-Some-entries_flaw g c =
    let found = potential_of c.args.entries.now.entries start in
    let some : found ≡ Some c.in-Some.start = ap (potential_of c.args.entries.now.entries) (sym c.start.ensures) ∙ sym c.potential_of.ensures ∙ c.in-Some.is in
    let entries = entries_flaws c.args.advert.now c.args.weights.now c.args.kept.now c.args.entries.now.entries in
    sym (passes (is_none found) (flaw NoStart 0) (entries ++ last_flaws found c.args.weight) (ap is_none some)
    ∙ first_then entries (last_flaws found c.args.weight) c.in-Some-entries_flaw.flaw (sym c.entries_flaw.ensures ∙ c.in-Some-entries_flaw.is))

pub returns-then-start-weight : goal.returns-then-start-weight
unfolding bound_flaws
returns-then-start-weight g c =
    let found = potential_of c.args.entries.now.entries start in
    let some : found ≡ Some c.in-Some.start = ap (potential_of c.args.entries.now.entries) (sym c.start.ensures) ∙ sym c.potential_of.ensures ∙ c.in-Some.is in
    let entries = entries_flaws c.args.advert.now c.args.weights.now c.args.kept.now c.args.entries.now.entries in
    let other : not (unwrap_or found 0 == c.args.weight) ≡ true = ap (λ (o : Option ℕ). not (unwrap_or o 0 == c.args.weight)) some ∙ ap not (ne_eqb c.in-Some.start c.args.weight c.if-start-weight.true) in
    sym (passes (is_none found) (flaw NoStart 0) (entries ++ last_flaws found c.args.weight) (ap is_none some)
    ∙ none_then entries (last_flaws found c.args.weight) (sym c.entries_flaw.ensures ∙ c.in_default-entries_flaw.is)
    ∙ applies (not (unwrap_or found 0 == c.args.weight)) (flaw StartNotWeight 0) [] other)

pub returns : goal.returns
unfolding bound_flaws
returns g c =
    let found = potential_of c.args.entries.now.entries start in
    let some : found ≡ Some c.in-Some.start = ap (potential_of c.args.entries.now.entries) (sym c.start.ensures) ∙ sym c.potential_of.ensures ∙ c.in-Some.is in
    let entries = entries_flaws c.args.advert.now c.args.weights.now c.args.kept.now c.args.entries.now.entries in
    let same : not (unwrap_or found 0 == c.args.weight) ≡ false = ap (λ (o : Option ℕ). not (unwrap_or o 0 == c.args.weight)) some ∙ ap not (eq-eqb c.in-Some.start c.args.weight c.if-start-weight.false) in
    sym (passes (is_none found) (flaw NoStart 0) (entries ++ last_flaws found c.args.weight) (ap is_none some)
    ∙ none_then entries (last_flaws found c.args.weight) (sym c.entries_flaw.ensures ∙ c.in_default-entries_flaw.is)
    ∙ passes (not (unwrap_or found 0 == c.args.weight)) (flaw StartNotWeight 0) [] same)
