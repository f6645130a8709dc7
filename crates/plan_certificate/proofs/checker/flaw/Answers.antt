use Rattle.std.proofs.Common.{◌≡◌, ◌==◌, ◌∷◌, ◌++◌, ℕ, Bool, true, false, not, sym, ap, ◌∙◌}
use Rattle.std.specs.Bool.{beq}
use Rattle.std.proofs.lemmas.Bool.{eq-eqb, ne_eqb}
use Rattle.field_tables.specs.FirstFault.{first_fault}
use Rattle.plan_certificate.specs.declared.verdict.Reason.TheVariants.{PairingDiffers, WeightWrong}
use Rattle.plan_certificate.specs.Plans.{plan_weight}
use Rattle.plan_certificate.specs.Verdicts.{Flaws, bound_flaws, flaw, paths_flaws}
use Rattle.plan_certificate.proofs.Searches.{applies, passes, first_then, none_then}
use Rattle.plan_certificate.proofs.checker.flaw.Goals as goal

abbrev weight_flaw : ℕ → ℕ → Bool
weight_flaw weight right = not (weight == right)

pub returns-then-paired-is_paired : goal.returns-then-paired-is_paired
returns-then-paired-is_paired g c =
    let kept = c.args.kept.now in
    let plan = c.args.plan.now in
    let weights = c.args.weights.now in
    let right : ℕ = plan_weight weights plan in
    let others : Flaws = paths_flaws c.args.advert.now kept plan ++ (weight_flaw c.args.weight right, flaw WeightWrong 0) ∷ bound_flaws c.args.advert.now weights kept c.args.entries.now.entries c.args.weight in
    let unlike : not (beq c.args.paired c.args.advert.now.paired) ≡ true = ap (λ (b : Bool). not (beq c.args.paired b)) (sym c.is_paired.ensures) ∙ c.if-paired-is_paired.true in
    sym (applies (not (beq c.args.paired c.args.advert.now.paired)) (flaw PairingDiffers 0) others unlike)

pub returns-in-Some : goal.returns-in-Some
returns-in-Some g c =
    let kept = c.args.kept.now in
    let plan = c.args.plan.now in
    let flaws = paths_flaws c.args.advert.now kept plan in
    let rest : Flaws = (weight_flaw c.args.weight (plan_weight c.args.weights.now plan), flaw WeightWrong 0) ∷ bound_flaws c.args.advert.now c.args.weights.now kept c.args.entries.now.entries c.args.weight in
    let kept_is = c.as_slice-kept.ensures.value ∙ c.kept.view_is in
    let plan_is = c.as_slice-paths.ensures.value ∙ c.plan.view_is in
    let same : first_fault flaws ≡ c.paths_flaw.result = (λ i. first_fault (paths_flaws c.args.advert.now (sym kept_is i) (sym plan_is i))) ∙ sym c.paths_flaw.ensures.flaw in
    let alike : not (beq c.args.paired c.args.advert.now.paired) ≡ false = ap (λ (b : Bool). not (beq c.args.paired b)) (sym c.is_paired.ensures) ∙ c.if-paired-is_paired.false in
    sym (passes (not (beq c.args.paired c.args.advert.now.paired)) (flaw PairingDiffers 0) (flaws ++ rest) alike ∙ first_then flaws rest c.in-Some.flaw (same ∙ c.in-Some.is))

pub returns-then-weight-weight_of : goal.returns-then-weight-weight_of
returns-then-weight-weight_of g c =
    let kept = c.args.kept.now in
    let plan = c.args.plan.now in
    let flaws = paths_flaws c.args.advert.now kept plan in
    let right : ℕ = plan_weight c.args.weights.now plan in
    let bounds = bound_flaws c.args.advert.now c.args.weights.now kept c.args.entries.now.entries c.args.weight in
    let kept_is = c.as_slice-kept.ensures.value ∙ c.kept.view_is in
    let plan_is = c.as_slice-paths.ensures.value ∙ c.plan.view_is in
    let same : first_fault flaws ≡ c.paths_flaw.result = (λ i. first_fault (paths_flaws c.args.advert.now (sym kept_is i) (sym plan_is i))) ∙ sym c.paths_flaw.ensures.flaw in
    let wrong : weight_flaw c.args.weight right ≡ true = ap not (ne_eqb c.args.weight right (λ is. c.if-weight-weight_of.true (is ∙ sym c.weight_of.ensures))) in
    let alike : not (beq c.args.paired c.args.advert.now.paired) ≡ false = ap (λ (b : Bool). not (beq c.args.paired b)) (sym c.is_paired.ensures) ∙ c.if-paired-is_paired.false in
    sym (passes (not (beq c.args.paired c.args.advert.now.paired)) (flaw PairingDiffers 0) (flaws ++ (weight_flaw c.args.weight right, flaw WeightWrong 0) ∷ bounds) alike ∙ none_then flaws ((weight_flaw c.args.weight right, flaw WeightWrong 0) ∷ bounds) (same ∙ c.in_default.is) ∙ applies (weight_flaw c.args.weight right) (flaw WeightWrong 0) bounds wrong)

pub returns : goal.returns
returns g c =
    let kept = c.args.kept.now in
    let plan = c.args.plan.now in
    let flaws = paths_flaws c.args.advert.now kept plan in
    let right : ℕ = plan_weight c.args.weights.now plan in
    let bounds = bound_flaws c.args.advert.now c.args.weights.now kept c.args.entries.now.entries c.args.weight in
    let kept_is = c.as_slice-kept.ensures.value ∙ c.kept.view_is in
    let plan_is = c.as_slice-paths.ensures.value ∙ c.plan.view_is in
    let same : first_fault flaws ≡ c.paths_flaw.result = (λ i. first_fault (paths_flaws c.args.advert.now (sym kept_is i) (sym plan_is i))) ∙ sym c.paths_flaw.ensures.flaw in
    let is_right : weight_flaw c.args.weight right ≡ false = ap not (eq-eqb c.args.weight right (c.if-weight-weight_of.false ∙ c.weight_of.ensures)) in
    let found : c.bound_flaw.result ≡ first_fault bounds = c.bound_flaw.ensures ∙ (λ i. first_fault (bound_flaws c.args.advert.now c.args.weights.now (kept_is i) c.args.entries.now.entries c.args.weight)) in
    let alike : not (beq c.args.paired c.args.advert.now.paired) ≡ false = ap (λ (b : Bool). not (beq c.args.paired b)) (sym c.is_paired.ensures) ∙ c.if-paired-is_paired.false in
    sym (passes (not (beq c.args.paired c.args.advert.now.paired)) (flaw PairingDiffers 0) (flaws ++ (weight_flaw c.args.weight right, flaw WeightWrong 0) ∷ bounds) alike ∙ none_then flaws ((weight_flaw c.args.weight right, flaw WeightWrong 0) ∷ bounds) (same ∙ c.in_default.is) ∙ passes (weight_flaw c.args.weight right) (flaw WeightWrong 0) bounds is_right ∙ sym found)
