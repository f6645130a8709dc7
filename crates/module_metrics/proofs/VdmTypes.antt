-- Each type of instance that is decoded has a metric.
use Rattle.std.proofs.Common.{◌≡◌, ◌==◌, true, Option, refl}
use Rattle.std.proofs.lemmas.Bool.{cond_both}
use Rattle.observables.specs.declared.observable.Observable.{Observable}
use Rattle.module_metrics.specs.VdmLaws.{EachTypeHasAMetric, has_metric}
use Rattle.module_metrics.specs.VdmNames.{measures}

abbrev Has : Option Observable → Type 0
Has o = has_metric o ≡ true

pub each_type : EachTypeHasAMetric
unfolding measures
each_type kind =
    cond_both (kind == 1) _ _ Has (λ _. refl) (λ _.
    cond_both (kind == 2) _ _ Has (λ _. refl) (λ _.
    cond_both (kind == 3) _ _ Has (λ _. refl) (λ _.
    cond_both (kind == 4) _ _ Has (λ _. refl) (λ _.
    cond_both (kind == 5) _ _ Has (λ _. refl) (λ _.
    cond_both (kind == 6) _ _ Has (λ _. refl) (λ _.
    cond_both (kind == 7) _ _ Has (λ _. refl) (λ _.
    cond_both (kind == 8) _ _ Has (λ _. refl) (λ _.
    cond_both (kind == 9) _ _ Has (λ _. refl) (λ _.
    cond_both (kind == 10) _ _ Has (λ _. refl) (λ _.
    cond_both (kind == 11) _ _ Has (λ _. refl) (λ _.
    cond_both (kind == 12) _ _ Has (λ _. refl) (λ _.
    cond_both (kind == 13) _ _ Has (λ _. refl) (λ _.
    cond_both (kind == 14) _ _ Has (λ _. refl) (λ _.
    cond_both (kind == 15) _ _ Has (λ _. refl) (λ _.
    cond_both (kind == 16) _ _ Has (λ _. refl) (λ _.
    cond_both (kind == 17) _ _ Has (λ _. refl) (λ _.
    cond_both (kind == 18) _ _ Has (λ _. refl) (λ _.
    cond_both (kind == 19) _ _ Has (λ _. refl) (λ _.
    cond_both (kind == 20) _ _ Has (λ _. refl) (λ _.
    cond_both (kind == 21) _ _ Has (λ _. refl) (λ _.
    cond_both (kind == 22) _ _ Has (λ _. refl) (λ _.
    cond_both (kind == 23) _ _ Has (λ _. refl) (λ _.
    cond_both (kind == 24) _ _ Has (λ _. refl) (λ _.
    cond_both (kind == 128) _ _ Has (λ _. refl) (λ _.
    cond_both (kind == 129) _ _ Has (λ _. refl) (λ _.
    cond_both (kind == 130) _ _ Has (λ _. refl) (λ _.
    cond_both (kind == 131) _ _ Has (λ _. refl) (λ _.
    cond_both (kind == 132) _ _ Has (λ _. refl) (λ _.
    cond_both (kind == 133) _ _ Has (λ _. refl) (λ _.
    cond_both (kind == 134) _ _ Has (λ _. refl) (λ _.
    cond_both (kind == 135) _ _ Has (λ _. refl) (λ _.
    cond_both (kind == 136) _ _ Has (λ _. refl) (λ _.
    cond_both (kind == 137) _ _ Has (λ _. refl) (λ _.
    cond_both (kind == 138) _ _ Has (λ _. refl) (λ _.
    cond_both (kind == 139) _ _ Has (λ _. refl) (λ _.
    cond_both (kind == 140) _ _ Has (λ _. refl) (λ _.
    cond_both (kind == 141) _ _ Has (λ _. refl) (λ _.
    cond_both (kind == 142) _ _ Has (λ _. refl) (λ _.
    cond_both (kind == 143) _ _ Has (λ _. refl) (λ _.
    cond_both (kind == 144) _ _ Has (λ _. refl) (λ _.
    cond_both (kind == 145) _ _ Has (λ _. refl) (λ _.
    cond_both (kind == 146) _ _ Has (λ _. refl) (λ _.
    cond_both (kind == 147) _ _ Has (λ _. refl) (λ _.
    refl))))))))))))))))))))))))))))))))))))))))))))
