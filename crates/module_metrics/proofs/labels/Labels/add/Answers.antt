use Rattle.std.proofs.Common.{◌≡◌, ◌++◌, ◌∷◌, [], None, sym, subst, arith}
use Rattle.std.proofs.lemmas.Grind.{common_steps}
use Rattle.module_metrics.specs.AddedLabels.{AreAdded}
use Rattle.module_metrics.specs.CommonLabels.{key_fault}
use Rattle.module_metrics.specs.Exposition.{label}
use Rattle.module_metrics.specs.MetricData.{labels_in}
use Rattle.module_metrics.proofs.MoreLabels.{added_more}
use Rattle.module_metrics.proofs.labels.Labels.add.Goals as goal

pub invariant_of-self : goal.invariant_of-self
invariant_of-self c =
    let same : labels_in c.add_label.new.labels ≡ labels_in c.self.inside.labels = grind (arith, common_steps) in
    subst (λ ls. AreAdded ls) (sym same) c.self.invariant

pub invariant_of-self-2 : goal.invariant_of-self-2
invariant_of-self-2 c =
    let old = labels_in c.self.inside.labels in
    let key = c.in-Some.key.now in
    let value = c.in-Some.value.now in
    let none : key_fault old key ≡ None = grind (arith, common_steps) in
    let more : labels_in c.add_label.new.labels ≡ old ++ label key value ∷ [] = grind (arith, common_steps) in
    subst (λ ls. AreAdded ls) (sym more) (added_more old key value none c.self.invariant)
