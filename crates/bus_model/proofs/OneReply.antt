-- A bus that does as a script says answers the same operations by the same steps.
use Rattle.std.proofs.Common.{◌≡◌, List, [], ◌∷◌, refl, sym, ap, ◌∙◌}
use Rattle.std.specs.Prelude.{map}
use Rattle.bus_model.specs.declared.operation.Step.{Step}
use Rattle.bus_model.specs.declared.script.Directive.{Directive}
use Rattle.bus_model.specs.Conduct.{Conduct}
use Rattle.bus_model.specs.Runs.{MayInTurn}
use Rattle.bus_model.specs.ScriptedBus.{transacted, script_rules}

same_step : (this that : Step) → this.op ≡ that.op → this.reply ≡ that.reply → this ≡ that
same_step this that ops replies = ap (λ op. record { op = op; reply = this.reply }) ops ∙ ap (λ reply. record { op = that.op; reply = reply }) replies

pub same_steps : {S : Type 0} (conduct : Conduct S) (these those : List Step) (state : List Directive × S) →
    map (λ step. step.op) these ≡ map (λ step. step.op) those → MayInTurn (script_rules conduct) state these → MayInTurn (script_rules conduct) state those → these ≡ those
same_steps conduct [] [] state ops may might = refl
same_steps conduct [] (that ∷ those) state ops may might = cc
same_steps conduct (this ∷ these) [] state ops may might = cc
same_steps conduct (this ∷ these) (that ∷ those) state ops may might =
    let op : this.op ≡ that.op = cc in
    let left : map (λ (step : Step). step.op) these ≡ map (λ (step : Step). step.op) those = cc in
    let first : this ≡ that = same_step this that op (may.0 ∙ ap (λ op. (transacted conduct op state).0) op ∙ sym might.0) in
    let rest : MayInTurn (script_rules conduct) ((script_rules conduct).after state this) those = rw first might.1 in
    rw first (ap (λ steps. that ∷ steps) (same_steps conduct these those _ left may.1 rest))
