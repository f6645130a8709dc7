-- From what a procedure on a bus ensures to the outcomes of provisioning and activation of a plan.
use Rattle.std.proofs.Common.{◌≡◌, ℕ, List, length, refl, subst}
use Rattle.bus_model.specs.Runs.{IsFull, Seen}
use Rattle.field_tables.specs.LaneSets.{Lanes}
use Rattle.applications.specs.Advertised.{Advertised}
use Rattle.plan_certificate.specs.declared.path.Path.{Path}
use Rattle.control_sets.specs.ControlBytes.{control_bytes}
use Rattle.control_sets.specs.Tasks.{activation, provisioning}
use Rattle.control_sets.specs.declared.procedures.task.Task.{Task}
use Rattle.control_sets.specs.Pages.{History}
use Rattle.control_sets.specs.Procedures.{IsOutcome}
use Rattle.control_sets.specs.OutcomeAnswers.{Answer}
use Rattle.control_sets.specs.OutcomeOfProvisioning.{IsProvisioning}
use Rattle.control_sets.specs.OutcomeOfActivation.{IsActivation}
use Rattle.control_sets.proofs.OutcomeIsProvisioning.{is_provisioning}
use Rattle.control_sets.proofs.OutcomeIsActivation.{is_activation}

eight_bytes : (advert : Advertised) (paths : List Path) → length (control_bytes advert paths) ≡ 8
unfolding control_bytes
eight_bytes advert paths = refl

module _ {S : Type 0} (after : Seen S) (advert : Advertised) (paths : List Path) (made : List ℕ) (are : made ≡ control_bytes advert paths) (lanes found : Lanes) (is : found ≡ lanes) (answer : Answer) (history : History) where
  pub provisions : IsOutcome (provisioning made found) after history answer → IsProvisioning (control_bytes advert paths) lanes (IsFull after) history answer
  provisions outcome = is_provisioning (control_bytes advert paths) lanes after history answer (eight_bytes advert paths) (subst (λ (tasks : List Task). IsOutcome tasks after history answer) (λ i. provisioning (are i) (is i)) outcome)

  pub activates : IsOutcome (activation made found) after history answer → IsActivation (control_bytes advert paths) lanes (IsFull after) history answer
  activates outcome = is_activation (control_bytes advert paths) lanes after history answer (eight_bytes advert paths) (subst (λ (tasks : List Task). IsOutcome tasks after history answer) (λ i. activation (are i) (is i)) outcome)
