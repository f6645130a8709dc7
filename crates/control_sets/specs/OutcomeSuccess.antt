-- What a success of provisioning has read. (docs/bus.md, "Outcomes"; OIF-CMIS-05.0, the Active Control Set of page 11h)
use Rattle.std.specs.Prelude.{◌≡◌, ℕ, Bool, List, ◌∷◌}
use Rattle.bus_model.specs.declared.operation.Step.{Step}
use Rattle.conversations.specs.Selecting.{trusted}
use Rattle.control_sets.specs.Pages.{History}
use Rattle.control_sets.specs.OutcomeSteps.{Gives}
use Rattle.control_sets.specs.OutcomeOperations.{Confirms, read_active, status_page}

-- the last step read these control bytes as active, and those before it confirm page 11h; with doubts, those since the newest refusal
pub record ReadsActive (doubts : Bool) (control : List ℕ) (history : History) : Type 0 where
  pub last : Step
  pub before : History
  pub split : history ≡ last ∷ before
  pub gives : Gives read_active control last
  pub confirmed : Confirms status_page (trusted doubts before)
