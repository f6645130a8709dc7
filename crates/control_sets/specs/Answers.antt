-- What provisioning and activation answer, as the number of their steps or a fault. (docs/bus.md, "Procedures"; this
-- project's own)
use Rattle.std.specs.Prelude.{ℕ, Result, Ok, Err}
use Rattle.control_sets.specs.declared.fault.ProvisionFault.{ProvisionFault}
use Rattle.control_sets.specs.declared.procedures.runner.Provisioned.{Provisioned}
use Rattle.control_sets.specs.declared.procedures.runner.Activated.{Activated}

abbrev pub provisioned_steps : Result Provisioned ProvisionFault → Result ℕ ProvisionFault
provisioned_steps (Ok provisioned) = Ok provisioned.steps
provisioned_steps (Err fault) = Err fault

abbrev pub activated_steps : Result Activated ProvisionFault → Result ℕ ProvisionFault
activated_steps (Ok activated) = Ok activated.steps
activated_steps (Err fault) = Err fault
