use Rattle.std.proofs.Common.{Some, ap, sym, ◌∙◌}
use Rattle.explicit_provisioning.specs.declared.fault.ExplicitFault.{ExplicitFault}
use Rattle.saved_provisioning.proofs.ReplyFaults.{fault_back}
use Rattle.saved_provisioning.specs.declared.numbers.SavedExplicitFault.{SavedExplicitFault}
use Rattle.saved_provisioning.specs.SavedProvisioning.{as_without, explicit_fault_in}
use Rattle.saved_provisioning.proofs.saving.numbers_of.Goals as goal

pub returns-in-Provision : goal.returns-in-Provision
returns-in-Provision c =
    ap (λ (saved : SavedExplicitFault). explicit_fault_in saved) c.numbers.ensures ∙ ap as_without (fault_back (Some c.in-Provision.fault))
    ∙ ap (λ (fault : ExplicitFault). Some (Some fault)) (sym c.in-Provision.is)
