use Rattle.std.proofs.Common.{[], subst}
use Rattle.control_sets.specs.declared.procedures.procedure.Work.TheVariants.{Provisioning}
use Rattle.firmware_api.specs.KeptConversations.{Bringing}
use Rattle.firmware_api.specs.Patiences.{doubts, given}
use Rattle.firmware_api.specs.SavedConversations.{IsSavedAt}
use Rattle.firmware_api.proofs.conversation.dovecounter_provision_begin.Goals as goal

pub returns : goal.returns
returns c halves =
    subst (λ lanes. IsSavedAt (Bringing (Provisioning c.args.control.now lanes) (doubts c.args.patience.now) (doubts c.args.patience.now)) (given c.args.patience.now) [] c.put_tasks.new.conversation halves) c.from-lanes.ensures
    (c.put_tasks.ensures halves)
