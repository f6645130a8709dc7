use Rattle.std.proofs.Common.{refl}
use Rattle.saved_provisioning.proofs.SavedBack.{provisioning_back}
use Rattle.saved_provisioning.proofs.saving.save.Goals as goal

pub returns : goal.returns
returns c =
    let change = c.args.it.now.conversation.conversation.conversation.conversation.first.change in
    provisioning_back _ c.args.it.now c.requires.usual (record {
      magic = refl;
      tasks = c.save_procedure-procedure.ensures;
      first = c.numbers_of_staging.ensures;
      last = c.numbers_of_comparing-comparing.ensures;
      look = c.numbers_of_look-look.ensures;
      change = λ i. record { lanes = c.byte-lanes.ensures.lanes i; settings = change.settings; tries = change.tries };
    })
