use Rattle.explicit_provisioning.specs.Staging.{after, begun, wants}
use Rattle.explicit_provisioning.proofs.HeardLaws.{heard_goes}
use Rattle.explicit_provisioning.proofs.staging.StagingSettingsConversation.next.Goals as goal

pub returns-clause-goes_on : goal.returns-clause-goes_on
returns-clause-goes_on c events told = heard_goes wants (after c.args.self.now.change) begun events c.args.self.now.stage told c.op.result c.op.ensures.value
