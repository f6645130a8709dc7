use Rattle.explicit_provisioning.specs.Comparing.{after, begun, wants}
use Rattle.explicit_provisioning.proofs.HeardLaws.{heard_goes}
use Rattle.explicit_provisioning.proofs.comparing.ComparingSettingsConversation.next.Goals as goal

pub returns-clause-goes_on : goal.returns-clause-goes_on
returns-clause-goes_on c events told = heard_goes wants (after c.args.self.now.change) (begun c.args.self.now.change) events c.args.self.now.stage told c.op.result c.op.ensures.value
