use Rattle.bus_model.proofs.OneReply.{same_steps}
use Rattle.bus_model.proofs.laws.one_reply.Goals as goal

pub returns : goal.returns
returns g c = λ state these those. same_steps g.D.Device.conduct these those state
