use Rattle.conversations.proofs.DoubtLaws.{confirms_stores}
use Rattle.conversations.proofs.laws.no_store_follows_a_refusal_unconfirmed.Goals as goal

pub returns : goal.returns
returns c may addressing needs own events adds = confirms_stores may addressing needs own events adds
