use Rattle.firmware_laws.proofs.Delivers.{delivers, delivers_reply}
use Rattle.firmware_laws.proofs.bus_laws.each_message_can_be_delivered.Goals as goal

pub returns-clause-silent : goal.returns-clause-silent
returns-clause-silent c conduct sent timing before reply status few silent e = delivers sent timing conduct before reply e status few silent

pub returns-clause-replied : goal.returns-clause-replied
returns-clause-replied c conduct sent timing before reply status few must e some most = delivers_reply sent timing conduct before reply e status few must some most
