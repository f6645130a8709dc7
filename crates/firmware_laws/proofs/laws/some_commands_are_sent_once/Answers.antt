use Rattle.firmware_laws.proofs.Once.{once, queries_start}
use Rattle.firmware_laws.proofs.laws.some_commands_are_sent_once.Goals as goal

pub returns-clause-starts : goal.returns-clause-starts
returns-clause-starts c size header history may stands_in = queries_start history may.0 stands_in

pub returns-clause-runs : goal.returns-clause-runs
returns-clause-runs c size history safe may stands_in = once size history safe may stands_in
