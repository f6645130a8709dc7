use Rattle.firmware_update.proofs.Accepted.{of_all, of_received}
use Rattle.firmware_laws.proofs.laws.accepted_bytes_are_the_file.Goals as goal

pub returns-clause-part : goal.returns-clause-part
returns-clause-part c file history header address safe got = of_received file header address history safe got

pub returns-clause-whole : goal.returns-clause-whole
returns-clause-whole c file history safe may = of_all file history safe may
