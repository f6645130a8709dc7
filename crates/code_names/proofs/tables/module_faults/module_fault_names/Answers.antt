use Rattle.std.proofs.Common.{refl}
use Rattle.code_names.specs.ModuleFaults.{module_fault_names}
use Rattle.code_names.proofs.tables.module_faults.module_fault_names.Goals as goal

pub returns : goal.returns
unfolding module_fault_names
returns c = refl
