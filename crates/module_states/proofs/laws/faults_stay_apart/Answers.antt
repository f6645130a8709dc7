use Rattle.std.proofs.Common.{arith}
use Rattle.module_states.specs.declared.state.ModuleState.TheVariants.{Fault}
use Rattle.module_states.specs.Transitions.{next_of}
use Rattle.module_states.proofs.laws.faults_stay_apart.Goals as goal

pub returns : goal.returns
unfolding next_of
returns c Fault inputs = grind arith
returns c _ inputs = grind arith
