use Rattle.std.proofs.Common.{arith}
use Rattle.datapath_states.specs.declared.state.PathState.TheVariants.{Init}
use Rattle.datapath_states.specs.Transitions.{next_of}
use Rattle.datapath_states.proofs.laws.transient_states_wait.Goals as goal

pub returns-clause-transient : goal.returns-clause-transient
unfolding next_of
returns-clause-transient c Init inputs transient = grind arith
returns-clause-transient c _ inputs transient = first_of (cc, grind arith)

pub returns-clause-steady : goal.returns-clause-steady
unfolding next_of
returns-clause-steady c Init inputs steady = cc
returns-clause-steady c _ inputs steady = cc
