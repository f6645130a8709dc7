-- Runs of the data path state machine, turn after turn (OIF-CMIS-05.0, section 6.3.3 Data Path State
-- Machine).
use Rattle.std.specs.Prelude.{Bool, true, false, IsTrue}
use Rattle.std.specs.Bool.{IsFalse}
use Rattle.module_states.specs.Machines.{Machine}
use Rattle.datapath_states.specs.declared.machine.PathInputs.{PathInputs}
use Rattle.datapath_states.specs.declared.state.PathState.{PathState}
use Rattle.datapath_states.specs.declared.state.PathState.TheVariants.{Init, Deinit, TxTurnOn, TxTurnOff}
use Rattle.datapath_states.specs.Transitions.{next_of}

-- the states that last until their step is done
abbrev pub is_transient : PathState → Bool
is_transient Init = true
is_transient Deinit = true
is_transient TxTurnOn = true
is_transient TxTurnOff = true
is_transient _ = false

abbrev pub machine : Machine PathState PathInputs
machine = record { next = next_of; is_transient = is_transient; is_done = λ inputs. inputs.done }

-- inputs of a lane that is down
abbrev pub IsDown : PathInputs → Type 0
IsDown inputs = IsTrue inputs.down

-- inputs of a lane that isn't
abbrev pub IsUp : PathInputs → Type 0
IsUp inputs = IsFalse inputs.down
