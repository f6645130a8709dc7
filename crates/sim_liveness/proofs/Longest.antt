-- How long it takes at most, where no counter and no delay is longer than this.
use Rattle.std.proofs.Common.{ℕ, ◌+◌, ◌*◌, ◌≤◌, arith}
use Rattle.module_states.specs.declared.state.ModuleState.{ModuleState}
use Rattle.module_states.specs.declared.state.ModuleState.TheVariants as module_is
use Rattle.datapath_states.specs.declared.state.PathState.{PathState}
use Rattle.datapath_states.specs.declared.state.PathState.TheVariants as path_is
use Rattle.sim_module.specs.declared.delays.Delays.{Delays}
use Rattle.sim_liveness.specs.Timing.{HaveTime, ModuleRuns, Runs, until_down, until_ready, until_up}

pub longest_down : (most : ℕ) (delays : Delays) (path : PathState) (left : ℕ) → HaveTime most delays → Runs most path left → until_down delays path left ≤ 3 * most + 2
longest_down most delays path_is.Deactivated left time runs = omega arith
longest_down most delays path_is.Deinit left time runs = omega (arith, runs.1)
longest_down most delays path_is.Initialized left time runs = omega (arith, time.deinit.1)
longest_down most delays path_is.TxTurnOff left time runs = omega (arith, runs.1, time.deinit.1)
longest_down most delays path_is.Activated left time runs = omega (arith, time.turn_off.1, time.deinit.1)
longest_down most delays path_is.TxTurnOn left time runs = omega (arith, runs.1, time.turn_off.1, time.deinit.1)
longest_down most delays path_is.Init left time runs = omega (arith, runs.1, time.deinit.1)

pub longest_up : (most : ℕ) (delays : Delays) (path : PathState) (left : ℕ) → HaveTime most delays → Runs most path left → until_up delays path left ≤ 3 * most + 2
longest_up most delays path_is.Activated left time runs = omega arith
longest_up most delays path_is.TxTurnOn left time runs = omega (arith, runs.1)
longest_up most delays path_is.Initialized left time runs = omega (arith, time.turn_on.1)
longest_up most delays path_is.Init left time runs = omega (arith, runs.1, time.turn_on.1)
longest_up most delays path_is.Deactivated left time runs = omega (arith, time.init.1, time.turn_on.1)
longest_up most delays path_is.TxTurnOff left time runs = omega (arith, runs.1, time.turn_on.1)
longest_up most delays path_is.Deinit left time runs = omega (arith, runs.1, time.init.1, time.turn_on.1)

pub longest_ready : (most : ℕ) (delays : Delays) (state : ModuleState) (left : ℕ) → HaveTime most delays → ModuleRuns most state left → until_ready delays state left ≤ 2 * most + 1
longest_ready most delays module_is.Ready left time runs = omega arith
longest_ready most delays module_is.PwrUp left time runs = omega (arith, runs.1)
longest_ready most delays module_is.LowPwr left time runs = omega (arith, time.power_up.1)
longest_ready most delays module_is.PwrDn left time runs = omega (arith, runs.1, time.power_up.1)
longest_ready most delays module_is.Fault left time runs = absurd runs
