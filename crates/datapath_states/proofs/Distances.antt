-- How many turns each state is away from DPDeactivated and from DPActivated.
use Rattle.std.proofs.Common.{◌≡◌, ℕ, ◌≤◌, refl, arith}
use Rattle.datapath_states.specs.declared.state.PathState.{PathState}
use Rattle.datapath_states.specs.declared.state.PathState.TheVariants.{Deactivated, Init, Deinit, Activated, TxTurnOn, TxTurnOff, Initialized}
use Rattle.datapath_states.specs.Transitions.{next_of}
use Rattle.datapath_states.specs.Runs.{machine, IsDown, IsUp}
use Rattle.module_states.proofs.Countdown.{Nearer}

-- the turns of a lane that is down
abbrev pub turns_down : PathState → ℕ
turns_down Deactivated = 0
turns_down Deinit = 1
turns_down Initialized = 2
turns_down Init = 3
turns_down TxTurnOff = 3
turns_down Activated = 4
turns_down TxTurnOn = 5

-- the state is at most n turns away from DPDeactivated
abbrev pub NearDeactivated : ℕ → PathState → Type 0
NearDeactivated n state = turns_down state ≤ n

pub nearer_deactivated : Nearer machine NearDeactivated IsDown
unfolding next_of
nearer_deactivated n Deactivated inputs near down completes = rw down (omega arith)
nearer_deactivated n _ inputs near down completes = grind (arith, down, completes)

pub at_deactivated : (state : PathState) → NearDeactivated 0 state → state ≡ Deactivated
at_deactivated Deactivated near = refl
at_deactivated _ near = absurd (omega arith)

pub near_deactivated : (state : PathState) → NearDeactivated 5 state
near_deactivated Deactivated = omega arith
near_deactivated _ = omega arith

-- the turns of a lane that isn't down
abbrev pub turns_up : PathState → ℕ
turns_up Activated = 0
turns_up TxTurnOn = 1
turns_up Initialized = 2
turns_up Init = 3
turns_up TxTurnOff = 3
turns_up Deactivated = 4
turns_up Deinit = 5

-- the state is at most n turns away from DPActivated
abbrev pub NearActivated : ℕ → PathState → Type 0
NearActivated n state = turns_up state ≤ n

pub nearer_activated : Nearer machine NearActivated IsUp
unfolding next_of
nearer_activated n Deactivated inputs near up completes = rw up (omega arith)
nearer_activated n _ inputs near up completes = grind (arith, up, completes)

pub at_activated : (state : PathState) → NearActivated 0 state → state ≡ Activated
at_activated Activated near = refl
at_activated _ near = absurd (omega arith)

pub near_activated : (state : PathState) → NearActivated 5 state
near_activated Deactivated = omega arith
near_activated _ = omega arith
