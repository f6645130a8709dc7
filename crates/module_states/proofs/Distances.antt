-- How many turns each state is away from ModuleLowPwr and from ModuleReady.
use Rattle.std.proofs.Common.{◌≡◌, ◌≢◌, ℕ, ◌≤◌, refl, arith}
use Rattle.module_states.specs.declared.state.ModuleState.{ModuleState}
use Rattle.module_states.specs.declared.state.ModuleState.TheVariants.{LowPwr, PwrUp, Ready, PwrDn, Fault}
use Rattle.module_states.specs.Transitions.{next_of}
use Rattle.module_states.specs.Runs.{machine, PowersDown, PowersUp}
use Rattle.module_states.proofs.Countdown.{Nearer}

-- the state is at most n turns away from ModuleLowPwr
abbrev pub NearLowPwr : ℕ → ModuleState → Type 0
NearLowPwr n LowPwr = 0 ≤ n
NearLowPwr n PwrDn = 1 ≤ n
NearLowPwr n Ready = 2 ≤ n
NearLowPwr n PwrUp = 3 ≤ n
NearLowPwr n Fault = ⊥

pub nearer_low_pwr : Nearer machine NearLowPwr PowersDown
unfolding next_of
nearer_low_pwr n Fault inputs near such completes = near
nearer_low_pwr n _ inputs near such completes = grind (arith, such.0, such.1, completes)

pub at_low_pwr : (state : ModuleState) → NearLowPwr 0 state → state ≡ LowPwr
at_low_pwr LowPwr near = refl
at_low_pwr Fault near = absurd near
at_low_pwr _ near = absurd (omega arith)

-- .. and from ModuleReady
abbrev pub NearReady : ℕ → ModuleState → Type 0
NearReady n Ready = 0 ≤ n
NearReady n PwrUp = 1 ≤ n
NearReady n LowPwr = 2 ≤ n
NearReady n PwrDn = 3 ≤ n
NearReady n Fault = ⊥

pub nearer_ready : Nearer machine NearReady PowersUp
unfolding next_of
nearer_ready n Fault inputs near such completes = near
nearer_ready n _ inputs near such completes = grind (arith, such, completes)

pub at_ready : (state : ModuleState) → NearReady 0 state → state ≡ Ready
at_ready Ready near = refl
at_ready Fault near = absurd near
at_ready _ near = absurd (omega arith)

-- any state but ModuleFault is at most three turns away
pub near_low_pwr : (state : ModuleState) → state ≢ Fault → NearLowPwr 3 state
near_low_pwr Fault sound = sound refl
near_low_pwr _ sound = omega arith

pub near_ready : (state : ModuleState) → state ≢ Fault → NearReady 3 state
near_ready Fault sound = sound refl
near_ready _ sound = omega arith
