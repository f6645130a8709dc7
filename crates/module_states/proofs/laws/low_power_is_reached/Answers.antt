use Rattle.std.proofs.Common.{◌≡◌, List, true, [], ◌∷◌, refl, arith}
use Rattle.std.proofs.lemmas.List.Elements.{All-from_recursion}
use Rattle.module_states.specs.declared.machine.ModuleInputs.{ModuleInputs}
use Rattle.module_states.specs.declared.state.ModuleState.TheVariants.{LowPwr, PwrDn}
use Rattle.module_states.specs.Transitions.{next_of}
use Rattle.module_states.specs.Runs.{machine, PowersDown}
use Rattle.module_states.proofs.Countdown.{arrives}
use Rattle.module_states.proofs.Distances.{NearLowPwr, nearer_low_pwr, at_low_pwr, near_low_pwr}
use Rattle.module_states.proofs.laws.low_power_is_reached.Goals as goal

pub returns-clause-in_three : goal.returns-clause-in_three
returns-clause-in_three c state sound = arrives machine NearLowPwr PowersDown nearer_low_pwr LowPwr at_low_pwr 3 state (near_low_pwr state sound)

pub returns-clause-not_in_two : goal.returns-clause-not_in_two
unfolding next_of
returns-clause-not_in_two c in_two =
    let turn : ModuleInputs = record { low_power = true; deactivated = true; done = true } in
    let turns : List ModuleInputs = turn ∷ turn ∷ [] in
    let there : PwrDn ≡ LowPwr = in_two turns (All-from_recursion PowersDown turns ((refl, refl), ((refl, refl), tt))) ((λ _. refl), ((λ _. refl), tt)) (omega arith) in
    cc
