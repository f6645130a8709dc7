use Rattle.std.proofs.Common.{◌≡◌, List, true, false, [], ◌∷◌, refl, arith}
use Rattle.std.proofs.lemmas.List.Elements.{All-from_recursion}
use Rattle.module_states.specs.declared.machine.ModuleInputs.{ModuleInputs}
use Rattle.module_states.specs.declared.state.ModuleState.TheVariants.{PwrUp, Ready}
use Rattle.module_states.specs.Transitions.{next_of}
use Rattle.module_states.specs.Runs.{machine, PowersUp}
use Rattle.module_states.proofs.Countdown.{arrives}
use Rattle.module_states.proofs.Distances.{NearReady, nearer_ready, at_ready, near_ready}
use Rattle.module_states.proofs.laws.ready_is_reached.Goals as goal

pub returns-clause-in_three : goal.returns-clause-in_three
returns-clause-in_three c state sound = arrives machine NearReady PowersUp nearer_ready Ready at_ready 3 state (near_ready state sound)

pub returns-clause-not_in_two : goal.returns-clause-not_in_two
unfolding next_of
returns-clause-not_in_two c in_two =
    let turn : ModuleInputs = record { low_power = false; deactivated = true; done = true } in
    let turns : List ModuleInputs = turn ∷ turn ∷ [] in
    let there : PwrUp ≡ Ready = in_two turns (All-from_recursion PowersUp turns (refl, (refl, tt))) ((λ _. refl), ((λ _. refl), tt)) (omega arith) in
    cc
