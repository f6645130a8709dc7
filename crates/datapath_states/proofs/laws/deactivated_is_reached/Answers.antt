use Rattle.std.proofs.Common.{◌≡◌, List, true, [], ◌∷◌, refl, arith}
use Rattle.std.proofs.lemmas.List.Elements.{All-from_recursion}
use Rattle.datapath_states.specs.declared.machine.PathInputs.{PathInputs}
use Rattle.datapath_states.specs.declared.state.PathState.TheVariants.{Deactivated, Deinit}
use Rattle.datapath_states.specs.Transitions.{next_of}
use Rattle.datapath_states.specs.Runs.{machine, IsDown}
use Rattle.module_states.proofs.Countdown.{arrives}
use Rattle.datapath_states.proofs.Distances.{NearDeactivated, nearer_deactivated, at_deactivated, near_deactivated}
use Rattle.datapath_states.proofs.laws.deactivated_is_reached.Goals as goal

pub returns-clause-in_five : goal.returns-clause-in_five
returns-clause-in_five c state = arrives machine NearDeactivated IsDown nearer_deactivated Deactivated at_deactivated 5 state (near_deactivated state)

pub returns-clause-not_in_four : goal.returns-clause-not_in_four
unfolding next_of
returns-clause-not_in_four c in_four =
    let turn : PathInputs = record { down = true; done = true } in
    let turns : List PathInputs = turn ∷ turn ∷ turn ∷ turn ∷ [] in
    let down = All-from_recursion IsDown turns (refl, (refl, (refl, (refl, tt)))) in
    let there : Deinit ≡ Deactivated = in_four turns down ((λ _. refl), ((λ _. refl), ((λ _. refl), ((λ _. refl), tt)))) (omega arith) in
    cc
