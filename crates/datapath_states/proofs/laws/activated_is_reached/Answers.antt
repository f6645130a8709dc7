use Rattle.std.proofs.Common.{◌≡◌, List, true, false, [], ◌∷◌, refl, arith}
use Rattle.std.proofs.lemmas.List.Elements.{All-from_recursion}
use Rattle.datapath_states.specs.declared.machine.PathInputs.{PathInputs}
use Rattle.datapath_states.specs.declared.state.PathState.TheVariants.{Activated, TxTurnOn}
use Rattle.datapath_states.specs.Transitions.{next_of}
use Rattle.datapath_states.specs.Runs.{machine, IsUp}
use Rattle.module_states.proofs.Countdown.{arrives}
use Rattle.datapath_states.proofs.Distances.{NearActivated, nearer_activated, at_activated, near_activated}
use Rattle.datapath_states.proofs.laws.activated_is_reached.Goals as goal

pub returns-clause-in_five : goal.returns-clause-in_five
returns-clause-in_five c state = arrives machine NearActivated IsUp nearer_activated Activated at_activated 5 state (near_activated state)

pub returns-clause-not_in_four : goal.returns-clause-not_in_four
unfolding next_of
returns-clause-not_in_four c in_four =
    let turn : PathInputs = record { down = false; done = true } in
    let turns : List PathInputs = turn ∷ turn ∷ turn ∷ turn ∷ [] in
    let up = All-from_recursion IsUp turns (refl, (refl, (refl, (refl, tt)))) in
    let there : TxTurnOn ≡ Activated = in_four turns up ((λ _. refl), ((λ _. refl), ((λ _. refl), ((λ _. refl), tt)))) (omega arith) in
    cc
